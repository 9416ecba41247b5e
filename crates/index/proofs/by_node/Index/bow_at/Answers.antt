-- `index::Index::bow_at` meets its contract. The two words are those that the definition reads.
use Prim.Native.Nat.{ℕ}
use mathlib.Core.Bool.{not}
use mathlib.Core.Path.{ap}
use lib.Dec.{eqb}
use Rattle.index.proofs.Read.{bow_fits, read_bow}
use Rattle.index.proofs.by_node.Index.bow_at.Goals as goal

pub bounds-self-self-2 : goal.bounds-self-self-2
bounds-self-self-2 c =
    let i = c.args.self.now in bow_fits i.at i.base.now i.indexed c.args.g c.requires

pub returns : goal.returns
returns c =
    let i = c.args.self.now in ap (λ (x : ℕ). not (eqb x 0)) (read_bow i.at i.base.now i.indexed c.args.g c.requires)
