-- `index::Index::list` meets its contract. Its ends are the offset of the node and the next one.
use Prim.Native.Nat.{ℕ, ◌+◌}
use mathlib.Core.Path.{ap}
use native.Mathlib.Omega.{arith}
use Rattle.index.proofs.Read.{list_long}
use Rattle.index.proofs.by_node.Index.list.Goals as goal

pub returns : goal.returns
returns c =
    let i = c.args.self.now in
    let start = ap (λ (k : ℕ). i.at.index + k) (i.indexed.offset c.args.v (omega (arith, c.requires))) in
    (start, omega (arith, start, list_long i.at i.base.now i.indexed c.args.v c.requires))
