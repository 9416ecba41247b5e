use Prim.Native.Nat.{ℕ, ◌+◌, ◌*◌, ◌≤◌, ◌^◌}
use mathlib.Core.List.{List}
use mathlib.Core.Path.{◌≡◌}
use lib.ListN.{length}
use Rattle.laws.specs.Lists.{triples_of}
use Rattle.index.specs.declared.Places.{Places}
use Rattle.index.specs.Faces.{input, nodes_of}
use Rattle.pairs.specs.Work.{triple_work}
use Rattle.pairs.proofs.Sums.{left}
use Rattle.pairs.proofs.triple_work.Given as goal

abbrev pub f : Places → List ℕ → ℕ → ℕ
f p b g = triples_of (length (nodes_of p (input p b) g))

abbrev pub invariant-loop-g : goal.invariant-loop-g
invariant-loop-g l = (l.total ≤ l.g * 2 ^ 18) × (l.total + left (f l.ix.at l.ix.base.now) l.g l.ix.at.faces ≡ triple_work l.ix.at (input l.ix.at l.ix.base.now))
