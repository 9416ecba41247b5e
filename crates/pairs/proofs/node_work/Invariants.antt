use Prim.Native.Nat.{ℕ, ◌+◌, ◌*◌, ◌≤◌, ◌^◌}
use mathlib.Core.List.{List}
use mathlib.Core.Path.{◌≡◌}
use lib.ListN.{length}
use Rattle.laws.specs.Lists.{pairs_of}
use Rattle.counting.specs.Counts.{below}
use Rattle.index.specs.declared.Places.{Places}
use Rattle.index.specs.Faces.{input, words_of, faces_with}
use Rattle.pairs.specs.Work.{node_work}
use Rattle.pairs.proofs.Sums.{left}
use Rattle.pairs.proofs.node_work.Given as goal

abbrev pub f : Places → List ℕ → ℕ → ℕ
f p b n = pairs_of (length (faces_with p (input p b) n))

abbrev pub invariant-loop-n : goal.invariant-loop-n
invariant-loop-n l = (l.total ≤ below l.n (words_of l.ix.at (input l.ix.at l.ix.base.now)) * 2 ^ 20) × (l.total + left (f l.ix.at l.ix.base.now) l.n l.ix.at.nodes ≡ node_work l.ix.at (input l.ix.at l.ix.base.now))
