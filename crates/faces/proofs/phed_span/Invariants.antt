use Prim.Native.Nat.{◌-◌}
use lib.ListN.{length}
use Rattle.faces.proofs.Polyhedra.{Running}
use Rattle.faces.proofs.phed_span.Given as goal

abbrev pub invariant-loop-at : goal.invariant-loop-at
invariant-loop-at l = Running l.words l.face l.left l.start l.at

abbrev pub decreases-loop-at : goal.decreases-loop-at
decreases-loop-at l = length l.words - l.at
