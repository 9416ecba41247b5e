use Prim.Native.Nat.{◌-◌}
use Rattle.snap.proofs.Taking.{Taking}
use Rattle.snap.proofs.space.Space.takes.Given as goal

abbrev pub invariant-loop-j : goal.invariant-loop-j
invariant-loop-j l = Taking l.self.coords.now l.self.tolerance l.initial.work l.i l.e l.g l.k l.work l.j l.last

abbrev pub decreases-loop-j : goal.decreases-loop-j
decreases-loop-j l = l.e - l.j
