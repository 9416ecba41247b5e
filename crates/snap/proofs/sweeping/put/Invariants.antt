use Rattle.snap.specs.Steps.{put_all}
use lib.Seq.{slice}
use lib.ListN.{take}
use mathlib.Core.Path.{◌≡◌}
use Rattle.snap.proofs.sweeping.put.Given as goal

abbrev pub invariant-loop-j : goal.invariant-loop-j
invariant-loop-j l = (take l.k l.work ≡ take l.k l.initial.work) × (put_all l.k l.v (slice l.j l.e l.initial.work) l.work ≡ put_all l.k l.v (slice l.g l.e l.initial.work) l.initial.work)
