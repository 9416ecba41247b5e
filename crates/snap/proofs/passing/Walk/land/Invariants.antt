use Prim.Native.Nat.{◌≤◌, ◌<◌}
use Rattle.snap.specs.Walks.{ReachedBy}
use Rattle.snap.proofs.passing.Walk.land.Given as goal

abbrev pub invariant-loop-step : goal.invariant-loop-step
invariant-loop-step l = (l.self.from ≤ l.last) × (l.last < l.self.end) × ReachedBy l.self l.last

abbrev pub decreases-loop-step : goal.decreases-loop-step
decreases-loop-step l = l.step
