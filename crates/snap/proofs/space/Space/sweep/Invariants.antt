use Rattle.geometry.specs.Coordinates.{node_count}
use Rattle.snap.specs.Steps.{weld_from, But}
use mathlib.Core.Path.{◌≡◌}
use Prim.Native.Nat.{◌+◌}
use Rattle.snap.proofs.space.Space.sweep.Given as goal

abbrev pub invariant-loop-i : goal.invariant-loop-i
invariant-loop-i l = But l.g (l.k + node_count l.self.coords.now) l.initial.work l.work × (weld_from l.self.coords.now l.self.tolerance l.k (node_count l.self.coords.now) l.i l.e l.work ≡ weld_from l.self.coords.now l.self.tolerance l.k (node_count l.self.coords.now) l.o l.e l.initial.work)
