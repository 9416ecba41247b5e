use Prim.Native.Nat.{◌≤◌}
use mathlib.Core.List.{map}
use lib.ListN.{length}
use Rattle.mesh.specs.Rings.{phed_rings}
use Rattle.mesh.specs.Steps.{ring_total}
use Rattle.mesh.specs.PhedRest.{phed_rest}
use Rattle.rings.proofs.Putting.{Putting}
use Rattle.tables.proofs.phed_lengths.Given as goal

abbrev pub invariant-loop-ring : goal.invariant-loop-ring
invariant-loop-ring l =
    Putting l.initial.work l.work l.at l.k (map length (phed_rings l.cell.words.now)) (map length (phed_rest l.ring-iterator))
    × (ring_total (phed_rest l.ring-iterator) ≤ length l.cell.words.now)
