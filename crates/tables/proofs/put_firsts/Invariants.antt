use Prim.Native.Nat.{◌+◌}
use mathlib.Core.Path.{◌≡◌}
use mathlib.Core.List.{map}
use lib.ListN.{length}
use Rattle.laws.specs.Lists.{each}
use Rattle.laws.specs.Merging.{starts_of}
use Rattle.mesh.specs.Lent.{lent}
use Rattle.mesh.specs.Model.{cells_of}
use Rattle.mesh.specs.Rings.{rings_of}
use Rattle.mesh.specs.CellsRest.{cells_rest}
use Rattle.faces.specs.Spans.{rings_in}
use Rattle.rings.proofs.Putting.{Putting}
use Rattle.tables.proofs.put_firsts.Given as goal

abbrev pub invariant-loop-i : goal.invariant-loop-i
invariant-loop-i l =
    Putting l.initial.work l.work l.at (l.at + l.i-iterator.count) (starts_of 0 (map rings_of (cells_of (lent l.model.model)))) (starts_of l.n (map rings_of (cells_rest l.i-iterator.iter)))
    × (l.n + length (each rings_of (cells_rest l.i-iterator.iter)) ≡ length (rings_in (lent l.model.model)))
