use Rattle.mesh.specs.Lent.{lent}
use Rattle.mesh.specs.Model.{cells_of}
use Rattle.mesh.specs.CellsRest.{cells_rest}
use Rattle.rings.proofs.Putting.{Putting}
use Rattle.tables.specs.Owners.{owners_from}
use Rattle.tables.proofs.put_owners.Given as goal

abbrev pub invariant-loop-number : goal.invariant-loop-number
invariant-loop-number l =
    Putting l.initial.work l.work l.at l.k (owners_from 0 (cells_of (lent l.model.model))) (owners_from l.number-iterator.count (cells_rest l.number-iterator.iter))
