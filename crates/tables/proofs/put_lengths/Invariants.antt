use Rattle.mesh.specs.Lent.{lent}
use Rattle.mesh.specs.Model.{cells_of}
use Rattle.mesh.specs.CellsRest.{cells_rest}
use Rattle.rings.proofs.Putting.{Putting}
use Rattle.tables.proofs.Passing.{lengths_of}
use Rattle.tables.proofs.put_lengths.Given as goal

abbrev pub invariant-loop-cell : goal.invariant-loop-cell
invariant-loop-cell l = Putting l.initial.work l.work l.at l.k (lengths_of (cells_of (lent l.model.model))) (lengths_of (cells_rest l.cell-iterator))
