use Rattle.mesh.specs.Lent.{lent}
use Rattle.mesh.specs.Model.{cells_of}
use Rattle.mesh.specs.CellsRest.{cells_rest}
use Rattle.model_write.proofs.Passes.{Celling}
use Rattle.model_write.proofs.put_cells.Given as goal

abbrev pub invariant-loop-cell : goal.invariant-loop-cell
invariant-loop-cell l = Celling l.initial.out l.at (cells_of (lent l.model.model)) l.out l.p (cells_rest l.cell-iterator)
