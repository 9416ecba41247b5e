use Rattle.mesh.specs.CellsRest.{cells_rest}
use Rattle.faces.proofs.Finding.{Finding}
use Rattle.faces.proofs.find_cell.Given as goal

abbrev pub invariant-loop-number : goal.invariant-loop-number
invariant-loop-number l = Finding (cells_rest l.cells) l.face (cells_rest l.number-iterator.iter) l.number-iterator.count l.from l.left l.start
