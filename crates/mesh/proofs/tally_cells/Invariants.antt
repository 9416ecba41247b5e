use Rattle.mesh.specs.Model.{cells_from}
use Rattle.mesh.specs.Lent.{raw_rest}
use Rattle.mesh.proofs.CellTallies.{Counting}
use Rattle.mesh.proofs.tally_cells.Given as goal

abbrev pub invariant-loop-cell : goal.invariant-loop-cell
invariant-loop-cell l =
    Counting l.nodes (cells_from 0 l.model.kinds.now l.model.ends.now l.model.words.now) (raw_rest l.cell-iterator) l.all l.before
