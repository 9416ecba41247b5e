use Rattle.mesh.specs.CellsRest.{cell_raw, cells_rest}
use Rattle.rings.proofs.Putting.{putting_next}
use Rattle.tables.proofs.Passing.{lengths_next}
use Rattle.tables.proofs.put_lengths.Goals as goal

pub loop-cell-preserved : goal.loop-cell-preserved
loop-cell-preserved c =
    let is = lengths_next (cell_raw c.in-Some.cell) (cells_rest c.next.new.self) _ c.in-Some.ensures.steps in
    putting_next c.loop-cell.invariant _ _ is _ _ c.cell_lengths-k.ensures
