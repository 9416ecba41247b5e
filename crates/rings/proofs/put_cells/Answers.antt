use Rattle.mesh.specs.CellsRest.{cell_raw, cells_rest}
use Rattle.rings.proofs.Putting.{flat_cells, putting_next}
use Rattle.rings.proofs.put_cells.Goals as goal

pub loop-cell-preserved : goal.loop-cell-preserved
loop-cell-preserved c =
    let is = flat_cells (cell_raw c.in-Some.cell) (cells_rest c.next.new.self) _ c.in-Some.ensures.steps in
    putting_next c.loop-cell.invariant _ _ is _ _ c.put_cell-k.ensures
