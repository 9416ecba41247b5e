use native.Mathlib.Omega.{arith}
use Rattle.mesh.specs.CellsRest.{cell_raw}
use Rattle.model_write.proofs.Passes.{cells_count, celling_step}
use Rattle.model_write.proofs.put_cells.Goals as goal

pub put_cell-p-requires : goal.put_cell-p-requires
put_cell-p-requires c = omega (arith, cells_count (cell_raw c.in-Some.cell) _ _ c.in-Some.ensures.steps, c.loop-cell.invariant.place)

pub loop-cell-preserved : goal.loop-cell-preserved
loop-cell-preserved c =
    let a = c.args in
    let o = c.loop-cell in
    let e = c.put_cell-p in
    celling_step a.out.now a.at _ o.out e.new.out o.p e.result (cell_raw c.in-Some.cell) _ _ o.invariant c.in-Some.ensures.steps e.ensures.put e.ensures.place
