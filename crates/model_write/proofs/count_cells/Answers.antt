use native.Mathlib.Omega.{arith}
use Rattle.mesh.specs.Lent.{lent}
use Rattle.mesh.specs.CellsRest.{cell_raw}
use Rattle.model_file.proofs.Accepting.{accepted}
use Rattle.model_write.proofs.Answering.{few_records}
use Rattle.model_write.proofs.Passes.{cells_count}
use Rattle.model_write.proofs.count_cells.Goals as goal

pub overflow_add-sum : goal.overflow_add-sum
overflow_add-sum c =
    let m = c.args.model.now in
    omega (arith, few_records (lent m.model) (accepted (lent m.model) m.accepted), cells_count (cell_raw c.in-Some.cell) _ _ c.in-Some.ensures.steps, c.loop-cell.invariant, c.cell_size-sum.ensures)

pub loop-cell-preserved : goal.loop-cell-preserved
loop-cell-preserved c = omega (arith, cells_count (cell_raw c.in-Some.cell) _ _ c.in-Some.ensures.steps, c.loop-cell.invariant, c.cell_size-sum.ensures)
