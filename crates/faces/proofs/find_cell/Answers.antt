use native.Mathlib.Omega.{arith}
use Rattle.mesh.specs.CellsRest.{cell_raw}
use Rattle.faces.proofs.Finding.{finding_next, finding_here}
use Rattle.faces.proofs.find_cell.Goals as goal

pub returns-then-left-t : goal.returns-then-left-t
returns-then-left-t c =
    finding_here c.args.cells c.loop-number.invariant c.in-Some.number c.in-Some.ensures.steps.1 c.in-Some.cell c.in-Some.ensures.steps.0 (omega (arith, c.tally-t.ensures.faces.0))

pub loop-number-preserved : goal.loop-number-preserved
loop-number-preserved c =
    let t = c.tally-t in
    let s = c.in-Some.ensures.steps in
    finding_next c.loop-number.invariant (cell_raw c.in-Some.cell) s.0 _ s.2 t.result t.ensures.faces.0 t.ensures.words.0 t.ensures.words.1 (omega arith)
