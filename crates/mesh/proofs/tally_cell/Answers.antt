use mathlib.Core.Path.{sym, ◌∙◌}
use Rattle.refusals.proofs.Told.{err_passed}
use Rattle.mesh.specs.Kinds.{kind_number}
use Rattle.mesh.specs.Steps.{cell_with}
use Rattle.mesh.proofs.CellKinds.{judged_count, judged_nodes, judged_well_lem}
use Rattle.mesh.proofs.KindNumbers.{number_on}
use Rattle.mesh.proofs.Counts.{cell_refused, cell_passed, counted_none, counted_some}
use Rattle.mesh.proofs.tally_cell.Goals as goal

pub returns-in_err-t : goal.returns-in_err-t
returns-in_err-t c =
    let a = c.args in
    let x = cell_with (kind_number a.kind) a.words.now in
    let n = counted_none x _ c.tally_kind.ensures _ _ (sym c.ok_or.ensures.value ∙ c.in_err-t.was) in
    rw (err_passed _ c.from_residual.ensures.1, n.0) (cell_refused a.nodes 0 x (judged_count a.nodes 0 x (number_on a.kind) n.1))

pub returns-then-nodes_off_unless : goal.returns-then-nodes_off_unless
returns-then-nodes_off_unless c =
    let a = c.args in
    let x = cell_with (kind_number a.kind) a.words.now in
    let n = counted_some x _ c.tally_kind.ensures _ _ (sym c.ok_or.ensures.value ∙ c.in_ok-t.was) in
    cell_refused a.nodes 0 x (judged_nodes a.nodes 0 x (number_on a.kind) n.0 (sym c.nodes_off_unless.ensures ∙ c.if-nodes_off_unless.true))

pub returns : goal.returns
returns c =
    let a = c.args in
    let x = cell_with (kind_number a.kind) a.words.now in
    let n = counted_some x _ c.tally_kind.ensures _ _ (sym c.ok_or.ensures.value ∙ c.in_ok-t.was) in
    cell_passed a.nodes 0 x c.in_ok-t.t (judged_well_lem a.nodes 0 x (number_on a.kind) n.0 (sym c.nodes_off_unless.ensures ∙ c.if-nodes_off_unless.false)) n.1
