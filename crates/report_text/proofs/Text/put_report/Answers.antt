-- `report_text::Text::put_report` meets its contract: that there is nothing, or the lines and right behind them the totals.
use Prim.Native.Nat.{◌*◌}
use Rattle.report_text.specs.Stored.{fields_kept}
use Rattle.report_text.proofs.Reports.{text_none, text_some}
use Rattle.report_text.proofs.Text.put_report.Goals as goal

pub returns-then-total-eq0 : goal.returns-then-total-eq0
returns-then-total-eq0 c =
    let a = c.args in
    text_none (fields_kept a.findings.now a.kept) a.total a.kept (128 * a.kept) c.if-total-eq0.true c.put_conform.ensures

pub returns : goal.returns
returns c =
    let a = c.args in
    text_some (fields_kept a.findings.now a.kept) a.total a.kept (128 * a.kept) c.if-total-eq0.false c.put_lines.ensures c.put_total.ensures
