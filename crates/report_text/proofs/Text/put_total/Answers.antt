-- `report_text::Text::put_total` meets its contract: each text is written right behind the one before.
use native.Mathlib.Omega.{arith}
use Rattle.report.specs.Text.{total_line}
use Rattle.report_text.proofs.Texts.{followed}
use Rattle.report_text.proofs.Text.put_total.Goals as goal

pub returns : goal.returns
unfolding total_line
returns c =
    let name = followed {most = 27} c.put-2.ensures c.put_last.ensures (omega arith) in
    let total = followed {most = 48} c.put_spaced.ensures name (omega arith) in
    followed c.put.ensures total (omega arith)
