-- `report_text::Text::put_line` meets its contract: each text is written right behind the one before.
use native.Mathlib.Omega.{arith}
use Rattle.report.specs.Text.{line_of}
use Rattle.report_text.proofs.Texts.{followed}
use Rattle.report_text.proofs.Text.put_line.Goals as goal

pub returns : goal.returns
unfolding line_of
returns c =
    let b = followed {most = 43} c.put_spaced-4.ensures c.put_last.ensures (omega arith) in
    let a = followed {most = 64} c.put_spaced-3.ensures b (omega arith) in
    let second = followed {most = 85} c.put_spaced-2.ensures a (omega arith) in
    let first = followed {most = 106} c.put_spaced.ensures second (omega arith) in
    followed c.put_decimal.ensures first (omega arith)
