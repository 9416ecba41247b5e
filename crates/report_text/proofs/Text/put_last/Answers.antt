-- `report_text::Text::put_last` meets its contract: the number, and the end of the line behind it.
use native.Mathlib.Omega.{arith}
use Rattle.report_text.proofs.Texts.{followed}
use Rattle.report_text.proofs.Text.put_last.Goals as goal

pub returns : goal.returns
returns c = followed c.put_spaced.ensures c.put.ensures (omega arith)
