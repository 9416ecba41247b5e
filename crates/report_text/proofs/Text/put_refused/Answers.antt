-- `report_text::Text::put_refused` meets its contract: the word, and the number behind it.
use Prim.Native.Nat.{ℕ}
use mathlib.Core.Path.{subst}
use native.Mathlib.Omega.{arith}
use Rattle.report.specs.Text.{refused_line}
use Rattle.report_text.specs.Wrote.{Wrote}
use Rattle.report_text.proofs.Texts.{followed}
use Rattle.report_text.proofs.Text.put_refused.Goals as goal

pub returns : goal.returns
unfolding refused_line
returns c =
    subst (λ (n : ℕ). Wrote 32 (refused_line n) c.args.self.now c.put_last.new.self) c.number.ensures.value (followed c.put.ensures c.put_last.ensures (omega arith))
