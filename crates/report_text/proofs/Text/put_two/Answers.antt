-- `report_text::Text::put_two` meets its contract: the decimal of a number of two digits is theirs, one behind the other.
use mathlib.Core.Path.{sym, subst}
use mathlib.Core.List.{List}
use Prim.Native.Nat.{ℕ}
use native.Mathlib.Omega.{arith}
use Rattle.report_text.specs.Wrote.{Wrote}
use Rattle.report_text.proofs.Texts.{followed, two_digits}
use Rattle.report_text.proofs.Text.put_two.Goals as goal

pub returns : goal.returns
returns c =
    subst (λ (text : List ℕ). Wrote 2 text c.args.self.now c.put_digit-2.new.self) (sym (two_digits c.args.n c.requires.0 c.requires.1))
    (followed c.put_digit.ensures c.put_digit-2.ensures (omega arith))
