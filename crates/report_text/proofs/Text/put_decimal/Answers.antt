-- `report_text::Text::put_decimal` meets its contract: the library's digits, at most 20, are the definition's.
use native.Mathlib.Omega.{arith}
use mathlib.Core.List.{List}
use mathlib.Core.Path.{◌≡◌, sym, ◌∙◌, subst}
use Prim.Native.Nat.{ℕ}
use Rattle.report.specs.Text.{decimal}
use Rattle.report_text.specs.Stored.{Stored}
use Rattle.report_text.proofs.Texts.{library_digits}
use Rattle.report_text.proofs.Text.put_decimal.Goals as goal

pub returns : goal.returns
unfolding decimal
returns c =
    let t = c.args.self.now in
    let put = c.put.ensures in
    let u = c.put.new.self in
    let is : c.as_bytes.result.now ≡ decimal c.args.n = c.as_bytes.ensures.value ∙ c.format.ensures.text ∙ sym (library_digits c.args.n c.ranges.n.fits) in
    record {
      same_reference = put.same_reference;
      stored = subst (λ (text : List ℕ). Stored t.out.now t.at text u.out.now u.at) is put.stored;
      few = omega (arith, c.format.ensures.fits, put.few);
      room = put.room;
    }
