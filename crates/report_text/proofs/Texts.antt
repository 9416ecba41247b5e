-- Texts stored one behind the other, and the digits of a number.
use Prim.Native.Nat.{ℕ, ◌^◌, ◌+◌, ◌/◌, ◌%◌, ◌≤◌, ◌<◌}
use mathlib.Core.Path.{◌≡◌, sym, ap, ap₂, ◌∙◌}
use mathlib.Core.Bool.{Bool}
use mathlib.Core.List.{List, [], ◌∷◌, ◌++◌, append-nil}
use borrow.Author.Rules.{rules}
use borrow.Author.Tests.{lt-ltb, le-ltb}
use native.Mathlib.Omega.{arith}
use lib.ListN.{length-append}
use lib.Seq.{sets}
use Rattle.std.specs.Prelude.{cond}
use Rattle.std.specs.Fmt.{decimal as printed}
use Rattle.std.proofs.lemmas.Fmt.{decimal_from_prepends, length-decimal-le}
use Rattle.laws.proofs.Stores.{sets_append}
use Rattle.report.specs.Text.{digits_to, decimal}
use Rattle.report_text.specs.Stored.{Stored}
use Rattle.report_text.specs.Wrote.{Wrote}
use Rattle.report_text.specs.declared.Text.{Text}

-- a text, and one more right behind it
pub behind : (l l1 l2 : List ℕ) (at p q : ℕ) (xs ys : List ℕ) → Stored l at xs l1 p → Stored l1 p ys l2 q → Stored l at (xs ++ ys) l2 q
behind l l1 l2 at p q xs ys (e, d) (f, g) = (
  f ∙ (λ i. sets (e i) (d i) ys) ∙ sym (sets_append l at xs ys),
  omega (arith, g, d, length-append xs ys),
)

-- a text written, and one more behind it
pub followed : {a b most : ℕ} {xs ys : List ℕ} {s t u : Text} → Wrote a xs s t → Wrote b ys t u → a + b ≤ most → Wrote most (xs ++ ys) s u
followed {xs = xs} {ys = ys} {s = s} {t = t} {u = u} p q h =
    record {
      same_reference = q.same_reference ∙ p.same_reference;
      stored = behind s.out.now t.out.now u.out.now s.at t.at u.at xs ys p.stored q.stored;
      few = omega (arith, p.few, q.few, h);
      room = q.room ∙ p.room;
    }

-- a number's digits are those that the library writes
pub library_digits : (n : ℕ) → n < 2 ^ 64 → digits_to 20 n [] ≡ printed n
library_digits n h = decimal_from_prepends digits_to (search rules) 20 n [] h (search (rules, length-decimal-le 20)) ∙ append-nil (printed n)

-- the digits of a number of one, and of two
pub one_digit : (n : ℕ) → n < 10 → decimal n ≡ (48 + n) ∷ []
unfolding decimal
one_digit n h = ap (λ (b : Bool). cond b ((48 + n) ∷ []) (digits_to 19 (n / 10) ((48 + n % 10) ∷ []))) (lt-ltb n 10 h)

pub two_digits : (n : ℕ) → 10 ≤ n → n < 100 → decimal n ≡ decimal (n / 10) ++ decimal (n % 10)
unfolding decimal
two_digits n l h =
    let q : n / 10 < 10 = omega arith in
    let r : n % 10 < 10 = omega arith in
    ap (λ (b : Bool). cond b ((48 + n) ∷ []) (digits_to 19 (n / 10) ((48 + n % 10) ∷ []))) (le-ltb n 10 l)
    ∙ ap (λ (b : Bool). cond b ((48 + n / 10) ∷ (48 + n % 10) ∷ []) (digits_to 18 (n / 10 / 10) ((48 + n / 10 % 10) ∷ (48 + n % 10) ∷ []))) (lt-ltb (n / 10) 10 q)
    ∙ sym (ap₂ (λ (x y : List ℕ). x ++ y) (one_digit (n / 10) q) (one_digit (n % 10) r))
