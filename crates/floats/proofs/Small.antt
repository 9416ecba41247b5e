-- What the tests of `root` and `larger` say of the value that each returns, and Rust's `abs`.
use mathlib.Core.Path.{◌≡◌, refl, sym, ap, subst}
use mathlib.Core.Bool.{Bool, true, false, not, ◌||◌, cond}
use Rattle.std.proofs.lemmas.Bool.{or_right}
use lib.Dec.{T}
use lib.Ieee.{Float, nan, inf, fin, lt, is_nan}
use Rattle.floats.specs.Root.{sqrt}
use Rattle.laws.specs.Refusals.{refused, done, answer}
use Rattle.std.specs.Float.{float_with_sign}
use Rattle.floats.specs.Floats.{zero64, absolute_of, larger_of}
use Rattle.floats.specs.RootAnswer.{root_answer}

or-false : (a b : Bool) → T (not a) → b ≡ false → (a || b) ≡ false
or-false true b t e = absurd t
or-false false b t e = e

-- ---- root

pub refused-nan : (x : Float) → x ≡ nan → refused 13 ≡ root_answer x
unfolding root_answer is_nan
refused-nan x e = subst (λ (y : Float). refused 13 ≡ root_answer y) (sym e) refl

pub refused-below : (x : Float) → lt x zero64 ≡ true → refused 13 ≡ root_answer x
unfolding root_answer
refused-below x e = sym (ap (λ (b : Bool). answer (cond b 13 0) (sqrt x)) (or_right (is_nan x) (lt x zero64) e))

pub answered : (x : Float) → T (not (is_nan x)) → lt x zero64 ≡ false → done (sqrt x) ≡ root_answer x
unfolding root_answer
answered x t e = sym (ap (λ (b : Bool). answer (cond b 13 0) (sqrt x)) (or-false (is_nan x) (lt x zero64) t e))

-- ---- larger

pub larger_second : (a b : Float) → lt a b ≡ true → b ≡ larger_of a b
unfolding larger_of
larger_second a b e = sym (ap (λ (t : Bool). cond t b a) (or_right (is_nan a) (lt a b) e))

pub larger_first : (a b : Float) → T (not (is_nan a)) → lt a b ≡ false → a ≡ larger_of a b
unfolding larger_of
larger_first a b t e = sym (ap (λ (t : Bool). cond t b a) (or-false (is_nan a) (lt a b) t e))

-- ---- Rust's `abs`

pub absolute_is : (x : Float) → float_with_sign false x ≡ absolute_of x
unfolding float_with_sign absolute_of
absolute_is nan = refl
absolute_is (inf s) = refl
absolute_is (fin s m e) = refl
