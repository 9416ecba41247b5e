-- A root is above e where the square of some x > e, rounded, is below the value: no root has to be found (`over_square`).
use mathlib.Core.Path.{◌≡◌, refl, sym, ap, ◌∙◌, subst}
use mathlib.Core.Logic.{⊎_elim}
use mathlib.Core.Bool.{true, false}
use Prim.Native.Nat.{ℕ, ◌+◌, ◌*◌, ◌^◌, ◌≤◌, ◌<◌}
use native.Mathlib.Nat.{le_trans, le_of_eq, lt_of_lt_of_le, mul_assoc, mul-le-mul_right, mul-pos, zero-mul}
use native.Mathlib.Omega.{arith}
use lib.Dec.{T}
use lib.Pow.{pow_pos}
use lib.Ieee.{Float, nan, inf, fin, binary64, up, down, round, mul, lt, fits}
use lib.Ieee.Order.{round_mono}
use lib.Ieee.Positive.{positive, mul_at}
use borrow.Author.Tests.{ltb-true, lt-ltb}
use Rattle.laws.proofs.Tests.{clash}
use Rattle.std.proofs.lemmas.Bool.{cases_Bool, cases_lt}
use Rattle.floats.specs.Floats.{zero64}
use Rattle.floats.specs.Root.{units_in, sqrt, counted, radicand}
use Rattle.floats.proofs.Whole.{square_lt}
use Rattle.floats.proofs.Fields.{units_exact}
use Rattle.floats.proofs.Nearest.{sqrt_nearest, counts}
use Rattle.floats.proofs.Monotone.{units_lt, zero_or, grown, not_grown, no_lower, counted_grown, top, under_top}
use Rattle.floats.proofs.Rounding.{round_grown, round_self}

-- ---- a square that is below v when rounded is below v

-- in units: the square of x is below the radicand of v
exact_over : (v x : Float) → T (fits binary64 v) → T (fits binary64 x) → T (counted v) → T (positive x) → lt (mul binary64 x x) v ≡ true → units_in x * units_in x < radicand v
exact_over v x f g c p l = ⊎_elim (λ (h : units_in x * units_in x < radicand v). h) (λ (h : radicand v ≤ units_in x * units_in x). absurd (no h)) (cases_lt (units_in x * units_in x) (radicand v))
  where
    no : radicand v ≤ units_in x * units_in x → ⊥
    no h =
        let w = units_exact x g (counts x p) in
        let t = mul_at binary64 x x (units_in x) (2 ^ 1074) (units_in x) (2 ^ 1074) p p (pow_pos 1074) (pow_pos 1074) w w in
        let m = round_mono binary64 (units_in v) (2 ^ 1074) (units_in x * units_in x) (2 ^ 1074 * 2 ^ 1074) (pow_pos 1074) (mul-pos (pow_pos 1074) (pow_pos 1074))
        (le_trans (le_of_eq (sym (mul_assoc (units_in v) (2 ^ 1074) (2 ^ 1074)))) (mul-le-mul_right (2 ^ 1074) h)) in
        no_lower v (round binary64 false (units_in x * units_in x) (2 ^ 1074 * 2 ^ 1074)) c (round_grown binary64 (units_in x * units_in x) (2 ^ 1074 * 2 ^ 1074)) (rw (round_self v f c) at m) (rw t at l)

-- and then x is at most the root
reaches_root : (v x : Float) → T (fits binary64 v) → T (fits binary64 x) → T (positive v) → T (counted x) → units_in x * units_in x < radicand v → units_in x ≤ units_in (sqrt v)
reaches_root v x f g q d h = ⊎_elim
    (λ (l : units_in (sqrt v) < units_in x). absurd (far (radicand v) (units_in x) (units_in (sqrt v)) h ((sqrt_nearest v f q).upper x g d l) (square_lt (units_in x + units_in (sqrt v)) (units_in x + units_in x) (more (units_in x) (units_in (sqrt v)) l))))
    (λ (l : units_in x ≤ units_in (sqrt v)). l)
    (cases_lt (units_in (sqrt v)) (units_in x))
  where
    far : (R u w : ℕ) → u * u < R → 4 * R < (u + w) * (u + w) → (u + w) * (u + w) < (u + u) * (u + u) → ⊥
    far R u w a b c = omega arith

    more : (u w : ℕ) → w < u → u + w < u + u
    more u w l = omega arith

-- where all three are finite
finite_over : (v e x : Float) → T (fits binary64 v) → T (fits binary64 e) → T (fits binary64 x) → T (counted v) → T (counted e) → T (counted x) → lt e x ≡ true → lt (mul binary64 x x) v ≡ true → lt e (sqrt v) ≡ true
finite_over v e x f g k c d b l m = ⊎_elim (λ z. absurd (none (units_in e) (units_in x) below z.0)) (λ p. ⊎_elim (λ z. absurd (nothing z.0 (exact_over v x f k c p m))) (λ q. with_root q (reaches_root v x f k q b (exact_over v x f k c p m))) (zero_or v c)) (zero_or x b)
  where
    below : units_in e < units_in x
    below = ltb-true (units_in e) (units_in x) (sym (units_lt e x g k d b) ∙ l)

    none : (a u : ℕ) → a < u → u ≡ 0 → ⊥
    none a u h z = omega arith

    nothing : units_in v ≡ 0 → units_in x * units_in x < radicand v → ⊥
    nothing z h = not_below (units_in x * units_in x) (subst (λ (n : ℕ). units_in x * units_in x < n) (ap (λ (n : ℕ). n * 2 ^ 1074) z ∙ zero-mul (2 ^ 1074)) h)
      where
        not_below : (a : ℕ) → a < 0 → ⊥
        not_below a h = omega arith

    with_root : T (positive v) → units_in x ≤ units_in (sqrt v) → lt e (sqrt v) ≡ true
    with_root q h =
        let a = sqrt_nearest v f q in
        units_lt e (sqrt v) g a.held d (counts (sqrt v) a.above) ∙ lt-ltb (units_in e) (units_in (sqrt v)) (lt_of_lt_of_le below h)

-- ---- for every v, e and x

-- infinity squared
square_top : mul binary64 (inf false) (inf false) ≡ inf false
unfolding mul
square_top = refl

-- x is finite, for e < x and x * x < v
over_x : (v e x : Float) → T (fits binary64 v) → T (fits binary64 e) → T (fits binary64 x) → T (counted v) → T (counted e) → lt e x ≡ true → lt (mul binary64 x x) v ≡ true → lt e (sqrt v) ≡ true
over_x v e nan f g k c d l m = clash l (not_grown e nan (counted_grown e d) refl)
over_x v e (inf true) f g k c d l m = clash l (not_grown e (inf true) (counted_grown e d) refl)
over_x v e (inf false) f g k c d l m = clash (rw square_top at m) (top v)
over_x v e (fin true n h) f g k c d l m = clash l (not_grown e (fin true n h) (counted_grown e d) refl)
over_x v e (fin false n h) f g k c d l m = finite_over v e (fin false n h) f g k c d tt l m

-- a square is not below zero
square_grown : (x : Float) → T (grown x) → T (grown (mul binary64 x x))
unfolding mul
square_grown nan h = absurd h
square_grown (inf true) h = absurd h
square_grown (inf false) h = tt
square_grown (fin true m e) h = absurd h
square_grown (fin false m e) h = round_grown binary64 (m * up e * (m * up e)) (down e * down e)

-- what is above such a value is one too
grown_above : (e x : Float) → T (grown e) → lt e x ≡ true → T (grown x)
grown_above e x g l = ⊎_elim (λ t. rw t tt) (λ t. clash l (not_grown e x g t)) (cases_Bool (grown x))

-- v may be infinite
over_v : (v e x : Float) → T (fits binary64 v) → T (fits binary64 e) → T (fits binary64 x) → T (grown v) → T (counted e) → lt e x ≡ true → lt (mul binary64 x x) v ≡ true → lt e (sqrt v) ≡ true
unfolding sqrt
over_v nan e x f g k h d l m = absurd h
over_v (inf true) e x f g k h d l m = absurd h
over_v (inf false) e x f g k h d l m = under_top e d
over_v (fin s n j) e x f g k h d l m = over_x (fin s n j) e x f g k h d l m

-- e above zero, e < x and x * x < v: the root of v is above e
pub over_square : (v e x : Float) → T (fits binary64 v) → T (fits binary64 e) → T (fits binary64 x) → lt zero64 e ≡ true → lt e x ≡ true → lt (mul binary64 x x) v ≡ true → lt e (sqrt v) ≡ true
over_square v e x f g k z l m = go e g (grown_above zero64 e tt z) l
  where
    go : (e : Float) → T (fits binary64 e) → T (grown e) → lt e x ≡ true → lt e (sqrt v) ≡ true
    go nan g h l = absurd h
    go (inf true) g h l = absurd h
    go (inf false) g h l = clash l (top x)
    go (fin s n j) g h l =
        let gx = grown_above (fin s n j) x h l in
        over_v v (fin s n j) x f g k (grown_above (mul binary64 x x) v (square_grown x gx) m) h l m
