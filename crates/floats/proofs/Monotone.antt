-- The root is monotone: of two finite values that are not below zero, the larger one has no smaller root (`root_le`, `sqrt_monotone`).
-- So the root of the larger of two is the larger of their roots (`larger_root`).
use mathlib.Core.Path.{◌≡◌, refl, sym, ap, ◌∙◌}
use mathlib.Core.Logic.{◌⊎◌, inl, inr, ⊎_elim}
use mathlib.Core.Bool.{Bool, true, false, not, ◌&&◌, ◌||◌, true≢false, false≢true}
use Prim.Native.Nat.{ℕ, zero, suc, ◌*◌, ◌/◌, ◌^◌, ◌≤◌, ◌<◌, zero-le}
use native.Mathlib.Nat.{le_antisymm, le_of_lt, not-le_of_lt, le_of_mul-le-mul_right, mul-le-mul_left, mul-le-mul_right, lt_of_lt_of_le, zero-mul, zero-div, zero-lt-suc}
use native.Mathlib.Omega.{arith}
use lib.Dec.{T, ltb, eqb, lt→ltb}
use lib.Pow.{pow_pos}
use lib.Ieee.{Float, nan, inf, fin, binary64, up, down, lt, le, fits, is_nan}
use lib.Ieee.Fits.{down_pos, cond-fits}
use lib.Ieee.Order.{transfer, le_of_values}
use lib.Ieee.Positive.{positive, value_pos}
use borrow.Author.Tests.{ltb-true, lt-ltb, le-ltb, eqb-true}
use Rattle.laws.proofs.Tests.{both_ways, clash}
use Rattle.std.proofs.lemmas.Bool.{and_parts, cases_Bool, cases_lt, or_cases}
use Rattle.floats.specs.Floats.{larger_of}
use Rattle.floats.specs.Root.{units_in, sqrt, counted, radicand}
use Rattle.floats.proofs.Fields.{units_exact}
use Rattle.floats.proofs.Nearest.{sqrt_nearest, same_units, counts, crossed}
use Rattle.floats.proofs.Small.{larger_second, larger_first}

-- ---- the order of finite values that are not below zero is that of their units

-- x < y by units
pub units_lt : (x y : Float) → T (fits binary64 x) → T (fits binary64 y) → T (counted x) → T (counted y) → lt x y ≡ ltb (units_in x) (units_in y)
unfolding lt
units_lt nan y f g c d = absurd c
units_lt (inf s) y f g c d = absurd c
units_lt (fin true m e) y f g c d = absurd c
units_lt (fin false m e) nan f g c d = absurd d
units_lt (fin false m e) (inf t) f g c d = absurd d
units_lt (fin false m e) (fin true n k) f g c d = absurd d
units_lt (fin false m e) (fin false n k) f g c d =
    order (m * up e) (n * up k) (down e) (down k) (2 ^ 1074) (units_in x) (units_in y) (down_pos e) (down_pos k) (pow_pos 1074) (units_exact x f c).1 (units_exact y g d).1
  where
    x : Float
    x = fin false m e

    y : Float
    y = fin false n k

    order : (a b p q r u v : ℕ) → 0 < p → 0 < q → 0 < r → a * r ≡ u * p → b * r ≡ v * q → ltb (a * q) (b * p) ≡ ltb u v
    order a b p q r u v P Q R h i = both_ways (ltb (a * q) (b * p)) (ltb u v)
        (λ t. ⊎_elim (λ (l : u < v). lt-ltb u v l) (λ (l : v ≤ u). absurd (not-le_of_lt (ltb-true (a * q) (b * p) t) (transfer b a q p v u r r R R i h (mul-le-mul_right r l)))) (cases_lt u v))
        (λ t. ⊎_elim (λ (l : a * q < b * p). lt-ltb (a * q) (b * p) l) (λ (l : b * p ≤ a * q). absurd (not-le_of_lt (ltb-true u v t) (le_of_mul-le-mul_right (transfer v u r r b a q p Q P (sym i) (sym h) l) R))) (cases_lt (a * q) (b * p)))

-- ---- the root is monotone

-- 0 is its own root; everything else is above zero
pub zero_or : (x : Float) → T (counted x) → ((units_in x ≡ 0) × (sqrt x ≡ x)) ⊎ T (positive x)
unfolding units_in sqrt
zero_or nan c = absurd c
zero_or (inf s) c = absurd c
zero_or (fin true m e) c = absurd c
zero_or (fin false zero e) c = inl (ap (λ (n : ℕ). n * 2 ^ 1074 / down e) (zero-mul (up e)) ∙ ap (λ (n : ℕ). n / down e) (zero-mul (2 ^ 1074)) ∙ zero-div (down e), refl)
zero_or (fin false (suc m) e) c = inr (lt→ltb 0 (suc m) (zero-lt-suc m))

-- a positive value has units
above_zero : (x : Float) → T (fits binary64 x) → T (counted x) → T (positive x) → 0 < units_in x
above_zero x f c p = value_pos x (units_in x) (2 ^ 1074) p (pow_pos 1074) (units_exact x f c)

-- the root of such a value fits
pub root_fits : (x : Float) → T (fits binary64 x) → T (counted x) → T (fits binary64 (sqrt x))
root_fits x f c = ⊎_elim (λ z. rw z.1 f) (λ p. (sqrt_nearest x f p).held) (zero_or x c)

-- and is finite and without a minus sign
root_counted : (x : Float) → T (fits binary64 x) → T (counted x) → T (counted (sqrt x))
root_counted x f c = ⊎_elim (λ z. rw z.1 c) (λ p. counts (sqrt x) (sqrt_nearest x f p).above) (zero_or x c)

-- more units, no fewer units in the root
pub root_le : (x y : Float) → T (fits binary64 x) → T (fits binary64 y) → T (counted x) → T (counted y) → units_in x ≤ units_in y → units_in (sqrt x) ≤ units_in (sqrt y)
root_le x y f g c d l = go (zero_or x c) (zero_or y d)
  where
    go : ((units_in x ≡ 0) × (sqrt x ≡ x)) ⊎ T (positive x) → ((units_in y ≡ 0) × (sqrt y ≡ y)) ⊎ T (positive y) → units_in (sqrt x) ≤ units_in (sqrt y)
    go (inl z) q = rw (z.1, z.0) zero-le
    go (inr p) (inl z) = absurd (no (units_in x) (units_in y) (above_zero x f c p) l z.0)
      where
        no : (u v : ℕ) → 0 < u → u ≤ v → v ≡ 0 → ⊥
        no u v a b e = omega arith
    go (inr p) (inr q) = ⊎_elim (λ (h : units_in (sqrt y) < units_in (sqrt x)). absurd (less h)) (λ (h : units_in (sqrt x) ≤ units_in (sqrt y)). h) (cases_lt (units_in (sqrt y)) (units_in (sqrt x)))
      where
        less : units_in (sqrt y) < units_in (sqrt x) → ⊥
        less h =
            let a = sqrt_nearest x f p in
            let b = sqrt_nearest y g q in
            crossed (4 * radicand y) (units_in (sqrt y)) (units_in (sqrt x))
            (b.upper (sqrt x) a.held (counts (sqrt x) a.above) h)
            (lt_of_lt_of_le (a.lower (sqrt y) b.held (counts (sqrt y) b.above) h) (mul-le-mul_left 4 (mul-le-mul_right (2 ^ 1074) l)))

-- ---- the larger of two, where the first is not below zero: a finite value without a minus sign, or infinity

-- not below zero: no NaN and no minus sign
abbrev pub grown : Float → Bool
grown nan = false
grown (inf s) = not s
grown (fin s m e) = not s

-- what is below zero, or a NaN, is above no such value
pub not_grown : (z w : Float) → T (grown z) → grown w ≡ false → lt z w ≡ false
unfolding lt
not_grown nan w g e = absurd g
not_grown (inf true) w g e = absurd g
not_grown (inf false) nan g e = refl
not_grown (inf false) (inf t) g e = refl
not_grown (inf false) (fin t n d) g e = refl
not_grown (fin true m k) w g e = absurd g
not_grown (fin false m k) nan g e = refl
not_grown (fin false m k) (inf true) g e = refl
not_grown (fin false m k) (inf false) g e = absurd (true≢false e)
not_grown (fin false m k) (fin true n d) g e = refl
not_grown (fin false m k) (fin false n d) g e = absurd (true≢false e)

-- a test that holds
so : (b : Bool) → T b → b ≡ true
so true t = refl
so false t = absurd t

-- what is at most t is not above it
pub no_lower : (v t : Float) → T (counted v) → T (grown t) → T (le v t) → lt t v ≡ true → ⊥
unfolding le lt
no_lower nan t c g h l = c
no_lower (inf s) t c g h l = c
no_lower (fin true m e) t c g h l = c
no_lower (fin false m e) nan c g h l = g
no_lower (fin false m e) (inf true) c g h l = g
no_lower (fin false m e) (inf false) c g h l = false≢true l
no_lower (fin false m e) (fin true n d) c g h l = g
no_lower (fin false m e) (fin false n d) c g h l = no (m * up e * down d) (n * up d * down e) h (ltb-true (n * up d * down e) (m * up e * down d) l)
  where
    no : (a b : ℕ) → T (ltb a b || (eqb a b && true)) → b < a → ⊥
    no a b h l = ⊎_elim (λ p. omega (arith, ltb-true a b p)) (λ p. omega (arith, eqb-true a b (and_parts (eqb a b) true p).0)) (or_cases (ltb a b) (eqb a b && true) (so (ltb a b || (eqb a b && true)) h))

-- such a value is no NaN
is_number : (z : Float) → T (grown z) → T (not (is_nan z))
unfolding is_nan
is_number nan g = absurd g
is_number (inf s) g = tt
is_number (fin s m e) g = tt

-- the root of what is below zero, or a NaN, is not such a value
root_low : (b : Float) → grown b ≡ false → grown (sqrt b) ≡ false
unfolding sqrt
root_low nan e = refl
root_low (inf true) e = refl
root_low (inf false) e = absurd (true≢false e)
root_low (fin true zero d) e = refl
root_low (fin true (suc n) d) e = refl
root_low (fin false n d) e = absurd (true≢false e)

-- a finite one is such a value
pub counted_grown : (z : Float) → T (counted z) → T (grown z)
counted_grown nan c = c
counted_grown (inf s) c = absurd c
counted_grown (fin s m e) c = c

-- in the order of floats
pub sqrt_monotone : (x y : Float) → T (fits binary64 x) → T (fits binary64 y) → T (counted x) → T (counted y) → T (le x y) → T (le (sqrt x) (sqrt y))
sqrt_monotone x y f g c d h =
    let l : units_in x ≤ units_in y = ⊎_elim (λ (k : units_in y < units_in x). absurd (no_lower x y c (counted_grown y d) h (units_lt y x g f d c ∙ lt-ltb (units_in y) (units_in x) k))) (λ (k : units_in x ≤ units_in y). k) (cases_lt (units_in y) (units_in x)) in
    le_of_values (sqrt x) (sqrt y) (units_in (sqrt x)) (2 ^ 1074) (units_in (sqrt y)) (2 ^ 1074) (pow_pos 1074) (pow_pos 1074)
    (units_exact (sqrt x) (root_fits x f c) (root_counted x f c)) (units_exact (sqrt y) (root_fits y g d) (root_counted y g d))
    (mul-le-mul_right (2 ^ 1074) (root_le x y f g c d l))

-- nothing is above infinity
pub top : (w : Float) → lt (inf false) w ≡ false
unfolding lt
top nan = refl
top (inf t) = refl
top (fin t n d) = refl

-- a finite value is below infinity
pub under_top : (z : Float) → T (counted z) → lt z (inf false) ≡ true
unfolding lt
under_top nan c = absurd c
under_top (inf s) c = absurd c
under_top (fin s m e) c = refl

-- a stays: the root of the larger is the larger of the roots
stays : (a b : Float) → T (grown a) → T (grown (sqrt a)) → lt a b ≡ false → lt (sqrt a) (sqrt b) ≡ false → sqrt (larger_of a b) ≡ larger_of (sqrt a) (sqrt b)
stays a b g h e i = sym (ap sqrt (larger_first a b (is_number a g) e)) ∙ larger_first (sqrt a) (sqrt b) (is_number (sqrt a) h) i

-- b takes its place
yields : (a b : Float) → lt a b ≡ true → lt (sqrt a) (sqrt b) ≡ true → sqrt (larger_of a b) ≡ larger_of (sqrt a) (sqrt b)
yields a b e i = sym (ap sqrt (larger_second a b e)) ∙ larger_second (sqrt a) (sqrt b) i

-- two finite values
finite_larger : (a b : Float) → T (fits binary64 a) → T (fits binary64 b) → T (counted a) → T (counted b) → sqrt (larger_of a b) ≡ larger_of (sqrt a) (sqrt b)
finite_larger a b f g c d = ⊎_elim rise (λ (l : units_in b ≤ units_in a). stays a b (counted_grown a c) h (units_lt a b f g c d ∙ le-ltb (units_in a) (units_in b) l) (roots ∙ le-ltb (units_in (sqrt a)) (units_in (sqrt b)) (root_le b a g f d c l))) (cases_lt (units_in a) (units_in b))
  where
    h : T (grown (sqrt a))
    h = counted_grown (sqrt a) (root_counted a f c)

    roots : lt (sqrt a) (sqrt b) ≡ ltb (units_in (sqrt a)) (units_in (sqrt b))
    roots = units_lt (sqrt a) (sqrt b) (root_fits a f c) (root_fits b g d) (root_counted a f c) (root_counted b g d)

    rise : units_in a < units_in b → sqrt (larger_of a b) ≡ larger_of (sqrt a) (sqrt b)
    rise l = ⊎_elim
        (λ (k : units_in (sqrt a) < units_in (sqrt b)). yields a b below (roots ∙ lt-ltb (units_in (sqrt a)) (units_in (sqrt b)) k))
        (λ (k : units_in (sqrt b) ≤ units_in (sqrt a)). sym (ap sqrt (larger_second a b below)) ∙ sym (same k) ∙ larger_first (sqrt a) (sqrt b) (is_number (sqrt a) h) (roots ∙ le-ltb (units_in (sqrt a)) (units_in (sqrt b)) k))
        (cases_lt (units_in (sqrt a)) (units_in (sqrt b)))
      where
        below : lt a b ≡ true
        below = units_lt a b f g c d ∙ lt-ltb (units_in a) (units_in b) l

        same : units_in (sqrt b) ≤ units_in (sqrt a) → sqrt a ≡ sqrt b
        same k = same_units (sqrt a) (sqrt b) (root_fits a f c) (root_fits b g d) (root_counted a f c) (root_counted b g d) (le_antisymm (root_le a b f g c d (le_of_lt l)) k)

-- the root of such a value is one too
root_grown : (a : Float) → T (fits binary64 a) → T (grown a) → T (grown (sqrt a))
unfolding sqrt
root_grown nan f h = absurd h
root_grown (inf true) f h = absurd h
root_grown (inf false) f h = tt
root_grown (fin s m e) f h = counted_grown (sqrt (fin s m e)) (root_counted (fin s m e) f h)

-- two such values
grown_larger : (a b : Float) → T (fits binary64 a) → T (fits binary64 b) → T (grown a) → grown b ≡ true → sqrt (larger_of a b) ≡ larger_of (sqrt a) (sqrt b)
unfolding sqrt
grown_larger nan b f g h e = absurd h
grown_larger (inf true) b f g h e = absurd h
grown_larger (inf false) b f g h e = stays (inf false) b tt tt (top b) (top (sqrt b))
grown_larger (fin s m k) nan f g h e = absurd (false≢true e)
grown_larger (fin s m k) (inf true) f g h e = absurd (false≢true e)
grown_larger (fin s m k) (inf false) f g h e = yields (fin s m k) (inf false) (under_top (fin s m k) h) (under_top (sqrt (fin s m k)) (root_counted (fin s m k) f h))
grown_larger (fin s m k) (fin true n d) f g h e = absurd (false≢true e)
grown_larger (fin s m k) (fin false n d) f g h e = finite_larger (fin s m k) (fin false n d) f g h tt

-- the root of the larger is the larger of the roots, whatever b is
pub larger_root : (a b : Float) → T (fits binary64 a) → T (fits binary64 b) → T (grown a) → sqrt (larger_of a b) ≡ larger_of (sqrt a) (sqrt b)
larger_root a b f g h =
    ⊎_elim (grown_larger a b f g h)
    (λ e. stays a b h (root_grown a f h) (not_grown a b h e) (not_grown (sqrt a) (sqrt b) (root_grown a f h) (root_low b e)))
    (cases_Bool (grown b))

-- and so it goes on: the larger is not below zero either, and fits
pub larger_grown : (a b : Float) → T (grown a) → T (grown (larger_of a b))
larger_grown a b h = ⊎_elim (λ t. rw (← larger_second a b t) (⊎_elim (λ e. rw e tt) (λ e. clash t (not_grown a b h e)) (cases_Bool (grown b)))) (λ t. rw (← larger_first a b (is_number a h) t) h) (cases_Bool (lt a b))

-- of two that fit, the larger fits
pub larger_fits : (a b : Float) → T (fits binary64 a) → T (fits binary64 b) → T (fits binary64 (larger_of a b))
unfolding larger_of
larger_fits a b f g = cond-fits binary64 (is_nan a || lt a b) b a g f
