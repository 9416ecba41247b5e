-- A binary64 value by the fields of its bits, and how many units it is.
use mathlib.Core.Path.{◌≡◌, refl, sym, ap, ◌∙◌, subst}
use mathlib.Core.Logic.{⊎_elim}
use mathlib.Core.Bool.{Bool, true, false, cond, true≢false, false≢true}
use Prim.Native.Nat.{ℕ, zero, suc, ◌+◌, ◌*◌, ◌/◌, ◌%◌, ◌^◌, ◌≤◌, ◌<◌}
use native.Mathlib.Nat.{lt_irrefl, mod-lt, mul-pos, mul-div_cancel, zero-mul}
use native.Mathlib.Omega.{arith}
use lib.Dec.{T, leb, eqb}
use lib.Pow.{pow_pos}
use lib.Ieee.{Float, nan, inf, fin, binary64, up, down, odd, fits, of_fields, of_bits, to_bits}
use lib.Ieee.Fits.{down_pos}
use lib.Ieee.Bits.{of_bits-to_bits}
use lib.Ieee.Exact.{HasValue, odd_sign}
use borrow.Author.Tests.{ne_eqb}
use Rattle.std.proofs.lemmas.Bool.{cases_lt}
use Rattle.floats.specs.Root.{units_in, root_of_units, sqrt, counted}

-- ---- the units of a value

pub units_of : (x : Float) (s : Bool) (n : ℕ) → HasValue x s n (2 ^ 1074) → units_in x ≡ n
unfolding units_in
units_of nan s n v = absurd v
units_of (inf t) s n v = absurd v
units_of (fin t m e) s n v = ap (λ (x : ℕ). x / down e) v.1 ∙ mul-div_cancel n (down_pos e)

pub units_odd : (s : Bool) (q k : ℕ) → units_in (odd 53 s q k 1074) ≡ q * 2 ^ k
units_odd s q k = units_of (odd 53 s q k 1074) s (q * 2 ^ k) (odd_sign 53 s q k 1074)

-- ---- the root of a value by its units

none : (n u d : ℕ) → 0 < n → 0 < d → 0 * u * 2 ^ 1074 ≡ n * d → ⊥
none n u d N D h = lt_irrefl 0 (subst (λ (x : ℕ). 0 < x) (sym h ∙ ap (λ (x : ℕ). x * 2 ^ 1074) (zero-mul u) ∙ zero-mul (2 ^ 1074)) (mul-pos N D))

pub sqrt-positive : (x : Float) (n : ℕ) → 0 < n → HasValue x false n (2 ^ 1074) → sqrt x ≡ root_of_units n
unfolding sqrt
sqrt-positive nan n N v = absurd v
sqrt-positive (inf t) n N v = absurd v
sqrt-positive (fin t zero e) n N v = absurd (none n (up e) (down e) N (down_pos e) v.1)
sqrt-positive (fin true (suc m) e) n N v = absurd (true≢false v.0)
sqrt-positive (fin false (suc m) e) n N v = ap root_of_units (ap (λ (x : ℕ). x / down e) v.1 ∙ mul-div_cancel n (down_pos e))

pub sqrt_negative : (x : Float) (n : ℕ) → 0 < n → HasValue x true n (2 ^ 1074) → sqrt x ≡ nan
unfolding sqrt
sqrt_negative nan n N v = absurd v
sqrt_negative (inf t) n N v = absurd v
sqrt_negative (fin t zero e) n N v = absurd (none n (up e) (down e) N (down_pos e) v.1)
sqrt_negative (fin true (suc m) e) n N v = refl
sqrt_negative (fin false (suc m) e) n N v = absurd (false≢true v.0)

-- ---- the fields

pub fields_of : (x : Float) → T (fits binary64 x) → x ≡ of_fields binary64 (leb (2 ^ 63) (to_bits binary64 x)) (to_bits binary64 x % 2 ^ 63 / 2 ^ 52) (to_bits binary64 x % 2 ^ 52)
unfolding of_bits
fields_of x h = sym (of_bits-to_bits binary64 x h)

pub field_low : (s : Bool) (t : ℕ) → of_fields binary64 s 0 t ≡ odd 53 s t 0 1074
unfolding of_fields
field_low s t = refl

pub field_mid : (s : Bool) (k t : ℕ) → suc k < 2047 → of_fields binary64 s (suc k) t ≡ odd 53 s (2 ^ 52 + t) k 1074
unfolding of_fields
field_mid s k t h = ap (λ (b : Bool). cond b (cond (eqb t 0) (inf s) nan) (odd 53 s (2 ^ 52 + t) k 1074)) (ne_eqb (suc k) 2047 (other h))
  where
    other : suc k < 2047 → suc k ≡ 2047 → ⊥
    other h e = omega arith

pub field_top : (s : Bool) (t : ℕ) → of_fields binary64 s 2047 t ≡ cond (eqb t 0) (inf s) nan
unfolding of_fields
field_top s t = refl

-- a finite value is q * 2 ^ k units
uncounted : (b s : Bool) → T (counted (cond b (inf s) nan)) → ⊥
uncounted true s t = t
uncounted false s t = t

grid_fields : (s : Bool) (E t : ℕ) → E < 2048 → t < 2 ^ 52 → T (counted (of_fields binary64 s E t)) → (q : ℕ) × (k : ℕ) × HasValue (of_fields binary64 s E t) s (q * 2 ^ k) (2 ^ 1074) × (q < 2 ^ 53) × (k ≤ 2045)
grid_fields s zero t X H c = (t, 0, rw field_low (odd_sign 53 s t 0 1074), omega arith, omega arith)
grid_fields s (suc k) t X H c = ⊎_elim
    (λ (h : suc k < 2047). (2 ^ 52 + t, k, rw (field_mid s k t h) (odd_sign 53 s (2 ^ 52 + t) k 1074), omega arith, omega arith))
    (λ (g : 2047 ≤ suc k). absurd (uncounted (eqb t 0) s (subst (λ (v : Float). T (counted v)) (ap (λ (x : ℕ). of_fields binary64 s x t) (last g) ∙ field_top s t) c)))
    (cases_lt (suc k) 2047)
  where
    last : 2047 ≤ suc k → suc k ≡ 2047
    last g = omega arith

exponent_in : (b : ℕ) → b % 2 ^ 63 / 2 ^ 52 < 2048
exponent_in b = omega arith

unsigned : (z : Float) (s : Bool) (a c : ℕ) → T (counted z) → HasValue z s a c → HasValue z false a c
unsigned nan s a c t v = v
unsigned (inf r) s a c t v = v
unsigned (fin true m e) s a c t v = absurd t
unsigned (fin false m e) s a c t v = (refl, v.1)

pub grid_of : (z : Float) → T (fits binary64 z) → T (counted z) → (q : ℕ) × (k : ℕ) × HasValue z false (q * 2 ^ k) (2 ^ 1074) × (q < 2 ^ 53) × (k ≤ 2045)
grid_of z f c =
    let b = to_bits binary64 z in
    let s = leb (2 ^ 63) b in
    let e = fields_of z f in
    let g = grid_fields s (b % 2 ^ 63 / 2 ^ 52) (b % 2 ^ 52) (exponent_in b) (mod-lt b (pow_pos 52)) (subst (λ (v : Float). T (counted v)) e c) in
    (g.0, g.1, unsigned z s (g.0 * 2 ^ g.1) (2 ^ 1074) c (subst (λ (v : Float). HasValue v s (g.0 * 2 ^ g.1) (2 ^ 1074)) (sym e) g.2), g.3, g.4)

-- so `units_in`'s division leaves nothing over
pub units_exact : (z : Float) → T (fits binary64 z) → T (counted z) → HasValue z false (units_in z) (2 ^ 1074)
units_exact z f c = let g = grid_of z f c in rw (units_of z false (g.0 * 2 ^ g.1) g.2) g.2
