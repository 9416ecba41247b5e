-- What `sqrt` does with each kind of value, by the sign, the exponent and the significand that its code takes from the bits.
use mathlib.Core.Path.{◌≡◌, refl, sym, ap, ◌∙◌, subst}
use mathlib.Core.Logic.{⊎_elim}
use mathlib.Core.Bool.{Bool, true, false, not, cond}
use Prim.Native.Nat.{ℕ, suc, ◌+◌, ◌*◌, ◌/◌, ◌%◌, ◌-◌, ◌^◌, ◌≤◌, ◌<◌}
use native.Mathlib.Nat.{lt_of_le_of_lt, lt_of_lt_of_le, mod-lt, mod-eq_of_lt, add_comm, mul_assoc, mul-pos}
use native.Mathlib.Omega.{arith}
use lib.Dec.{T, leb, eqb, lit≤}
use lib.Bits.{bit_and, and_mask}
use lib.Count.{count_leading_zeros, leading_top}
use lib.Pow.{pow-add, pow_pos}
use lib.Ieee.{Float, nan, inf, fin, binary64, odd, fits, is_nan, of_fields, to_bits, ne}
use lib.Ieee.Bits.{to_bits-lt}
use lib.Ieee.Exact.{HasValue, odd_sign}
use lib.Ieee.Compare.{differs_from_itself, nan_differs}
use borrow.Author.Tests.{le-leb, lt-leb}
use Rattle.floats.specs.Root.{root_of_units, sqrt}
use Rattle.std.proofs.lemmas.Bool.{cases_lt}
use Rattle.floats.proofs.Scaled.{pow_lt_back, shifted_low, shifted_high}
use Rattle.floats.proofs.Fields.{sqrt-positive, sqrt_negative, fields_of, field_low, field_mid, field_top}

-- ---- NaN

pub only_nan : (x : Float) → ne x x ≡ true → x ≡ nan
only_nan x e = differs_from_itself x (subst T (sym e) tt)

pub not_nan : (x : Float) → ne x x ≡ false → T (not (is_nan x))
unfolding is_nan
not_nan nan e = absurd (subst T (sym nan_differs ∙ e) tt)
not_nan (inf s) e = tt
not_nan (fin s m k) e = tt

-- the same by the test of `f64::is_nan`
pub nan_is : (x : Float) → is_nan x ≡ true → x ≡ nan
unfolding is_nan
nan_is nan e = refl
nan_is (inf s) e = absurd (subst T (sym e) tt)
nan_is (fin s m k) e = absurd (subst T (sym e) tt)

pub number_is : (x : Float) → is_nan x ≡ false → T (not (is_nan x))
number_is x e = subst (λ (b : Bool). T (not b)) (sym e) tt

pub sqrt-nan : (x : Float) → x ≡ nan → x ≡ sqrt x
unfolding sqrt
sqrt-nan x e = subst (λ (y : Float). y ≡ sqrt y) (sym e) refl

no_nan : (b s : Bool) → T (not (is_nan (cond b (inf s) nan))) → cond b (inf s) nan ≡ inf s
unfolding is_nan
no_nan true s n = refl
no_nan false s n = absurd n

-- ---- the root of each form

zero_root : (s : Bool) → odd 53 s 0 0 1074 ≡ sqrt (odd 53 s 0 0 1074)
unfolding sqrt odd
zero_root s = refl

positive-inf : (x : Float) → x ≡ inf false → x ≡ sqrt x
unfolding sqrt
positive-inf x e = subst (λ (y : Float). y ≡ sqrt y) (sym e) refl

negative_inf : (x : Float) → x ≡ inf true → sqrt x ≡ nan
unfolding sqrt
negative_inf x e = ap sqrt e

negative_odd : (x : Float) (q k : ℕ) → 0 < q → x ≡ odd 53 true q k 1074 → sqrt x ≡ nan
negative_odd x q k h e = sqrt_negative x (q * 2 ^ k) (mul-pos h (pow_pos k)) (subst (λ (y : Float). HasValue y true (q * 2 ^ k) (2 ^ 1074)) (sym e) (odd_sign 53 true q k 1074))

positive_odd : (x : Float) (q k : ℕ) → 0 < q → x ≡ odd 53 false q k 1074 → sqrt x ≡ root_of_units (q * 2 ^ k)
positive_odd x q k h e = sqrt-positive x (q * 2 ^ k) (mul-pos h (pow_pos k)) (subst (λ (y : Float). HasValue y false (q * 2 ^ k) (2 ^ 1074)) (sym e) (odd_sign 53 false q k 1074))

above : (n : ℕ) → (n ≡ 0 → ⊥) → 0 < n
above n h = omega arith

lead : (n : ℕ) → 0 < 2 ^ 52 + n
lead n = omega arith

less : (n : ℕ) → n < 2047 → n ≡ 2047 → ⊥
less n h e = omega arith

last : (n : ℕ) → 2047 ≤ n → n < 2048 → n ≡ 2047
last n h l = omega arith

-- ---- the bits of x

abbrev pub sign_of : Float → ℕ
sign_of x = to_bits binary64 x / 2 ^ 63

abbrev pub exponent_of : Float → ℕ
exponent_of x = bit_and (to_bits binary64 x / 2 ^ 52) 2047

abbrev pub significand_of : Float → ℕ
significand_of x = bit_and (to_bits binary64 x) 0xf_ffff_ffff_ffff

pub exponent_lt : (x : Float) → exponent_of x < 2048
exponent_lt x = subst (λ (n : ℕ). n < 2048) (sym (and_mask (to_bits binary64 x / 2 ^ 52) 11)) (mod-lt (to_bits binary64 x / 2 ^ 52) (pow_pos 11))

pub significand_lt : (x : Float) → significand_of x < 2 ^ 52
significand_lt x = subst (λ (n : ℕ). n < 2 ^ 52) (sym (and_mask (to_bits binary64 x) 52)) (mod-lt (to_bits binary64 x) (pow_pos 52))

field : (b : ℕ) → b % 2 ^ 63 / 2 ^ 52 ≡ b / 2 ^ 52 % 2 ^ 11
field b = omega arith

module _ (x : Float) (f : fits binary64 x ≡ true) where
  held : T (fits binary64 x)
  held = subst T (sym f) tt

  by_fields : x ≡ of_fields binary64 (leb (2 ^ 63) (to_bits binary64 x)) (exponent_of x) (significand_of x)
  by_fields =
      let b = to_bits binary64 x in
      let s = leb (2 ^ 63) b in
      fields_of x held
      ∙ ap (λ (n : ℕ). of_fields binary64 s n (b % 2 ^ 52)) (field b ∙ sym (and_mask (b / 2 ^ 52) 11))
      ∙ ap (λ (n : ℕ). of_fields binary64 s (exponent_of x) n) (sym (and_mask b 52))

  minus : sign_of x ≡ 1 → x ≡ of_fields binary64 true (exponent_of x) (significand_of x)
  minus e = by_fields ∙ ap (λ (s : Bool). of_fields binary64 s (exponent_of x) (significand_of x)) (le-leb _ _ (high (to_bits binary64 x) e))
    where
      high : (b : ℕ) → b / 2 ^ 63 ≡ 1 → 2 ^ 63 ≤ b
      high b e = omega arith

  plus : (sign_of x ≡ 1 → ⊥) → x ≡ of_fields binary64 false (exponent_of x) (significand_of x)
  plus n = by_fields ∙ ap (λ (s : Bool). of_fields binary64 s (exponent_of x) (significand_of x)) (lt-leb _ _ (low (to_bits binary64 x) (to_bits-lt binary64 x held) n))
    where
      low : (b : ℕ) → b < 2 * 2 ^ 63 → (b / 2 ^ 63 ≡ 1 → ⊥) → b < 2 ^ 63
      low b h n = omega arith

  -- by the exponent
  module _ (s : Bool) (e : x ≡ of_fields binary64 s (exponent_of x) (significand_of x)) where
    low_is : exponent_of x ≡ 0 → x ≡ odd 53 s (significand_of x) 0 1074
    low_is z = e ∙ ap (λ (n : ℕ). of_fields binary64 s n (significand_of x)) z ∙ field_low s (significand_of x)

    mid_is : (exponent_of x ≡ 0 → ⊥) → (exponent_of x ≡ 2047 → ⊥) → x ≡ odd 53 s (2 ^ 52 + significand_of x) (exponent_of x - 1) 1074
    mid_is z o = e ∙ ap (λ (n : ℕ). of_fields binary64 s n (significand_of x)) (sym (next (exponent_of x) z)) ∙ field_mid s (exponent_of x - 1) (significand_of x) (under (exponent_of x) z o (exponent_lt x))
      where
        next : (n : ℕ) → (n ≡ 0 → ⊥) → suc (n - 1) ≡ n
        next n z = omega arith

        under : (n : ℕ) → (n ≡ 0 → ⊥) → (n ≡ 2047 → ⊥) → n < 2048 → suc (n - 1) < 2047
        under n z o l = omega arith

    top_is : exponent_of x ≡ 2047 → T (not (is_nan x)) → x ≡ inf s
    top_is o n =
        let q = e ∙ ap (λ (k : ℕ). of_fields binary64 s k (significand_of x)) o ∙ field_top s (significand_of x) in
        q ∙ no_nan (eqb (significand_of x) 0) s (subst (λ (y : Float). T (not (is_nan y))) q n)

  -- ±0
  pub at_zero : exponent_of x ≡ 0 → significand_of x ≡ 0 → x ≡ sqrt x
  at_zero z t =
      let s = leb (2 ^ 63) (to_bits binary64 x) in
      subst (λ (y : Float). y ≡ sqrt y) (sym (low_is s by_fields z ∙ ap (λ (n : ℕ). odd 53 s n 0 1074) t)) (zero_root s)

  -- below zero
  pub negative_low : exponent_of x ≡ 0 → (significand_of x ≡ 0 → ⊥) → sign_of x ≡ 1 → sqrt x ≡ nan
  negative_low z t s = negative_odd x (significand_of x) 0 (above (significand_of x) t) (low_is true (minus s) z)

  pub negative_other : (exponent_of x ≡ 0 → ⊥) → sign_of x ≡ 1 → T (not (is_nan x)) → sqrt x ≡ nan
  negative_other z s n = ⊎_elim
      (λ (h : exponent_of x < 2047). negative_odd x (2 ^ 52 + significand_of x) (exponent_of x - 1) (lead (significand_of x)) (mid_is true (minus s) z (less (exponent_of x) h)))
      (λ (h : 2047 ≤ exponent_of x). negative_inf x (top_is true (minus s) (last (exponent_of x) h (exponent_lt x)) n))
      (cases_lt (exponent_of x) 2047)

  -- +∞
  pub at_top : exponent_of x ≡ 2047 → (sign_of x ≡ 1 → ⊥) → T (not (is_nan x)) → x ≡ sqrt x
  at_top o s n = positive-inf x (top_is false (plus s) o n)

  -- a number above zero
  pub positive_low : exponent_of x ≡ 0 → (significand_of x ≡ 0 → ⊥) → (sign_of x ≡ 1 → ⊥) → sqrt x ≡ root_of_units (significand_of x * 2 ^ 0)
  positive_low z t s = positive_odd x (significand_of x) 0 (above (significand_of x) t) (low_is false (plus s) z)

  pub positive_mid : (exponent_of x ≡ 0 → ⊥) → (exponent_of x ≡ 2047 → ⊥) → (sign_of x ≡ 1 → ⊥) → sqrt x ≡ root_of_units ((2 ^ 52 + significand_of x) * 2 ^ (exponent_of x - 1))
  positive_mid z o s = positive_odd x (2 ^ 52 + significand_of x) (exponent_of x - 1) (lead (significand_of x)) (mid_is false (plus s) z o)

-- the exponent's place, as the code has it
pub placed : (t E : ℕ) → (E ≡ 0 → ⊥) → (2 ^ 52 + t) * 2 ^ (E - 1) * 2 ^ 1074 ≡ (t + 2 ^ 52) * 2 ^ (E + 1073)
placed t E z =
    mul_assoc (2 ^ 52 + t) (2 ^ (E - 1)) (2 ^ 1074)
    ∙ ap (λ (n : ℕ). (2 ^ 52 + t) * n) (sym (pow-add 2 (E - 1) 1074) ∙ ap (λ (n : ℕ). 2 ^ n) (place E z))
    ∙ ap (λ (n : ℕ). n * 2 ^ (E + 1073)) (add_comm (2 ^ 52) t)
  where
    place : (E : ℕ) → (E ≡ 0 → ⊥) → E - 1 + 1074 ≡ E + 1073
    place E z = omega arith

-- ---- the shift that brings the significand of a number below 2 ^ -1022 to 53 digits
abbrev pub zeros_of : ℕ → ℕ
zeros_of t = count_leading_zeros 64 t - 11

pub record Normal (t : ℕ) : Type 0 where
  pub some : 11 ≤ count_leading_zeros 64 t
  pub few : zeros_of t ≤ 52
  pub same : t * 2 ^ zeros_of t % 2 ^ 64 ≡ t * 2 ^ zeros_of t
  pub low : 2 ^ 52 ≤ t * 2 ^ zeros_of t
  pub high : t * 2 ^ zeros_of t < 2 ^ 53

pub normal : (t : ℕ) → (t ≡ 0 → ⊥) → t < 2 ^ 52 → Normal t
normal t n h =
    let g = leading_top 64 t (above t n) (lt_of_lt_of_le h (lit≤ tt)) in
    let j = g.0 in
    let z = zeros_of t in
    let e : count_leading_zeros 64 t + suc j ≡ 64 = g.1 in
    let J : j < 52 = pow_lt_back j 52 (lt_of_le_of_lt g.2 h) in
    let d : j + z ≡ 52 = omega arith in
    let high : t * 2 ^ z < 2 ^ 53 = shifted_high t z j g.2 g.3 d in
    record { some = omega arith; few = omega arith; same = mod-eq_of_lt (lt_of_lt_of_le high (lit≤ tt)); low = shifted_low t z j g.2 g.3 d; high = high }
