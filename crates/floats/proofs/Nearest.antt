-- `sqrt` is IEEE 754's squareRoot: of every finite value above zero it is the binary64 value nearest to the exact root (`sqrt_nearest`), and that is one value only (`nearest_unique`).
-- Both inequalities of `NearestRoot` are strict, so a tie does not occur.
use mathlib.Core.Path.{◌≡◌, refl, sym, ap, ◌∙◌, subst, subst₂}
use mathlib.Core.Logic.{⊎_elim}
use mathlib.Core.Bool.{true, false}
use Prim.Native.Nat.{ℕ, zero, suc, ◌+◌, ◌*◌, ◌/◌, ◌-◌, ◌^◌, ◌≤◌, ◌<◌}
use native.Mathlib.Nat.{le_antisymm, le_of_lt, lt_irrefl, lt_of_lt_of_le, zero-mul, zero-lt-suc, mul-pos}
use native.Mathlib.Omega.{arith}
use lib.Dec.{T, lt→ltb}
use lib.Pow.{pow_mono, pow_pos, shl_lt}
use lib.Ieee.{Float, nan, inf, fin, binary64, size, odd, fits, to_bits, of_bits}
use lib.Ieee.Bits.{of_bits-to_bits}
use lib.Ieee.Exact.{odd_sign}
use lib.Ieee.Fits.{odd-fits}
use lib.Ieee.Positive.{positive, positive_of_value, value_pos}
use Rattle.floats.specs.Root.{whole_root, units_in, sqrt, counted, radicand, NearestRoot, SquareRoot}
use Rattle.std.proofs.lemmas.Bool.{cases_lt}
use Rattle.floats.proofs.Whole.{IsRoot}
use Rattle.floats.proofs.Halfway.{halfway_lower, halfway_upper}
use Rattle.floats.proofs.Scaled.{Scaled, root_at, left, radicand_root, radicand_even, root_low, root_high, scaled_of}
use Rattle.floats.proofs.Fields.{units_of, units_odd, grid_of, sqrt-positive}

-- ---- x is n units, n * 2 ^ 1074 is m * 4 ^ h, and w is the whole root of m * 2 ^ 54
root_positive : (q k : ℕ) → 0 < q → T (positive (odd 53 false q k 1074))
root_positive q k h = positive_of_value (odd 53 false q k 1074) (q * 2 ^ k) (2 ^ 1074) (odd_sign 53 false q k 1074) (mul-pos h (pow_pos k))

root_fits : (q k : ℕ) → q < 2 ^ 53 → k ≤ 2045 → T (fits binary64 (odd 53 false q k 1074))
root_fits q k h l = odd-fits binary64 53 false q k h (le_of_lt h) (lt_of_lt_of_le (shl_lt 53 k h) (pow_mono room))
  where
    room : 53 + k ≤ 1074 + 1024
    room = omega arith

module _ (x : Float) (n m h w : ℕ) (e : units_in x ≡ n) (s : Scaled n m h) (r : IsRoot (m * 2 ^ 54) w) where
  is : radicand x ≡ m * 2 ^ 54 * (2 ^ (h - 27) * 2 ^ (h - 27))
  is = ap (λ (z : ℕ). z * 2 ^ 1074) e ∙ left n m h s

  full : 2 ^ 53 ≤ w
  full = root_low m s.low s.high w r

  lower_at : (p i : ℕ) → p < 2 ^ 53 → p * 2 ^ i < (w + 1) / 2 * 2 ^ (h - 27 + 1)
      → (p * 2 ^ i + (w + 1) / 2 * 2 ^ (h - 27 + 1)) * (p * 2 ^ i + (w + 1) / 2 * 2 ^ (h - 27 + 1)) < 4 * radicand x
  lower_at p i P l = rw is (halfway_lower (m * 2 ^ 54) w (h - 27) r (radicand_even m s.low s.high) full p i P l)

  upper_at : (p i : ℕ) → p < 2 ^ 53 → (w + 1) / 2 * 2 ^ (h - 27 + 1) < p * 2 ^ i
      → 4 * radicand x < (p * 2 ^ i + (w + 1) / 2 * 2 ^ (h - 27 + 1)) * (p * 2 ^ i + (w + 1) / 2 * 2 ^ (h - 27 + 1))
  upper_at p i P l = rw is (halfway_upper (m * 2 ^ 54) w (h - 27) r (radicand_even m s.low s.high) full p i P l)

  near : NearestRoot x (odd 53 false ((w + 1) / 2) (h - 27 + 1) 1074)
  near = record {
    held = root_fits ((w + 1) / 2) (h - 27 + 1) (small (root_high m s.low s.high w r)) (high s.roof);
    above = root_positive ((w + 1) / 2) (h - 27 + 1) (some full);
    lower = λ z f c l.
        let g = grid_of z f c in
        let v = units_of z false (g.0 * 2 ^ g.1) g.2 in
        let y = units_odd false ((w + 1) / 2) (h - 27 + 1) in
        subst₂ (λ (a b : ℕ). a < b → (a + b) * (a + b) < 4 * radicand x) (sym v) (sym y) (lower_at g.0 g.1 g.3) l;
    upper = λ z f c l.
        let g = grid_of z f c in
        let v = units_of z false (g.0 * 2 ^ g.1) g.2 in
        let y = units_odd false ((w + 1) / 2) (h - 27 + 1) in
        subst₂ (λ (a b : ℕ). b < a → 4 * radicand x < (a + b) * (a + b)) (sym v) (sym y) (upper_at g.0 g.1 g.3) l;
  }
    where
      small : w + 1 < 2 ^ 54 → (w + 1) / 2 < 2 ^ 53
      small a = omega arith

      high : h ≤ 1559 → h - 27 + 1 ≤ 2045
      high a = omega arith

      some : 2 ^ 53 ≤ w → 0 < (w + 1) / 2
      some a = omega arith

pub counts : (x : Float) → T (positive x) → T (counted x)
counts nan p = p
counts (inf s) p = p
counts (fin true m e) p = p
counts (fin false m e) p = tt

first : (q u : ℕ) → 0 < q * u → 0 < q
first zero u h = absurd (lt_irrefl 0 (subst (λ (x : ℕ). 0 < x) (zero-mul u) h))
first (suc q) u h = zero-lt-suc q

pub sqrt_nearest : (x : Float) → T (fits binary64 x) → T (positive x) → NearestRoot x (sqrt x)
sqrt_nearest x f p =
    let g = grid_of x f (counts x p) in
    let n = g.0 * 2 ^ g.1 in
    let N : 0 < n = value_pos x n (2 ^ 1074) p (pow_pos 1074) g.2 in
    let s = scaled_of g.0 g.1 (first g.0 (2 ^ g.1) N) g.3 g.4 in
    let m = s.0 in
    subst (λ (y : Float). NearestRoot x y) (sym (sqrt-positive x n N g.2 ∙ root_at n m s.1 s.2))
    (near x n m s.1 (whole_root 54 (m * 2 ^ 54)) (units_of x false n g.2) s.2 (radicand_root m s.2.low s.2.high))

-- ---- a value that is not below zero is known by its units
bits_by_units : (y z : Float) → T (counted y) → T (counted z) → units_in y ≡ units_in z → to_bits binary64 y ≡ to_bits binary64 z
unfolding units_in to_bits
bits_by_units nan z p q e = absurd p
bits_by_units (inf s) z p q e = absurd p
bits_by_units (fin true m c) z p q e = absurd p
bits_by_units (fin false m c) nan p q e = absurd q
bits_by_units (fin false m c) (inf t) p q e = absurd q
bits_by_units (fin false m c) (fin true k d) p q e = absurd q
bits_by_units (fin false m c) (fin false k d) p q e = ap (λ (n : ℕ). 0 + (size n - 53) * 2 ^ 52 + n / 2 ^ (size n - 53)) e

pub same_units : (y z : Float) → T (fits binary64 y) → T (fits binary64 z) → T (counted y) → T (counted z) → units_in y ≡ units_in z → y ≡ z
same_units y z f g p q e = sym (of_bits-to_bits binary64 y f) ∙ ap (of_bits binary64) (bits_by_units y z p q e) ∙ of_bits-to_bits binary64 z g

-- two nearest values: each is farther than the other, unless they are one
pub crossed : (R u v : ℕ) → R < (v + u) * (v + u) → (u + v) * (u + v) < R → ⊥
crossed R u v k l = omega arith

not_over : (R u v : ℕ) → (u < v → R < (v + u) * (v + u)) → (u < v → (u + v) * (u + v) < R) → v ≤ u
not_over R u v k l = ⊎_elim (λ (h : u < v). absurd (crossed R u v (k h) (l h))) (λ (h : v ≤ u). h) (cases_lt u v)

pub nearest_unique : (x y z : Float) → NearestRoot x y → NearestRoot x z → y ≡ z
nearest_unique x y z a b =
    same_units y z a.held b.held (counts y a.above) (counts z b.above)
    (le_antisymm (not_over (4 * radicand x) (units_in z) (units_in y) (b.upper y a.held (counts y a.above)) (a.lower z b.held (counts z b.above)))
    (not_over (4 * radicand x) (units_in y) (units_in z) (a.upper z b.held (counts z b.above)) (b.lower y a.held (counts y a.above))))

-- ---- in every case: `sqrt x` is the squareRoot of x, and nothing else is
pub sqrt_is : (x : Float) → T (fits binary64 x) → SquareRoot x (sqrt x)
unfolding sqrt
sqrt_is nan f = refl
sqrt_is (inf true) f = refl
sqrt_is (inf false) f = refl
sqrt_is (fin s zero e) f = refl
sqrt_is (fin true (suc m) e) f = refl
sqrt_is (fin false (suc m) e) f = sqrt_nearest (fin false (suc m) e) f (lt→ltb 0 (suc m) (zero-lt-suc m))

pub sqrt_only : (x y : Float) → T (fits binary64 x) → SquareRoot x y → y ≡ sqrt x
unfolding sqrt
sqrt_only nan y f h = h
sqrt_only (inf true) y f h = h
sqrt_only (inf false) y f h = h
sqrt_only (fin s zero e) y f h = h
sqrt_only (fin true (suc m) e) y f h = h
sqrt_only (fin false (suc m) e) y f h =
    nearest_unique (fin false (suc m) e) y (sqrt (fin false (suc m) e)) h (sqrt_nearest (fin false (suc m) e) f (lt→ltb 0 (suc m) (zero-lt-suc m)))
