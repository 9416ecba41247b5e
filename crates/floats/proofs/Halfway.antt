-- Where the points halfway between two values lie.
-- The radicand R is m * u², u being 2 ^ j, and w is the whole root of m: R lies between (w * u)² and ((w + 1) * u)². The value y is (w + 1) / 2 * 2 u, so it is w * u for an even w, and (w + 1) * u for an odd one.
-- Another value is 2 u away at least, but for one below an even w's. And R is not (w * u)² for an odd w, since m is even: there is no tie.
use mathlib.Core.Path.{◌≡◌, sym, ap, ◌∙◌, subst}
use mathlib.Core.Logic.{◌⊎◌, inl, inr, ⊎_elim}
use Prim.Native.Nat.{ℕ, suc, ◌+◌, ◌*◌, ◌/◌, ◌%◌, ◌^◌, ◌≤◌, ◌<◌}
use native.Mathlib.Nat.{le_trans, le_of_eq, lt_of_le_of_lt, lt_of_lt_of_le, mul-le-mul_right, mul-lt-mul_of_pos_right, mul-mul-mul_comm, mul-pos, pow-suc}
use native.Mathlib.Numerals.{add-one}
use native.Mathlib.Omega.{arith}
use lib.Pow.{pow_pos}
use Rattle.floats.proofs.Whole.{IsRoot, square_le, square_lt}
use Rattle.std.proofs.lemmas.Bool.{cases_lt}
use Rattle.floats.proofs.Grid.{next_up, next_down}

-- (A + A)² is 4 A²
inside : (s A R : ℕ) → s ≤ A + A → A * A < R → s * s < 4 * R
inside s A R h k = let a : s * s ≤ (A + A) * (A + A) = square_le s (A + A) h in omega arith

inside_lt : (s A R : ℕ) → s < A + A → A * A ≤ R → s * s < 4 * R
inside_lt s A R h k = let a : s * s < (A + A) * (A + A) = square_lt s (A + A) h in omega arith

outside : (s B R : ℕ) → B + B ≤ s → R < B * B → 4 * R < s * s
outside s B R h k = let a : (B + B) * (B + B) ≤ s * s = square_le (B + B) s h in omega arith

even_or_odd : (w : ℕ) → (w ≡ (w + 1) / 2 + (w + 1) / 2) ⊎ (suc w ≡ (w + 1) / 2 + (w + 1) / 2)
even_or_odd w = ⊎_elim (λ (h : w % 2 < 1). inl (ev h)) (λ (h : 1 ≤ w % 2). inr (od h)) (cases_lt (w % 2) 1)
  where
    ev : w % 2 < 1 → w ≡ (w + 1) / 2 + (w + 1) / 2
    ev h = omega arith

    od : 1 ≤ w % 2 → suc w ≡ (w + 1) / 2 + (w + 1) / 2
    od h = omega arith

odd_square : (m w q : ℕ) → suc w ≡ q + q → m % 2 ≡ 0 → w * w ≤ m → w * w < m
odd_square m w q e z h = go w q e h
  where
    go : (w q : ℕ) → suc w ≡ q + q → w * w ≤ m → w * w < m
    go w Prim.Native.Nat.zero e h = absurd (no w e)
      where
        no : (w : ℕ) → suc w ≡ 0 + 0 → ⊥
        no w e = omega arith
    go w (suc q) e h =
        let f : w ≡ q + q + 1 = omega arith in
        subst (λ (x : ℕ). x * x < m) (sym f) (fin (subst (λ (x : ℕ). x * x ≤ m) f h))
      where
        fin : (q + q + 1) * (q + q + 1) ≤ m → (q + q + 1) * (q + q + 1) < m
        fin h = omega arith

module _ (m w j : ℕ) (root : IsRoot m w) (even : m % 2 ≡ 0) (full : 2 ^ 53 ≤ w) where
  radical_low : w * 2 ^ j * (w * 2 ^ j) ≤ m * (2 ^ j * 2 ^ j)
  radical_low = le_trans (le_of_eq (mul-mul-mul_comm w (2 ^ j) w (2 ^ j))) (mul-le-mul_right (2 ^ j * 2 ^ j) root.low)

  radical_high : m * (2 ^ j * 2 ^ j) < suc w * 2 ^ j * (suc w * 2 ^ j)
  radical_high = lt_of_lt_of_le (mul-lt-mul_of_pos_right root.high (mul-pos (pow_pos j) (pow_pos j))) (le_of_eq (sym (mul-mul-mul_comm (suc w) (2 ^ j) (suc w) (2 ^ j))))

  radical_odd : (q : ℕ) → suc w ≡ q + q → w * 2 ^ j * (w * 2 ^ j) < m * (2 ^ j * 2 ^ j)
  radical_odd q e = lt_of_le_of_lt (le_of_eq (mul-mul-mul_comm w (2 ^ j) w (2 ^ j))) (mul-lt-mul_of_pos_right (odd_square m w q e even root.low) (mul-pos (pow_pos j) (pow_pos j)))

  doubled : (q : ℕ) → q * 2 ^ (j + 1) ≡ (q + q) * 2 ^ j
  doubled q = let e : 2 ^ (j + 1) ≡ 2 ^ j * 2 = ap (λ (x : ℕ). 2 ^ x) (add-one j) ∙ pow-suc 2 j in ap (λ (x : ℕ). q * x) e ∙ regroup q (2 ^ j)
    where
      regroup : (q u : ℕ) → q * (u * 2) ≡ (q + q) * u
      regroup q u = omega arith

  twice_u : 2 ^ (j + 1) ≡ 2 ^ j + 2 ^ j
  twice_u = ap (λ (x : ℕ). 2 ^ x) (add-one j) ∙ pow-suc 2 j ∙ two (2 ^ j)
    where
      two : (u : ℕ) → u * 2 ≡ u + u
      two u = omega arith

  pub halfway_lower : (p i : ℕ) → p < 2 ^ 53 → p * 2 ^ i < (w + 1) / 2 * 2 ^ (j + 1)
      → (p * 2 ^ i + (w + 1) / 2 * 2 ^ (j + 1)) * (p * 2 ^ i + (w + 1) / 2 * 2 ^ (j + 1)) < 4 * (m * (2 ^ j * 2 ^ j))
  halfway_lower p i P h = ⊎_elim
      (λ (e : w ≡ q + q). inside_lt (z + q * 2 ^ (j + 1)) (w * 2 ^ j) (m * (2 ^ j * 2 ^ j)) (ev e) radical_low)
      (λ (e : suc w ≡ q + q). inside (z + q * 2 ^ (j + 1)) (w * 2 ^ j) (m * (2 ^ j * 2 ^ j)) (od e) (radical_odd q e))
      (even_or_odd w)
    where
      z : ℕ
      z = p * 2 ^ i

      q : ℕ
      q = (w + 1) / 2

      ev : w ≡ q + q → z + q * 2 ^ (j + 1) < w * 2 ^ j + w * 2 ^ j
      ev e = let f : q * 2 ^ (j + 1) ≡ w * 2 ^ j = doubled q ∙ ap (λ (x : ℕ). x * 2 ^ j) (sym e) in omega arith

      od : suc w ≡ q + q → z + q * 2 ^ (j + 1) ≤ w * 2 ^ j + w * 2 ^ j
      od e =
          let f : q * 2 ^ (j + 1) ≡ suc w * 2 ^ j = doubled q ∙ ap (λ (x : ℕ). x * 2 ^ j) (sym e) in
          let g : z + 2 ^ (j + 1) ≤ q * 2 ^ (j + 1) = next_down q (j + 1) p i (omega arith) P h in
          let t = twice_u in
          omega arith

  pub halfway_upper : (p i : ℕ) → p < 2 ^ 53 → (w + 1) / 2 * 2 ^ (j + 1) < p * 2 ^ i
      → 4 * (m * (2 ^ j * 2 ^ j)) < (p * 2 ^ i + (w + 1) / 2 * 2 ^ (j + 1)) * (p * 2 ^ i + (w + 1) / 2 * 2 ^ (j + 1))
  halfway_upper p i P h = outside (z + q * 2 ^ (j + 1)) (suc w * 2 ^ j) (m * (2 ^ j * 2 ^ j)) (⊎_elim ev od (even_or_odd w)) radical_high
    where
      z : ℕ
      z = p * 2 ^ i

      q : ℕ
      q = (w + 1) / 2

      ev : w ≡ q + q → suc w * 2 ^ j + suc w * 2 ^ j ≤ z + q * 2 ^ (j + 1)
      ev e =
          let f : q * 2 ^ (j + 1) ≡ w * 2 ^ j = doubled q ∙ ap (λ (x : ℕ). x * 2 ^ j) (sym e) in
          let g : q * 2 ^ (j + 1) + 2 ^ (j + 1) ≤ z = next_up q (j + 1) p i (omega arith) P h in
          let t = twice_u in
          omega arith

      od : suc w ≡ q + q → suc w * 2 ^ j + suc w * 2 ^ j ≤ z + q * 2 ^ (j + 1)
      od e = let f : q * 2 ^ (j + 1) ≡ suc w * 2 ^ j = doubled q ∙ ap (λ (x : ℕ). x * 2 ^ j) (sym e) in omega arith
