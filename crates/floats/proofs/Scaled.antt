-- A number of units n as the digit function has it: n * 2 ^ 1074 is m * 4 ^ h for an m of 53 or 54 digits. The root of n units is then found from m and h (`root_at`).
use mathlib.Core.Path.{◌≡◌, refl, sym, ap, ◌∙◌, subst}
use mathlib.Core.Logic.{⊎_elim}
use mathlib.Core.Bool.{false}
use Prim.Native.Nat.{ℕ, suc, ◌+◌, ◌*◌, ◌/◌, ◌%◌, ◌-◌, ◌^◌, ◌≤◌, ◌<◌}
use native.Mathlib.Nat.{le_trans, le_of_eq, lt_of_le_of_lt, lt_of_lt_of_le, lt_of_not-le, not-le_of_lt, le_of_suc-le-suc, mul_assoc, mul-mul-mul_comm, mul-le-mul_right, mul-lt-mul_of_pos_right, mul-pos, mul-div_cancel}
use native.Mathlib.Omega.{arith}
use lib.Dec.{lit<}
use lib.Pow.{pow-add, pow_pos, pow_mono, shl_lt}
use lib.Ieee.{size, odd}
use lib.Ieee.Digits.{size-lt, size-le, size_reaches}
use Rattle.floats.specs.Root.{whole_root, root_of_units}
use Rattle.std.proofs.lemmas.Bool.{cases_lt}
use Rattle.floats.proofs.Whole.{IsRoot, whole_root_lem, square_lt_back}

pub record Scaled (n m h : ℕ) : Type 0 where
  pub whole : n * 2 ^ 1074 ≡ m * (2 ^ h * 2 ^ h)
  pub low : 2 ^ 52 ≤ m
  pub high : m + 2 ≤ 2 ^ 54
  pub room : 511 ≤ h
  pub roof : h ≤ 1559

pub pow_lt_back : (i p : ℕ) → 2 ^ i < 2 ^ p → i < p
pow_lt_back i p h = lt_of_not-le (λ (g : p ≤ i). not-le_of_lt h (pow_mono g))

-- 2 ^ c * 2 ^ h * 2 ^ h
square_pow : (c h : ℕ) → 2 ^ c * (2 ^ h * 2 ^ h) ≡ 2 ^ (c + (h + h))
square_pow c h = ap (λ (x : ℕ). 2 ^ c * x) (sym (pow-add 2 h h)) ∙ sym (pow-add 2 c (h + h))

-- ---- n has 2 h - 1021 digits, or one more
module _ (n m h : ℕ) (s : Scaled n m h) where
  digits_high : 52 + (h + h) < size n + 1074
  digits_high =
      pow_lt_back (52 + (h + h)) (size n + 1074)
      (lt_of_le_of_lt (le_trans (le_of_eq (sym (square_pow 52 h))) (le_trans (mul-le-mul_right (2 ^ h * 2 ^ h) s.low) (le_of_eq (sym s.whole))))
      (lt_of_lt_of_le (mul-lt-mul_of_pos_right (size-lt n) (pow_pos 1074)) (le_of_eq (sym (pow-add 2 (size n) 1074)))))

  some : 0 < size n
  some = let r = s.room in let d = digits_high in omega arith

  digits_low : size n - 1 + 1074 < 54 + (h + h)
  digits_low =
      pow_lt_back (size n - 1 + 1074) (54 + (h + h))
      (lt_of_le_of_lt (le_trans (le_of_eq (pow-add 2 (size n - 1) 1074)) (le_trans (mul-le-mul_right (2 ^ 1074) (size_reaches n (size n - 1) (pred some))) (le_of_eq s.whole)))
      (lt_of_lt_of_le (mul-lt-mul_of_pos_right m_lt (mul-pos (pow_pos h) (pow_pos h))) (le_of_eq (square_pow 54 h))))
    where
      pred : 0 < size n → size n - 1 < size n
      pred p = omega arith

      m_lt : m < 2 ^ 54
      m_lt = let g = s.high in omega arith

  -- so this many digits of its root are cut off
  cut : (size n + 967) / 2 ≡ h - 27
  cut = let a = digits_high in let b = digits_low in let c = some in let r = s.room in omega arith

  -- and what is left is m * 2 ^ 54
  pub left : n * 2 ^ 1074 ≡ m * 2 ^ 54 * (2 ^ (h - 27) * 2 ^ (h - 27))
  left =
      let j = h - 27 in
      let e : 27 + j ≡ h = (let r = s.room in omega arith) in
      s.whole
      ∙ ap (λ (x : ℕ). m * (2 ^ x * 2 ^ x)) (sym e)
      ∙ ap (λ (x : ℕ). m * (x * x)) (pow-add 2 27 j)
      ∙ ap (λ (x : ℕ). m * x) (mul-mul-mul_comm (2 ^ 27) (2 ^ j) (2 ^ 27) (2 ^ j))
      ∙ sym (mul_assoc m (2 ^ 54) (2 ^ j * 2 ^ j))

  opened : root_of_units n ≡ odd 53 false ((whole_root 54 (n * 2 ^ 1074 / (2 ^ ((size n + 967) / 2) * 2 ^ ((size n + 967) / 2))) + 1) / 2) ((size n + 967) / 2 + 1) 1074
  unfolding root_of_units
  opened = refl

  pub root_at : root_of_units n ≡ odd 53 false ((whole_root 54 (m * 2 ^ 54) + 1) / 2) (h - 27 + 1) 1074
  root_at =
      let j = h - 27 in
      opened
      ∙ ap (λ (i : ℕ). odd 53 false ((whole_root 54 (n * 2 ^ 1074 / (2 ^ i * 2 ^ i)) + 1) / 2) (i + 1) 1074) cut
      ∙ ap (λ (x : ℕ). odd 53 false ((whole_root 54 x + 1) / 2) (j + 1) 1074)
      (ap (λ (x : ℕ). x / (2 ^ j * 2 ^ j)) left ∙ mul-div_cancel (m * 2 ^ 54) (mul-pos (pow_pos j) (pow_pos j)))

-- ---- the whole root of m * 2 ^ 54 has 54 digits, and is not 2 ^ 54 - 1
module _ (m : ℕ) (low : 2 ^ 52 ≤ m) (high : m + 2 ≤ 2 ^ 54) where
  pub radicand_root : IsRoot (m * 2 ^ 54) (whole_root 54 (m * 2 ^ 54))
  radicand_root = whole_root_lem 54 (m * 2 ^ 54) (mul-lt-mul_of_pos_right m_lt (pow_pos 54))
    where
      m_lt : m < 2 ^ 54
      m_lt = omega arith

  pub radicand_even : m * 2 ^ 54 % 2 ≡ 0
  radicand_even = omega arith

  pub root_low : (w : ℕ) → IsRoot (m * 2 ^ 54) w → 2 ^ 53 ≤ w
  root_low w r = le_of_suc-le-suc (square_lt_back (2 ^ 53) (suc w) (lt_of_le_of_lt (mul-le-mul_right (2 ^ 54) low) r.high))

  pub root_high : (w : ℕ) → IsRoot (m * 2 ^ 54) w → w + 1 < 2 ^ 54
  root_high w r = below (square_lt_back w 0x3f_ffff_ffff_ffff (lt_of_le_of_lt r.low (lt_of_le_of_lt (mul-le-mul_right (2 ^ 54) m_le) (lit< tt))))
    where
      m_le : m ≤ 0x3f_ffff_ffff_fffe
      m_le = omega arith

      below : w < 0x3f_ffff_ffff_ffff → w + 1 < 2 ^ 54
      below h = omega arith

-- ---- n * 2 ^ 1074 is p * 2 ^ a, with a p of 53 digits: where a is odd, p is doubled
even_pow : (a : ℕ) → a % 2 ≡ 0 → 2 ^ a ≡ 2 ^ (a / 2) * 2 ^ (a / 2)
even_pow a z = ap (λ (x : ℕ). 2 ^ x) e ∙ pow-add 2 (a / 2) (a / 2)
  where
    e : a ≡ a / 2 + a / 2
    e = omega arith

odd_pow : (a : ℕ) → a % 2 ≡ 1 → 2 ^ a ≡ 2 * (2 ^ (a / 2) * 2 ^ (a / 2))
odd_pow a z = ap (λ (x : ℕ). 2 ^ x) e ∙ pow-add 2 1 (a / 2 + a / 2) ∙ ap (λ (x : ℕ). 2 * x) (pow-add 2 (a / 2) (a / 2))
  where
    e : a ≡ 1 + (a / 2 + a / 2)
    e = omega arith

module _ (n p a : ℕ) (e : n * 2 ^ 1074 ≡ p * 2 ^ a) (low : 2 ^ 52 ≤ p) (high : p < 2 ^ 53) (room : 1022 ≤ a) (roof : a ≤ 3119) where
  pub scaled_even : a % 2 ≡ 0 → Scaled n p (a / 2)
  scaled_even z = record { whole = e ∙ ap (λ (x : ℕ). p * x) (even_pow a z); low = low; high = omega arith; room = omega arith; roof = omega arith }

  pub scaled_odd : a % 2 ≡ 1 → Scaled n (p * 2) (a / 2)
  scaled_odd z = record { whole = e ∙ ap (λ (x : ℕ). p * x) (odd_pow a z) ∙ sym (mul_assoc p 2 (2 ^ (a / 2) * 2 ^ (a / 2))); low = omega arith; high = omega arith; room = omega arith; roof = omega arith }

  pub scaled : (m : ℕ) × Scaled n m (a / 2)
  scaled = ⊎_elim (λ (h : a % 2 < 1). (p, scaled_even (zero_of h))) (λ (h : 1 ≤ a % 2). (p * 2, scaled_odd (one_of h))) (cases_lt (a % 2) 1)
    where
      zero_of : a % 2 < 1 → a % 2 ≡ 0
      zero_of h = omega arith

      one_of : 1 ≤ a % 2 → a % 2 ≡ 1
      one_of h = omega arith

-- ---- a q of j + 1 digits, with 52 - j zeros after it, has 53
module _ (q z j : ℕ) (low : 2 ^ j ≤ q) (high : q < 2 ^ suc j) (e : j + z ≡ 52) where
  pub shifted_low : 2 ^ 52 ≤ q * 2 ^ z
  shifted_low = le_trans (le_of_eq (ap (λ (x : ℕ). 2 ^ x) (sym e) ∙ pow-add 2 j z)) (mul-le-mul_right (2 ^ z) low)

  pub shifted_high : q * 2 ^ z < 2 ^ 53
  shifted_high = subst (λ (x : ℕ). q * 2 ^ z < 2 ^ x) f (shl_lt (suc j) z high)
    where
      f : suc j + z ≡ 53
      f = omega arith

-- moving z zeros from the power to the number
pub moved : (q k z : ℕ) → z ≤ k + 1074 → q * 2 ^ k * 2 ^ 1074 ≡ q * 2 ^ z * 2 ^ (k + 1074 - z)
moved q k z h =
    mul_assoc q (2 ^ k) (2 ^ 1074)
    ∙ ap (λ (x : ℕ). q * x) (sym (pow-add 2 k 1074) ∙ ap (λ (x : ℕ). 2 ^ x) e ∙ pow-add 2 z (k + 1074 - z))
    ∙ sym (mul_assoc q (2 ^ z) (2 ^ (k + 1074 - z)))
  where
    e : k + 1074 ≡ z + (k + 1074 - z)
    e = omega arith

-- ---- so every number of units that a value has is scaled
size_gt : (n j : ℕ) → 2 ^ j ≤ n → j < size n
size_gt n j h = lt_of_not-le (λ (g : size n ≤ j). not-le_of_lt (lt_of_lt_of_le (size-lt n) (pow_mono g)) h)

pub scaled_of : (q k : ℕ) → 0 < q → q < 2 ^ 53 → k ≤ 2045 → (m : ℕ) × (h : ℕ) × Scaled (q * 2 ^ k) m h
scaled_of q k Q P K =
    let d = size q in
    let D : 0 < d = size_gt q 0 Q in
    let D' : d ≤ 53 = size-le q 53 P in
    let j = d - 1 in
    let z = 53 - d in
    let e : j + z ≡ 52 = omega arith in
    let s : suc j ≡ d = omega arith in
    let low : 2 ^ j ≤ q = size_reaches q j (omega arith) in
    let high : q < 2 ^ suc j = subst (λ (x : ℕ). q < 2 ^ x) (sym s) (size-lt q) in
    let a = k + 1074 - z in
    let r = scaled (q * 2 ^ k) (q * 2 ^ z) a (moved q k z (omega arith)) (shifted_low q z j low high e) (shifted_high q z j low high e) (omega arith) (omega arith) in
    (r.0, a / 2, r.1)
