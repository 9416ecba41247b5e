-- Which whole numbers of units a binary64 value can be: p * 2 ^ i with p < 2 ^ 53.
-- From q * 2 ^ k, with a q of 53 digits, the next one up is 2 ^ k away at least, and so is the next one down where q is above 2 ^ 52.
use mathlib.Core.Path.{◌≡◌, sym, ap, ◌∙◌, subst}
use mathlib.Core.Logic.{⊎_elim}
use Prim.Native.Nat.{ℕ, suc, ◌+◌, ◌*◌, ◌-◌, ◌^◌, ◌≤◌, ◌<◌}
use native.Mathlib.Nat.{le_trans, le_of_eq, mul_assoc, mul-le-mul_right, mul-lt-mul_of_pos_right, lt_of_mul-lt-mul_right, pow-succ'}
use native.Mathlib.Omega.{arith}
use lib.Pow.{pow-add, pow_pos, pow_mono}
use Rattle.std.proofs.lemmas.Bool.{cases_lt}

-- p * 2 ^ i is a multiple of 2 ^ k where k ≤ i
multiple : (p i k : ℕ) → k ≤ i → p * 2 ^ i ≡ p * 2 ^ (i - k) * 2 ^ k
multiple p i k h = ap (λ (x : ℕ). p * 2 ^ x) (back i k h) ∙ ap (λ (x : ℕ). p * x) (pow-add 2 (i - k) k) ∙ sym (mul_assoc p (2 ^ (i - k)) (2 ^ k))
  where
    back : (i k : ℕ) → k ≤ i → i ≡ i - k + k
    back i k h = omega arith

-- and is below 2 ^ 52 of them otherwise
below : (p i k : ℕ) → p < 2 ^ 53 → i < k → p * 2 ^ i < 2 ^ 52 * 2 ^ k
below p i k P h =
    let a : p * 2 ^ i < 2 ^ 53 * 2 ^ i = mul-lt-mul_of_pos_right P (pow_pos i) in
    let b : 2 * 2 ^ i ≤ 2 ^ k = le_trans (le_of_eq (sym (pow-succ' 2 i))) (pow_mono h) in
    omega arith

next : (q r u : ℕ) → q * u < r * u → q * u + u ≤ r * u
next q r u h =
    let a : suc q * u ≤ r * u = mul-le-mul_right u (lt_of_mul-lt-mul_right u h) in
    omega arith

pub next_up : (q k p i : ℕ) → 2 ^ 52 ≤ q → p < 2 ^ 53 → q * 2 ^ k < p * 2 ^ i → q * 2 ^ k + 2 ^ k ≤ p * 2 ^ i
next_up q k p i Q P h = ⊎_elim
    (λ (l : i < k). absurd (no (below p i k P l)))
    (λ (g : k ≤ i). subst (λ (z : ℕ). q * 2 ^ k + 2 ^ k ≤ z) (sym (multiple p i k g)) (next q (p * 2 ^ (i - k)) (2 ^ k) (subst (λ (z : ℕ). q * 2 ^ k < z) (multiple p i k g) h)))
    (cases_lt i k)
  where
    no : p * 2 ^ i < 2 ^ 52 * 2 ^ k → ⊥
    no b = let a : 2 ^ 52 * 2 ^ k ≤ q * 2 ^ k = mul-le-mul_right (2 ^ k) Q in omega arith

pub next_down : (q k p i : ℕ) → 2 ^ 52 < q → p < 2 ^ 53 → p * 2 ^ i < q * 2 ^ k → p * 2 ^ i + 2 ^ k ≤ q * 2 ^ k
next_down q k p i Q P h = ⊎_elim
    (λ (l : i < k). far (below p i k P l))
    (λ (g : k ≤ i). subst (λ (z : ℕ). z + 2 ^ k ≤ q * 2 ^ k) (sym (multiple p i k g)) (next (p * 2 ^ (i - k)) q (2 ^ k) (subst (λ (z : ℕ). z < q * 2 ^ k) (multiple p i k g) h)))
    (cases_lt i k)
  where
    far : p * 2 ^ i < 2 ^ 52 * 2 ^ k → p * 2 ^ i + 2 ^ k ≤ q * 2 ^ k
    far b = let a : suc (2 ^ 52) * 2 ^ k ≤ q * 2 ^ k = mul-le-mul_right (2 ^ k) Q in omega arith
