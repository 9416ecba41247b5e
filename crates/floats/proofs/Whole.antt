-- Whole roots: `whole_root` is one, there is one only, and what the digit function's calls ask and give.
use mathlib.Core.Path.{◌≡◌, sym, ap, ◌∙◌, subst}
use mathlib.Core.Bool.{Bool, true, false, not, cond}
use Prim.Native.Nat.{ℕ, zero, suc, ◌+◌, ◌*◌, ◌/◌, ◌-◌, ◌%◌, ◌^◌, ◌≤◌, ◌<◌, zero-le}
use native.Mathlib.Nat.{le_trans, lt_of_le_of_lt, lt_of_lt_of_le, le_antisymm, lt_of_not-le, not-le_of_lt, le_of_suc-le-suc, mul-le-mul_left, mul-le-mul_right, mul_assoc, mul-one, add-zero, pow-suc}
use native.Mathlib.Omega.{arith}
use lib.Dec.{T, leb, leb→le, nleb→lt}
use lib.Pow.{pow_mono}
use Rattle.floats.specs.Root.{digit, whole_root}
use Rattle.floats.specs.Steps.{Rest}

-- ---- squares

pub square_le : (a b : ℕ) → a ≤ b → a * a ≤ b * b
square_le a b h = le_trans (mul-le-mul_left a h) (mul-le-mul_right b h)

pub square_lt : (a b : ℕ) → a < b → a * a < b * b
square_lt a b h =
    let p : suc a * suc a ≤ b * b = square_le (suc a) b h in
    omega arith

pub square_lt_back : (a b : ℕ) → a * a < b * b → a < b
square_lt_back a b h = lt_of_not-le (λ (g : b ≤ a). not-le_of_lt h (square_le b a g))

-- ---- the whole root, by two squares

pub record IsRoot (n r : ℕ) : Type 0 where
  pub low : r * r ≤ n
  pub high : n < suc r * suc r

pub root_unique : (n r q : ℕ) → IsRoot n r → IsRoot n q → r ≡ q
root_unique n r q a b =
    le_antisymm
    (le_of_suc-le-suc (square_lt_back r (suc q) (lt_of_le_of_lt a.low b.high)))
    (le_of_suc-le-suc (square_lt_back q (suc r) (lt_of_le_of_lt b.low a.high)))

pub of_rest : (n r s : ℕ) → Rest n r s → IsRoot n r
of_rest n r s h = record { low = omega arith; high = omega arith }

quarter : (n k : ℕ) → n < 4 ^ suc k → n / 4 < 4 ^ k
quarter n k h = let g : n < 4 ^ k * 4 = subst (λ (m : ℕ). n < m) (pow-suc 4 k) h in omega arith

digit_root : (n q : ℕ) → IsRoot (n / 4) q → IsRoot n (digit n q)
digit_root n q h = go (leb ((2 * q + 1) * (2 * q + 1)) n) (leb→le _ _) (nleb→lt _ _)
  where
    go : (b : Bool) → (T b → (2 * q + 1) * (2 * q + 1) ≤ n) → (T (not b) → n < (2 * q + 1) * (2 * q + 1)) → IsRoot n (cond b (2 * q + 1) (2 * q))
    go true l g = let l' = l tt in record { low = l'; high = omega arith }
    go false l g = let g' = g tt in record { low = omega arith; high = omega arith }

pub whole_root_lem : (k n : ℕ) → n < 4 ^ k → IsRoot n (whole_root k n)
unfolding whole_root
whole_root_lem zero n h = record { low = zero-le; high = h }
whole_root_lem (suc k) n h = digit_root n (whole_root k (n / 4)) (whole_root_lem k (n / 4) (quarter n k h))

-- ---- the digit function: the root of m * 4 ^ zeros, below 4 ^ left

-- what is asked of the call, at a digit of m
pub down : (m zeros left : ℕ) → (left ≡ 0 → ⊥) → zeros ≡ 0 → m < 4 ^ (left - zeros) → m / 4 < 4 ^ (left - 1 - 0)
down m zeros left n e l =
    let d : left - zeros ≡ suc (left - 1 - 0) = omega arith in
    quarter m (left - 1 - 0) (subst (λ (x : ℕ). m < 4 ^ x) d l)

-- what the call is of
pub last_digit : (m zeros : ℕ) → zeros ≡ 0 → m / 4 * 4 ^ 0 * 4 + m % 4 ≡ m * 4 ^ zeros
last_digit m z e = sum ∙ sym (ap (λ (x : ℕ). m * 4 ^ x) e ∙ mul-one m)
  where
    sum : m / 4 * 1 * 4 + m % 4 ≡ m
    sum = omega arith

pub last_zero : (m zeros : ℕ) → (zeros ≡ 0 → ⊥) → m * 4 ^ (zeros - 1) * 4 + 0 ≡ m * 4 ^ zeros
last_zero m zeros n =
    let d : suc (zeros - 1) ≡ zeros = omega arith in
    add-zero (m * 4 ^ (zeros - 1) * 4) ∙ mul_assoc m (4 ^ (zeros - 1)) 4 ∙ ap (λ (x : ℕ). m * x) (sym (pow-suc 4 (zeros - 1)) ∙ ap (λ (x : ℕ). 4 ^ x) d)

-- a root of left - 1 digits is small, and one digit more makes left
pub root_small : (r left : ℕ) → left ≤ 54 → r < 2 ^ (left - 1) → r < 2 ^ 60
root_small r left h l = lt_of_lt_of_le l (pow_mono room)
  where
    room : left - 1 ≤ 60
    room = omega arith

pub one_more : (r q left : ℕ) → (left ≡ 0 → ⊥) → q < 2 ^ (left - 1) → r ≤ 2 * q + 1 → r < 2 ^ left
one_more r q left n h l =
    let d : suc (left - 1) ≡ left = omega arith in
    let e : 2 ^ left ≡ 2 ^ (left - 1) * 2 = ap (λ (x : ℕ). 2 ^ x) (sym d) ∙ pow-suc 2 (left - 1) in
    omega arith
