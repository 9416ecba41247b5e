-- A sum over numbers, taken one at a time.
use Prim.Native.Nat.{ℕ, suc, ◌+◌, ◌-◌, ◌<◌}
use mathlib.Core.Path.{◌≡◌, sym, ap, ◌∙◌}
use mathlib.Core.List.{map}
use native.Mathlib.Numerals.{add-one}
use native.Mathlib.Omega.{arith}
use Rattle.laws.specs.Lists.{up_from, sum}

-- f's values from n on, below m
abbrev pub left : (ℕ → ℕ) → ℕ → ℕ → ℕ
left f n m = sum (map f (up_from n (m - n)))

module _ (f : ℕ → ℕ) (m : ℕ) where
  -- at first all is left
  pub left_all : 0 + left f 0 m ≡ sum (map f (up_from 0 m))
  left_all = let e : m - 0 ≡ m = omega arith in omega (arith, ap (λ (k : ℕ). sum (map f (up_from 0 k))) e)

  -- the next value, and those behind it
  left_next : (n : ℕ) → n < m → left f n m ≡ f n + left f (n + 1) m
  left_next n h =
      let e : m - n ≡ suc (m - (n + 1)) = omega arith in
      ap (λ (k : ℕ). sum (map f (up_from n k))) e ∙ ap (λ (k : ℕ). f n + sum (map f (up_from k (m - (n + 1))))) (sym (add-one n))

  -- one value is added
  pub left_turn : (n total r whole : ℕ) → n < m → total + left f n m ≡ whole → r ≡ f n → total + r + left f (n + 1) m ≡ whole
  left_turn n total r whole h e d = omega (arith, left_next n h)
