-- Lists whose numbers are below a bound.
use Prim.Native.Nat.{ℕ, zero, suc, ◌+◌, ◌≤◌, ◌<◌}
use mathlib.Core.Path.{◌≡◌}
use mathlib.Core.Logic.{◌⊎◌, inl, inr}
use mathlib.Core.Bool.{Bool, true, false}
use mathlib.Core.List.{List, [], ◌∷◌, ◌++◌}
use native.Mathlib.Omega.{arith}
use lib.Dec.{leb}
use lib.ListN.{length, get_or}
use Rattle.laws.specs.Lists.{only_if, keep, insert, sort, add, up_from}
use Rattle.laws.specs.Merging.{AllBelow}
use Rattle.std.proofs.lemmas.Bool.{cases_Bool}

-- each element is below it
pub below_at : (n : ℕ) (l : List ℕ) (i : ℕ) → AllBelow n l → i < length l → get_or l i 0 < n
below_at n [] i h k = absurd (omega arith)
below_at n (x ∷ l) zero h k = h.0
below_at n (x ∷ l) (suc i) h k = below_at n l i h.1 (omega arith)

-- and back
pub below_each : (n : ℕ) (l : List ℕ) → ((i : ℕ) → i < length l → get_or l i 0 < n) → AllBelow n l
below_each n [] h = tt
below_each n (x ∷ l) h = (h 0 (omega arith), below_each n l (λ i b. h (suc i) (omega (arith, b))))

-- two lists, one after the other, and back
pub below_append : (n : ℕ) (a b : List ℕ) → AllBelow n a → AllBelow n b → AllBelow n (a ++ b)
below_append n [] b h k = k
below_append n (x ∷ a) b h k = (h.0, below_append n a b h.1 k)

pub below_left : (n : ℕ) (a b : List ℕ) → AllBelow n (a ++ b) → AllBelow n a
below_left n [] b h = tt
below_left n (x ∷ a) b h = (h.0, below_left n a b h.1)

pub below_right : (n : ℕ) (a b : List ℕ) → AllBelow n (a ++ b) → AllBelow n b
below_right n [] b h = h
below_right n (x ∷ a) b h = below_right n a b h.1

-- n numbers from a on
pub below-up_from : (n a k : ℕ) → a + n ≤ k → AllBelow k (up_from a n)
below-up_from zero a k h = tt
below-up_from (suc n) a k h = (omega arith, below-up_from n (suc a) k (omega arith))

-- sorting keeps a bound
module _ (le : ℕ → ℕ → Bool) where
  below-insert : (n x : ℕ) (l : List ℕ) → x < n → AllBelow n l → AllBelow n (insert le x l)
  below-insert n x [] h k = (h, tt)
  below-insert n x (y ∷ l) h k = go (cases_Bool (le x y)) (below-insert n x l h k.1)
    where
      go : (le x y ≡ true) ⊎ (le x y ≡ false) → AllBelow n (insert le x l) → AllBelow n (insert le x (y ∷ l))
      go (inl e) i = rw e (h, k)
      go (inr e) i = rw e (k.0, i)

  pub below-sort : (n : ℕ) (l : List ℕ) → AllBelow n l → AllBelow n (sort le l)
  below-sort n [] h = tt
  below-sort n (x ∷ l) h = below-insert n x (sort le l) h.0 (below-sort n l h.1)

-- those kept
pub below-keep : (n : ℕ) (p : ℕ → Bool) (l : List ℕ) → AllBelow n l → AllBelow n (keep p l)
below-keep n p [] h = tt
below-keep n p (x ∷ l) h = below_append n (only_if (p x) (x ∷ [])) (keep p l) (go (p x)) (below-keep n p l h.1)
  where
    go : (b : Bool) → AllBelow n (only_if b (x ∷ []))
    go true = (h.0, tt)
    go false = tt

-- one number more in its place, once
pub below-add : (n x : ℕ) (l : List ℕ) → x < n → AllBelow n l → AllBelow n (add leb x l)
below-add n x [] h b = (h, tt)
below-add n x (y ∷ l) h b = go (cases_Bool (leb x y)) (cases_Bool (leb y x)) (below-add n x l h b.1)
  where
    go : (leb x y ≡ true) ⊎ (leb x y ≡ false) → (leb y x ≡ true) ⊎ (leb y x ≡ false) → AllBelow n (add leb x l) → AllBelow n (add leb x (y ∷ l))
    go (inl a) (inl c) ih = rw (a, c) b
    go (inl a) (inr c) ih = rw (a, c) (h, b)
    go (inr a) c ih = rw a (b.0, ih)
