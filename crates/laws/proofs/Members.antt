-- The members of a list of numbers: of a sorted list, of one with each number once, and below a bound.
use Prim.Native.Nat.{ℕ, ◌+◌, ◌<◌}
use mathlib.Core.Path.{◌≡◌, refl, sym, ap, ap₂, ◌∙◌}
use mathlib.Core.Logic.{◌⊎◌, inl, inr, ⊎_elim}
use mathlib.Core.Bool.{Bool, true, false, ◌&&◌, ◌||◌, false≢true}
use mathlib.Core.List.{List, [], ◌∷◌}
use native.Mathlib.Omega.{arith}
use borrow.Author.Tests.{eqb-true, le-leb, lt-ltb}
use lib.Dec.{leb, eqb}
use Rattle.laws.specs.Lists.{keep, insert, sort, distinct, elem, up_from}
use Rattle.laws.specs.Merging.{AllBelow}
use Rattle.std.specs.List.{list_any}
use Rattle.laws.proofs.Tests.{both_ways, or_swap, eqb_comm}
use Rattle.std.proofs.lemmas.Bool.{and_parts, cases_Bool, or_cases}
use Rattle.laws.proofs.Bounds.{below-add}
use Rattle.laws.proofs.Ascending.{elem-add, elem-keep, elem-up_from, asc_ext, asc_keep, asc_up_from, asc_distinct}

-- the library's test of a member
pub member : (v : ℕ) (l : List ℕ) → elem v l ≡ list_any (λ y. eqb y v) l
member v [] = refl
member v (x ∷ l) = ap₂ (λ (a b : Bool). a || b) (eqb_comm v x) (member v l)

module _ (le : ℕ → ℕ → Bool) (n : ℕ) where
  -- a member of a list with x put in its place
  elem-insert : (x : ℕ) (l : List ℕ) → elem n (insert le x l) ≡ (eqb n x || elem n l)
  elem-insert x [] = refl
  elem-insert x (y ∷ l) = go (elem-insert x l) (cases_Bool (le x y))
    where
      go : elem n (insert le x l) ≡ (eqb n x || elem n l) → (le x y ≡ true) ⊎ (le x y ≡ false) → elem n (insert le x (y ∷ l)) ≡ (eqb n x || elem n (y ∷ l))
      go ih (inl a) = rw a
      go ih (inr a) = simp (a, ih) (or_swap (eqb n y) (eqb n x) (elem n l))

  -- a sorted list has the same members
  pub elem-sort : (l : List ℕ) → elem n (sort le l) ≡ elem n l
  elem-sort [] = refl
  elem-sort (x ∷ l) = elem-insert x (sort le l) ∙ ap (λ (b : Bool). eqb n x || b) (elem-sort l)

-- and so has one with each number once
pub elem-distinct : (n : ℕ) (l : List ℕ) → elem n (distinct leb l) ≡ elem n l
elem-distinct n [] = refl
elem-distinct n (x ∷ l) = elem-add n x (distinct leb l) ∙ ap (λ (b : Bool). eqb n x || b) (elem-distinct n l)

-- a member of numbers below n is below n
pub elem_below : (n a : ℕ) (l : List ℕ) → AllBelow n l → elem a l ≡ true → a < n
elem_below n a [] b e = absurd (false≢true e)
elem_below n a (x ∷ l) b e = ⊎_elim (λ t. omega (arith, eqb-true a x t, b.0)) (elem_below n a l b.1) (or_cases (eqb a x) (elem a l) e)

-- each once they are below n too
pub below-distinct : (n : ℕ) (l : List ℕ) → AllBelow n l → AllBelow n (distinct leb l)
below-distinct n [] b = tt
below-distinct n (x ∷ l) b = below-add n x (distinct leb l) b.0 (below-distinct n l b.1)

-- the members of l, kept among all numbers below n, are l with each number once
pub kept_distinct : (n : ℕ) (l : List ℕ) → AllBelow n l → keep (λ a. elem a l) (up_from 0 n) ≡ distinct leb l
kept_distinct n l b =
    asc_ext (keep (λ a. elem a l) (up_from 0 n)) (distinct leb l) (asc_keep (λ a. elem a l) (up_from 0 n) (asc_up_from 0 n)) (asc_distinct l)
    (λ a. elem-keep a (λ a. elem a l) (up_from 0 n) ∙ both_ways (elem a l && elem a (up_from 0 n)) (elem a l) (λ e. (and_parts (elem a l) (elem a (up_from 0 n)) e).0) (back a) ∙ sym (elem-distinct a l))
  where
    back : (a : ℕ) → elem a l ≡ true → (elem a l && elem a (up_from 0 n)) ≡ true
    back a e = rw (e, elem-up_from a 0 n, le-leb 0 a (omega arith), lt-ltb a (0 + n) (omega (arith, elem_below n a l b e)))
