-- A sorted list without its repeats is the list of its distinct elements.
use mathlib.Core.Path.{◌≡◌, refl, ap, ◌∙◌}
use mathlib.Core.Logic.{◌⊎◌, inl, inr}
use mathlib.Core.Bool.{Bool, true, false}
use mathlib.Core.List.{List, [], ◌∷◌}
use Rattle.laws.specs.Lists.{insert, sort, add, distinct}
use Rattle.laws.proofs.Sorting.{Total}
use Rattle.laws.proofs.Tests.{clash}
use Rattle.std.proofs.lemmas.Bool.{cases_Bool}
use Rattle.node_sets.specs.Unique.{rises, unique}

module _ {ℓ} {A : Type ℓ} (le : A → A → Bool) (T : Total le) where
  -- x, above the y before the list, is put in its place
  rises_insert : (x y : A) (l : List A) → le x y ≡ false → rises le y (insert le x l) ≡ add le x (rises le y l)
  rises_insert x y [] a = rw a
  rises_insert x y (z ∷ l) a = go (λ b. rises_insert x z l b) (cases_Bool (le x z)) (cases_Bool (le z y)) (cases_Bool (le z x))
    where
      go : (le x z ≡ false → rises le z (insert le x l) ≡ add le x (rises le z l)) → (le x z ≡ true) ⊎ (le x z ≡ false) → (le z y ≡ true) ⊎ (le z y ≡ false)
          → (le z x ≡ true) ⊎ (le z x ≡ false) → rises le y (insert le x (z ∷ l)) ≡ add le x (rises le y (z ∷ l))
      go ih (inl b) (inl d) e = clash (T.trans x z y b d) a
      go ih (inl b) (inr d) (inl e) = simp (a, b, d, e) (ap (λ (w : A). w ∷ rises le z l) (T.anti x z b e))
      go ih (inl b) (inr d) (inr e) = simp (a, b, d, e)
      go ih (inr b) (inl d) e = simp (b, d) (ih b)
      go ih (inr b) (inr d) e = simp (b, d) (ap (λ (r : List A). z ∷ r) (ih b))

  -- x is put in its place, unless it is there
  unique_insert : (x : A) (l : List A) → unique le (insert le x l) ≡ add le x (unique le l)
  unique_insert x [] = refl
  unique_insert x (y ∷ l) = go (cases_Bool (le x y)) (cases_Bool (le y x))
    where
      go : (le x y ≡ true) ⊎ (le x y ≡ false) → (le y x ≡ true) ⊎ (le y x ≡ false) → unique le (insert le x (y ∷ l)) ≡ add le x (unique le (y ∷ l))
      go (inl a) (inl b) = simp (a, b) (ap (λ (z : A). z ∷ rises le y l) (T.anti x y a b))
      go (inl a) (inr b) = simp (a, b)
      go (inr a) b = simp a (ap (λ (r : List A). y ∷ r) (rises_insert x y l a))

  -- a list sorted, without its repeats
  pub unique_sort : (l : List A) → unique le (sort le l) ≡ distinct le l
  unique_sort [] = refl
  unique_sort (x ∷ l) = unique_insert x (sort le l) ∙ ap (add le x) (unique_sort l)
