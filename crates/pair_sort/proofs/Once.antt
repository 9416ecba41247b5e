-- Equal neighbours dropped from a sorted list leave each element once.
use Prim.Native.Nat.{suc, ◌≤◌}
use mathlib.Core.Path.{◌≡◌, refl, ap, ◌∙◌}
use mathlib.Core.Logic.{◌⊎◌, inl, inr}
use mathlib.Core.Bool.{Bool, true, false}
use mathlib.Core.List.{List, [], ◌∷◌}
use native.Mathlib.Omega.{arith}
use lib.ListN.{length}
use Rattle.laws.specs.Lists.{insert, sort, add, distinct}
use Rattle.laws.proofs.Tests.{clash}
use Rattle.std.proofs.lemmas.Bool.{cases_Bool}
use Rattle.laws.proofs.Sorting.{Total}
use Rattle.pair_sort.specs.Pairs.{equal, unlike, unrepeated}

module _ {ℓ} {A : Type ℓ} (le : A → A → Bool) where
  unlike_length : (x : A) (l : List A) → length (unlike le x l) ≤ length l
  unlike_length x [] = omega arith
  unlike_length x (y ∷ l) = go (cases_Bool (equal le x y)) (unlike_length x l) (unlike_length y l)
    where
      go : (equal le x y ≡ true) ⊎ (equal le x y ≡ false) → length (unlike le x l) ≤ length l → length (unlike le y l) ≤ length l → length (unlike le x (y ∷ l)) ≤ suc (length l)
      go (inl e) i j = rw e (omega arith)
      go (inr e) i j = rw e (omega arith)

  pub unrepeated_length : (l : List A) → length (unrepeated le l) ≤ length l
  unrepeated_length [] = omega arith
  unrepeated_length (x ∷ l) = omega (arith, unlike_length x l)

module _ {ℓ} {A : Type ℓ} (le : A → A → Bool) (T : Total le) where
  -- x in front of z, no later than it
  front : (x z : A) (l : List A) → le x z ≡ true → x ∷ unlike le x (z ∷ l) ≡ add le x (z ∷ unlike le z l)
  front x z l a = go (cases_Bool (le z x))
    where
      go : (le z x ≡ true) ⊎ (le z x ≡ false) → x ∷ unlike le x (z ∷ l) ≡ add le x (z ∷ unlike le z l)
      go (inl b) = let e : x ≡ z = T.anti x z a b in simp (a, b) (ap (λ (y : A). y ∷ unlike le y l) e)
      go (inr b) = simp (a, b)

  -- y stands before x, and x goes where it belongs behind y
  unlike_insert : (x y : A) (l : List A) → le x y ≡ false → unlike le y (insert le x l) ≡ add le x (unlike le y l)
  unlike_insert x y [] h = let k : le y x ≡ true = T.total x y h in simp (k, h)
  unlike_insert x y (z ∷ l) h = go (unlike_insert x y l h) (unlike_insert x z l) (cases_Bool (le x z)) (cases_Bool (equal le y z))
    where
      go : unlike le y (insert le x l) ≡ add le x (unlike le y l) → (le x z ≡ false → unlike le z (insert le x l) ≡ add le x (unlike le z l))
          → (le x z ≡ true) ⊎ (le x z ≡ false) → (equal le y z ≡ true) ⊎ (equal le y z ≡ false)
          → unlike le y (insert le x (z ∷ l)) ≡ add le x (unlike le y (z ∷ l))
      go i j (inl a) e =
          let k : le y x ≡ true = T.total x y h in
          let n : le z y ≡ false = apart (cases_Bool (le z y)) in
          let m : le y z ≡ true = T.total z y n in
          simp (a, k, h, m, n) (simp a at (front x z l a))
        where
          apart : (le z y ≡ true) ⊎ (le z y ≡ false) → le z y ≡ false
          apart (inl c) = clash (T.trans x z y a c) h
          apart (inr c) = c
      go i j (inr a) (inl e) = simp (a, e) i
      go i j (inr a) (inr e) = simp (a, e) (ap (λ (r : List A). z ∷ r) (j a))

  unrepeated_insert : (x : A) (l : List A) → unrepeated le (insert le x l) ≡ add le x (unrepeated le l)
  unrepeated_insert x [] = refl
  unrepeated_insert x (y ∷ l) = go (cases_Bool (le x y))
    where
      go : (le x y ≡ true) ⊎ (le x y ≡ false) → unrepeated le (insert le x (y ∷ l)) ≡ add le x (unrepeated le (y ∷ l))
      go (inl a) = simp a (simp a at (front x y l a))
      go (inr a) = simp a (ap (λ (r : List A). y ∷ r) (unlike_insert x y l a))

  -- equal neighbours dropped from the sorted list: the list with each once
  pub unrepeated_sort : (l : List A) → unrepeated le (sort le l) ≡ distinct le l
  unrepeated_sort [] = refl
  unrepeated_sort (x ∷ l) = unrepeated_insert x (sort le l) ∙ ap (add le x) (unrepeated_sort l)
