-- What holds of each element of a list.
use Prim.Native.Nat.{ℕ, zero, suc}
use mathlib.Core.List.{List, [], ◌∷◌, ◌++◌}
use lib.ListN.{get_or, take, drop}
use Rattle.laws.specs.Lists.{All}

-- of all, by its place, of parts and wholes
module _ {A : Type 0} (P : A → Type 0) where
  pub all_of : ((x : A) → P x) → (xs : List A) → All P xs
  all_of h [] = tt
  all_of h (x ∷ xs) = (h x, all_of h xs)

  pub all_known : (d : A) (l : List A) → ((i : ℕ) → P (get_or l i d)) → All P l
  all_known d [] h = tt
  all_known d (x ∷ l) h = (h 0, all_known d l (λ i. h (suc i)))

  pub all_append : (xs ys : List A) → All P xs → All P ys → All P (xs ++ ys)
  all_append [] ys h k = k
  all_append (x ∷ xs) ys h k = (h.0, all_append xs ys h.1 k)

  pub all_left : (xs ys : List A) → All P (xs ++ ys) → All P xs
  all_left [] ys h = tt
  all_left (x ∷ xs) ys h = (h.0, all_left xs ys h.1)

  pub all_right : (xs ys : List A) → All P (xs ++ ys) → All P ys
  all_right [] ys h = h
  all_right (x ∷ xs) ys h = all_right xs ys h.1

  pub all_take : (n : ℕ) (l : List A) → All P l → All P (take n l)
  all_take zero l h = tt
  all_take (suc n) [] h = tt
  all_take (suc n) (x ∷ l) h = (h.0, all_take n l h.1)

  pub all_drop : (n : ℕ) (l : List A) → All P l → All P (drop n l)
  all_drop zero l h = h
  all_drop (suc n) [] h = tt
  all_drop (suc n) (x ∷ l) h = all_drop n l h.1
