-- A list read by the places of its elements: part by part, and walked.
use Prim.Native.Nat.{ℕ, zero, suc, ◌+◌, ◌-◌, ◌≤◌, ◌<◌}
use mathlib.Core.Path.{◌≡◌, refl, sym, ap₂, ◌∙◌}
use mathlib.Core.List.{List, [], ◌∷◌, ◌++◌, map, append_assoc, append-nil}
use native.Mathlib.Omega.{arith}
use lib.ListN.{length, get_or, take, drop, length-drop, take-append-drop}
use lib.Seq.{length-take-le, take-append_seam, drop-append-add, get_or-append_seam}
use Rattle.laws.specs.Lists.{each, walk, up_from}
use Rattle.laws.proofs.ListLaws.{walk-each}
use Rattle.findings.proofs.Laws.{length_snoc}

-- ---- the numbers from i on

module _ {ℓ} {B : Type ℓ} where
  -- two functions that agree on these numbers give the same elements
  pub map_agree : (f g : ℕ → B) (i n : ℕ) → ((k : ℕ) → i ≤ k → k < i + n → f k ≡ g k) → map f (up_from i n) ≡ map g (up_from i n)
  map_agree f g i zero h = refl
  map_agree f g i (suc n) h = ap₂ (λ (a : B) (b : List B). a ∷ b) (h i (omega arith) (omega arith)) (map_agree f g (suc i) n (λ k a b. h k (omega arith) (omega arith)))

-- ---- the part b of a list that has a before it and z after

module _ {ℓ} {A : Type ℓ} where
  -- the part, element by element, from the places of its elements in the whole
  pub map_part : (a b z : List A) (d : A) → map (λ g. get_or (a ++ (b ++ z)) g d) (up_from (length a) (length b)) ≡ b
  map_part a [] z d = refl
  map_part a (x ∷ b) z d =
      ap₂ (λ (y : A) (ys : List A). y ∷ ys) (get_or-append_seam a x (b ++ z) d) (rw (append_assoc a (x ∷ []) (b ++ z), length_snoc a x) at (map_part (a ++ (x ∷ [])) b z d))

module _ {ℓ κ} {A : Type ℓ} {B : Type κ} where
  -- a walk through the part is one over the places of its elements in the whole
  pub walk_part : (h : List A → A → List A → List B) (a b z : List A) (d : A)
      → walk (λ p x q. h p x (q ++ z)) a b ≡ each (λ g. h (take g (a ++ (b ++ z))) (get_or (a ++ (b ++ z)) g d) (drop (g + 1) (a ++ (b ++ z)))) (up_from (length a) (length b))
  walk_part h a [] z d = refl
  walk_part h a (x ∷ b) z d =
      let W = a ++ (x ∷ (b ++ z)) in
      let here : h a x (b ++ z) ≡ h (take (length a) W) (get_or W (length a) d) (drop (length a + 1) W) =
      rw (take-append_seam a (x ∷ (b ++ z)), get_or-append_seam a x (b ++ z) d, drop-append-add a (x ∷ (b ++ z)) 1) in
      ap₂ (λ (r s : List B). r ++ s) here (rw (append_assoc a (x ∷ []) (b ++ z), length_snoc a x) at (walk_part h (a ++ (x ∷ [])) b z d))

  -- a walk through a whole list is one over the places of its elements
  pub walk_places : (h : List A → A → List A → List B) (l : List A) (d : A) → walk h [] l ≡ each (λ g. h (take g l) (get_or l g d) (drop (g + 1) l)) (up_from 0 (length l))
  walk_places h l d =
      let ends : walk h [] l ≡ walk (λ p x q. h p x (q ++ [])) [] l = simp append-nil in
      ends ∙ (rw (append-nil l) at (walk_part h [] l [] d))

  -- what is left of a list from place k on, by the places of its elements
  pub each-drop : (f : A → List B) (l : List A) (k : ℕ) (d : A) → k ≤ length l → each f (drop k l) ≡ each (λ g. f (get_or l g d)) (up_from k (length l - k))
  each-drop f l k d h =
      sym (walk-each f (take k l) (drop k l))
      ∙ (rw (append-nil (drop k l), take-append-drop k l, length-take-le k l h, length-drop k l) at (walk_part (λ p x q. f x) (take k l) (drop k l) [] d))
