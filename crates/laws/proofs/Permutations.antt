-- Permutations of lists.
use Prim.Native.Nat.{suc}
use mathlib.Core.Path.{◌≡◌, refl, ap, ◌∙◌, subst}
use mathlib.Core.Bool.{Bool}
use mathlib.Core.List.Permᴰ
use mathlib.Core.List.{List, [], ◌∷◌, ◌++◌, map, append_assoc, Permᴰ}
use lib.ListN.{length}
use Rattle.laws.specs.Lists.{each, insert, sort}
use Rattle.laws.proofs.Sorting.{Total, insert_swap}

-- what holds of the four ways to make a permutation holds of each
pub perm_ind {ℓ κ} : {A : Type ℓ} (P : List A → List A → Type κ)
    → P [] []
    → ((x : A) (l m : List A) → Permᴰ l m → P l m → P (x ∷ l) (x ∷ m))
    → ((x y : A) (l : List A) → P (x ∷ y ∷ l) (y ∷ x ∷ l))
    → ((l m n : List A) → P l m → P m n → P l n)
    → {l m : List A} → Permᴰ l m → P l m
perm_ind P n c s t Permᴰ.nil = n
perm_ind P n c s t (Permᴰ.cons {a = a} {l₁ = l} {l₂ = m} e d) = subst (λ x. P (a ∷ l) (x ∷ m)) e (c a l m d (perm_ind P n c s t d))
perm_ind P n c s t (Permᴰ.swap {a = a} {b = b} {l = l} e f) = rw (← e, ← f) (s a b l)
perm_ind P n c s t (Permᴰ.trans {l₁ = l} {l₂ = m} {l₃ = n'} d e) = t l m n' (perm_ind P n c s t d) (perm_ind P n c s t e)

module _ {ℓ} {A : Type ℓ} where
  pub perm_eq : {l m : List A} → l ≡ m → Permᴰ l m
  perm_eq {l} e = subst (λ (r : List A). Permᴰ l r) e (Permᴰ.refl l)

  pub perm_append : {a b c d : List A} → Permᴰ a b → Permᴰ c d → Permᴰ (a ++ c) (b ++ d)
  perm_append {b = b} {c = c} p q = Permᴰ.trans (Permᴰ.append_right c p) (Permᴰ.append_left b q)

  -- two parts before a third change places
  pub perm_left_comm : (a b c : List A) → Permᴰ (a ++ (b ++ c)) (b ++ (a ++ c))
  perm_left_comm a b c = rw (← append_assoc a b c, ← append_assoc b a c) (Permᴰ.append_right c (Permᴰ.append_comm a b))

module _ {ℓ κ} {A : Type ℓ} {B : Type κ} where
  pub perm_each : (f : A → List B) {l m : List A} → Permᴰ l m → Permᴰ (each f l) (each f m)
  perm_each f =
      perm_ind (λ l m. Permᴰ (each f l) (each f m)) Permᴰ.nil
      (λ x l m d p. Permᴰ.append_left (f x) p)
      (λ x y l. perm_left_comm (f x) (f y) (each f l))
      (λ l m n p q. Permᴰ.trans p q)

  pub perm_map : (f : A → B) {l m : List A} → Permᴰ l m → Permᴰ (map f l) (map f m)
  perm_map f =
      perm_ind (λ l m. Permᴰ (map f l) (map f m)) Permᴰ.nil
      (λ x l m d p. Permᴰ.cons refl p)
      (λ x y l. Permᴰ.swap refl refl)
      (λ l m n p q. Permᴰ.trans p q)

  -- f of each pair, the first before the second
  abbrev pub pairs : (A → A → List B) → List A → List B
  pairs f [] = []
  pairs f (x ∷ xs) = each (f x) xs ++ pairs f xs

  pub perm_pairs : (f : A → A → List B) → ((x y : A) → f x y ≡ f y x) → {l m : List A} → Permᴰ l m → Permᴰ (pairs f l) (pairs f m)
  perm_pairs f s =
      perm_ind (λ l m. Permᴰ (pairs f l) (pairs f m)) Permᴰ.nil
      (λ x l m d p. perm_append (perm_each (f x) d) p)
      (λ x y l. rw (s x y, append_assoc (f y x) (each (f x) l), append_assoc (f y x) (each (f y) l))
      (Permᴰ.append_left (f y x) (perm_left_comm (each (f x) l) (each (f y) l) (pairs f l))))
      (λ l m n p q. Permᴰ.trans p q)

module _ {ℓ} {A : Type ℓ} where
  pub perm_length : {l m : List A} → Permᴰ l m → length l ≡ length m
  perm_length = perm_ind (λ l m. length l ≡ length m) refl (λ x l m d e. ap suc e) (λ x y l. refl) (λ l m n e f. e ∙ f)

-- lists that are permutations of each other are sorted alike
module _ {ℓ} {A : Type ℓ} (le : A → A → Bool) (T : Total le) where
  pub sort_perm : {l m : List A} → Permᴰ l m → sort le l ≡ sort le m
  sort_perm =
      perm_ind (λ l m. sort le l ≡ sort le m) refl (λ x l m d e. ap (insert le x) e) (λ x y l. insert_swap le T x y (sort le l))
      (λ l m n e f. e ∙ f)
