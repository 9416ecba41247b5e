-- Laws of lists that the proofs of this crate want.
use Prim.Native.Nat.{ℕ, zero, suc}
use mathlib.Core.Path.{◌≡◌, refl, sym, ap, ◌∙◌, subst}
use mathlib.Core.Logic.{◌⊎◌, inl, inr, ⊎_elim}
use mathlib.Core.Bool.{Bool, true, false, ◌||◌, false≢true, or-true, or_comm, or_assoc}
use mathlib.Core.List.{List, [], ◌∷◌, ◌++◌, map, append_assoc, Memᴰ, Permᴰ}
use native.Mathlib.Numerals.{add-one}
use lib.ListN.{length, get_or, length-append}
use Rattle.laws.specs.Lists.{only_if, any, first, last, each, walk, keep}
use Rattle.std.proofs.lemmas.Bool.{cases_Bool}
use Rattle.laws.proofs.Permutations.{perm_ind}

-- ---- lists that are not empty

module _ {ℓ} {A : Type ℓ} where
  -- l has an element
  abbrev pub occupied : List A → Bool
  occupied [] = false
  occupied (x ∷ xs) = true

  -- a joined list has an element where one of the two has
  occupied_append : (xs ys : List A) → occupied (xs ++ ys) ≡ (occupied xs || occupied ys)
  occupied_append [] ys = refl
  occupied_append (x ∷ xs) ys = refl

  -- one element under a test is there where the test passes
  pub occupied_only_if : (b : Bool) (x : A) → occupied (only_if b (x ∷ [])) ≡ b
  occupied_only_if true x = refl
  occupied_only_if false x = refl

  -- nothing under a test is nothing
  pub only_if_nil : (b : Bool) → only_if {A = A} b [] ≡ []
  only_if_nil true = refl
  only_if_nil false = refl

  -- one element more
  pub length_snoc : (l : List A) (x : A) → length (l ++ (x ∷ [])) ≡ suc (length l)
  length_snoc l x = length-append l (x ∷ []) ∙ add-one (length l)

  -- nothing is kept where no element passes
  pub keep_nothing : (p : A → Bool) (l : List A) → any p l ≡ false → keep p l ≡ []
  keep_nothing p [] e = refl
  keep_nothing p (x ∷ l) e = go (cases_Bool (p x)) (keep_nothing p l)
    where
      go : (p x ≡ true) ⊎ (p x ≡ false) → (any p l ≡ false → keep p l ≡ []) → keep p (x ∷ l) ≡ []
      go (inl a) ih = absurd (false≢true (sym e ∙ rw a))
      go (inr a) ih = rw a (ih (rw a at e))

  -- an element that passes, of a list where some does
  pub any_some : (p : A → Bool) (l : List A) → any p l ≡ true → (x : A) × Memᴰ x l × (p x ≡ true)
  any_some p [] e = absurd (false≢true e)
  any_some p (y ∷ l) e =
      ⊎_elim (λ f. (y, Memᴰ.head refl, f)) (λ f. let r = any_some p l (rw f at e) in (r.0, Memᴰ.tail r.1, r.2)) (cases_Bool (p y))

  -- some element passes where a member does
  pub some_any : (p : A → Bool) {x : A} {l : List A} → Memᴰ x l → p x ≡ true → any p l ≡ true
  some_any p (Memᴰ.head {xs = l} e) f = ap (λ (b : Bool). b || any p l) (ap p (sym e) ∙ f)
  some_any p (Memᴰ.tail {x = y} m) f = ap (λ (b : Bool). p y || b) (some_any p m f) ∙ or-true (p y)

  -- whether some element passes is the same in every order
  pub any_perm : (p : A → Bool) {l m : List A} → Permᴰ l m → any p l ≡ any p m
  any_perm p =
      perm_ind (λ l m. any p l ≡ any p m) refl (λ x l m d e. ap (λ (b : Bool). p x || b) e)
      (λ x y l. sym (or_assoc (p x) (p y) (any p l)) ∙ ap (λ (b : Bool). b || any p l) (or_comm (p x) (p y)) ∙ or_assoc (p y) (p x) (any p l))
      (λ l m n e f. e ∙ f)

module _ {ℓ κ} {A : Type ℓ} {B : Type κ} where
  -- a list of lists has an element where one of them has
  pub occupied_each : (f : A → List B) (l : List A) → occupied (each f l) ≡ any (λ x. occupied (f x)) l
  occupied_each f [] = refl
  occupied_each f (x ∷ xs) = occupied_append (f x) (each f xs) ∙ ap (λ (b : Bool). occupied (f x) || b) (occupied_each f xs)

-- ---- what holds of every element

-- P of each element
unfoldable pub Every {ℓ κ} : {A : Type ℓ} → (A → Type κ) → List A → Type (ℓ ⊔ κ)
Every P [] = Unit
Every P (x ∷ l) = P x × Every P l

module _ {ℓ κ} {A : Type ℓ} (P : A → Type κ) where
  -- of all, so of those in a list
  pub every_all : ((x : A) → P x) → (l : List A) → Every P l
  unfolding Every
  every_all h [] = tt
  every_all h (x ∷ l) = (h x, every_all h l)

  -- of both parts, so of the joined list
  pub every_append : (xs ys : List A) → Every P xs → Every P ys → Every P (xs ++ ys)
  unfolding Every
  every_append [] ys h k = k
  every_append (x ∷ xs) ys h k = (h.0, every_append xs ys h.1 k)

  -- of a list, so of it under a test
  pub every_only_if : (b : Bool) (l : List A) → Every P l → Every P (only_if b l)
  unfolding Every
  every_only_if true l h = h
  every_only_if false l h = tt

  -- of each step, so of the walk
  pub every_walk {μ} : {B : Type μ} (f : List B → B → List B → List A) → ((a : List B) (x : B) (b : List B) → Every P (f a x b)) → (pre l : List B) → Every P (walk f pre l)
  unfolding Every
  every_walk f h pre [] = tt
  every_walk f h pre (x ∷ l) = every_append (f pre x l) (walk f (pre ++ (x ∷ [])) l) (h pre x l) (every_walk f h (pre ++ (x ∷ [])) l)

  -- of each step, told that what is before, the element and what is after make the whole
  pub every_walk_in {μ} : {B : Type μ} (f : List B → B → List B → List A) (whole : List B)
      → ((a : List B) (x : B) (b : List B) → a ++ (x ∷ b) ≡ whole → Every P (f a x b)) → (pre l : List B) → pre ++ l ≡ whole → Every P (walk f pre l)
  unfolding Every
  every_walk_in f whole h pre [] e = tt
  every_walk_in f whole h pre (x ∷ l) e =
      every_append (f pre x l) (walk f (pre ++ (x ∷ [])) l) (h pre x l e) (every_walk_in f whole h (pre ++ (x ∷ [])) l (append_assoc pre (x ∷ []) l ∙ e))

  -- of every image, so of the images
  pub every_map {μ} : {B : Type μ} (f : B → A) → ((x : B) → P (f x)) → (l : List B) → Every P (map f l)
  unfolding Every
  every_map f h [] = tt
  every_map f h (x ∷ l) = (h x, every_map f h l)

  -- so of a member
  pub every_mem : {x : A} {l : List A} → Memᴰ x l → Every P l → P x
  unfolding Every
  every_mem (Memᴰ.head e) h = subst P (sym e) h.0
  every_mem (Memᴰ.tail m) h = every_mem m h.1

  -- of the joined list, so of both parts
  pub every_parts : (xs ys : List A) → Every P (xs ++ ys) → Every P xs × Every P ys
  unfolding Every
  every_parts [] ys h = (tt, h)
  every_parts (x ∷ xs) ys h = let r = every_parts xs ys h.1 in ((h.0, r.0), r.1)

  -- of every element that has a place in the whole
  pub every_split : (whole : List A) → ((a : List A) (x : A) (b : List A) → a ++ (x ∷ b) ≡ whole → P x) → (pre l : List A) → pre ++ l ≡ whole → Every P l
  unfolding Every
  every_split whole h pre [] e = tt
  every_split whole h pre (x ∷ l) e = (h pre x l e, every_split whole h (pre ++ (x ∷ [])) l (append_assoc pre (x ∷ []) l ∙ e))

  -- of those kept
  pub every_keep : (p : A → Bool) (l : List A) → Every P l → Every P (keep p l)
  unfolding Every
  every_keep p [] h = tt
  every_keep p (x ∷ l) h = every_append (only_if (p x) (x ∷ [])) (keep p l) (every_only_if (p x) (x ∷ []) (h.0, tt)) (every_keep p l h.1)

  -- of the element at a place, and of the default
  pub every_get_or : (l : List A) (i : ℕ) (d : A) → P d → Every P l → P (get_or l i d)
  unfolding Every
  every_get_or [] i d u h = u
  every_get_or (x ∷ l) zero d u h = h.0
  every_get_or (x ∷ l) (suc i) d u h = every_get_or l i d u h.1

  -- of the first
  pub every_first : (l : List A) → Every P l → Every P (first l)
  unfolding Every
  every_first [] h = tt
  every_first (x ∷ l) h = (h.0, tt)

  -- of the last
  pub every_last : (l : List A) → Every P l → Every P (last l)
  unfolding Every
  every_last [] h = tt
  every_last (x ∷ []) h = h
  every_last (x ∷ y ∷ l) h = every_last (y ∷ l) h.1

module _ {ℓ κ μ} {A : Type ℓ} {B : Type μ} (P : A → Type κ) where
  -- of each list, and of the lists one after the other
  pub every_each_parts : (f : B → List A) (l : List B) → Every P (each f l) → Every (λ x. Every P (f x)) l
  unfolding Every
  every_each_parts f [] h = tt
  every_each_parts f (x ∷ l) h = let r = every_parts P (f x) (each f l) h in (r.0, every_each_parts f l r.1)

  -- of the elements, where it holds of their images
  pub every_map_parts : (f : B → A) (l : List B) → Every P (map f l) → Every (λ x. P (f x)) l
  unfolding Every
  every_map_parts f [] h = tt
  every_map_parts f (x ∷ l) h = (h.0, every_map_parts f l h.1)

-- what Q says of every element, P says too
pub every_imp {ℓ κ ν} : {A : Type ℓ} (Q : A → Type ν) (P : A → Type κ) → ((x : A) → Q x → P x) → (l : List A) → Every Q l → Every P l
unfolding Every
every_imp Q P h [] w = tt
every_imp Q P h (x ∷ l) w = (h x w.0, every_imp Q P h l w.1)

module _ {ℓ κ μ ν} {A : Type ℓ} {B : Type μ} (Q : B → Type ν) (P : A → Type κ) where
  -- of the image of each that has Q
  pub every_map_in : (f : B → A) → ((x : B) → Q x → P (f x)) → (l : List B) → Every Q l → Every P (map f l)
  unfolding Every
  every_map_in f h [] w = tt
  every_map_in f h (x ∷ l) w = (h x w.0, every_map_in f h l w.1)

  -- of each step from an element that has Q
  pub every_walk_each : (f : List B → B → List B → List A) → ((a : List B) (x : B) (b : List B) → Q x → Every P (f a x b)) → (pre l : List B) → Every Q l → Every P (walk f pre l)
  unfolding Every
  every_walk_each f h pre [] w = tt
  every_walk_each f h pre (x ∷ l) w = every_append P (f pre x l) (walk f (pre ++ (x ∷ [])) l) (h pre x l w.0) (every_walk_each f h (pre ++ (x ∷ [])) l w.1)

  -- of each list from an element that has Q
  pub every_each : (f : B → List A) → ((x : B) → Q x → Every P (f x)) → (l : List B) → Every Q l → Every P (each f l)
  unfolding Every
  every_each f h [] w = tt
  every_each f h (x ∷ l) w = every_append P (f x) (each f l) (h x w.0) (every_each f h l w.1)
