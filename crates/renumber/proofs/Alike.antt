-- Lists alike, element by element: a function of lists that looks at their elements only through tests that agree gives lists alike.
use Prim.Native.Nat.{ℕ, zero, suc, ◌<◌}
use mathlib.Core.Path.{◌≡◌, refl, ap, ap₂, subst}
use mathlib.Core.Logic.{◌⊎◌, inl, inr}
use mathlib.Core.Bool.{Bool, true, false, cond, ◌||◌}
use mathlib.Core.List.{List, [], ◌∷◌, ◌++◌, map}
use native.Mathlib.Omega.{arith}
use lib.ListN.{length, get_or, take, drop}
use Rattle.laws.specs.Lists.{only_if, any, first, last, each, walk, keep, insert, sort, add, distinct}
use Rattle.std.proofs.lemmas.Bool.{cases_Bool, or_parts}

-- as long as each other, and E of the elements at each place
pub data Alike {A B : Type 0} (E : A → B → Type 0) : List A → List B → Type 0 where
  empty : Alike E [] []
  link : {a : A} {b : B} {l : List A} {m : List B} → E a b → Alike E l m → Alike E (a ∷ l) (b ∷ m)

-- ---- functions that do not look at the elements

module _ {A B : Type 0} {E : A → B → Type 0} where
  pub append_alike : {l k : List A} {m n : List B} → Alike E l m → Alike E k n → Alike E (l ++ k) (m ++ n)
  append_alike empty h = h
  append_alike (link e g) h = link e (append_alike g h)

  pub length_alike : {l : List A} {m : List B} → Alike E l m → length l ≡ length m
  length_alike empty = refl
  length_alike (link e g) = ap suc (length_alike g)

  pub take_alike : (n : ℕ) {l : List A} {m : List B} → Alike E l m → Alike E (take n l) (take n m)
  take_alike zero g = empty
  take_alike (suc n) empty = empty
  take_alike (suc n) (link e g) = link e (take_alike n g)

  pub drop_alike : (n : ℕ) {l : List A} {m : List B} → Alike E l m → Alike E (drop n l) (drop n m)
  drop_alike zero g = g
  drop_alike (suc n) empty = empty
  drop_alike (suc n) (link e g) = drop_alike n g

  pub first_alike : {l : List A} {m : List B} → Alike E l m → Alike E (first l) (first m)
  first_alike empty = empty
  first_alike (link e g) = link e empty

  pub last_alike : {l : List A} {m : List B} → Alike E l m → Alike E (last l) (last m)
  last_alike empty = empty
  last_alike (link e empty) = link e empty
  last_alike (link e (link f g)) = last_alike (link f g)

  pub get_or_alike : {l : List A} {m : List B} → Alike E l m → (i : ℕ) (d : A) (d' : B) → i < length l → E (get_or l i d) (get_or m i d')
  get_or_alike empty i d d' h = absurd (omega arith)
  get_or_alike (link e g) zero d d' h = e
  get_or_alike (link e g) (suc i) d d' h = get_or_alike g i d d' (omega arith)

  -- under one test
  under : (b : Bool) {l : List A} {m : List B} → Alike E l m → Alike E (only_if b l) (only_if b m)
  under true g = g
  under false g = empty

  either : (b : Bool) {l k : List A} {m n : List B} → Alike E l m → Alike E k n → Alike E (cond b l k) (cond b m n)
  either true g h = g
  either false g h = h

  -- under two tests that agree
  pub only_if_alike : {b c : Bool} {l : List A} {m : List B} → b ≡ c → Alike E l m → Alike E (only_if b l) (only_if c m)
  only_if_alike {b = b} {l = l} {m = m} e g = subst (λ (t : Bool). Alike E (only_if b l) (only_if t m)) e (under b g)

  pub cond_alike : {b c : Bool} {l k : List A} {m n : List B} → b ≡ c → Alike E l m → Alike E k n → Alike E (cond b l k) (cond c m n)
  cond_alike {b = b} {l = l} {k = k} {m = m} {n = n} e g h = subst (λ (t : Bool). Alike E (cond b l k) (cond t m n)) e (either b g h)

-- ---- functions of the elements

module _ {A B C D : Type 0} {E : A → B → Type 0} {F : C → D → Type 0} where
  pub map_alike : (f : A → C) (g : B → D) → ((a : A) (b : B) → E a b → F (f a) (g b))
      → {l : List A} {m : List B} → Alike E l m → Alike F (map f l) (map g m)
  map_alike f g h empty = empty
  map_alike f g h (link {a = a} {b = b} e r) = link (h a b e) (map_alike f g h r)

  pub each_alike : (f : A → List C) (g : B → List D) → ((a : A) (b : B) → E a b → Alike F (f a) (g b))
      → {l : List A} {m : List B} → Alike E l m → Alike F (each f l) (each g m)
  each_alike f g h empty = empty
  each_alike f g h (link {a = a} {b = b} e r) = append_alike (h a b e) (each_alike f g h r)

  pub walk_alike : (f : List A → A → List A → List C) (g : List B → B → List B → List D)
      → ((p : List A) (p' : List B) (a : A) (b : B) (q : List A) (q' : List B) → Alike E p p' → E a b → Alike E q q' → Alike F (f p a q) (g p' b q'))
      → {l : List A} {m : List B} → Alike E l m → {p : List A} {p' : List B} → Alike E p p' → Alike F (walk f p l) (walk g p' m)
  walk_alike f g h empty s = empty
  walk_alike f g h (link {a = a} {b = b} {l = l} {m = m} e r) {p = p} {p' = p'} s =
      append_alike (h p p' a b l m s e r) (walk_alike f g h r (append_alike s (link e empty)))

module _ {A B : Type 0} {E : A → B → Type 0} where
  -- what functions give that agree
  pub map_same : {C : Type 0} (f : A → C) (g : B → C) → ((a : A) (b : B) → E a b → f a ≡ g b) → {l : List A} {m : List B} → Alike E l m → map f l ≡ map g m
  map_same f g h empty = refl
  map_same f g h (link {a = a} {b = b} e r) = ap₂ (λ x xs. x ∷ xs) (h a b e) (map_same f g h r)

  -- tests that agree
  pub any_alike : (p : A → Bool) (q : B → Bool) → ((a : A) (b : B) → E a b → p a ≡ q b) → {l : List A} {m : List B} → Alike E l m → any p l ≡ any q m
  any_alike p q h empty = refl
  any_alike p q h (link {a = a} {b = b} e r) = ap₂ (λ x y. x || y) (h a b e) (any_alike p q h r)

  -- what passes a test, with what is known of it then
  pub keep-into : {F : A → B → Type 0} (p : A → Bool) (q : B → Bool) → ((a : A) (b : B) → E a b → p a ≡ q b) → ((a : A) (b : B) → E a b → p a ≡ true → F a b)
      → {l : List A} {m : List B} → Alike E l m → Alike F (keep p l) (keep q m)
  keep-into {F} p q h k r =
      each_alike (λ x. only_if (p x) (x ∷ [])) (λ y. only_if (q y) (y ∷ []))
      (λ a b e. subst (λ (t : Bool). Alike F (only_if (p a) (a ∷ [])) (only_if t (b ∷ []))) (h a b e) (go a b e (cases_Bool (p a)))) r
    where
      go : (a : A) (b : B) → E a b → (p a ≡ true) ⊎ (p a ≡ false) → Alike F (only_if (p a) (a ∷ [])) (only_if (p a) (b ∷ []))
      go a b e (inl t) = rw t (link (k a b e t) empty)
      go a b e (inr t) = rw t empty

  pub keep_alike : (p : A → Bool) (q : B → Bool) → ((a : A) (b : B) → E a b → p a ≡ q b)
      → {l : List A} {m : List B} → Alike E l m → Alike E (keep p l) (keep q m)
  keep_alike p q h r = keep-into p q h (λ a b e t. e) r

  -- a test that no element passes
  pub with_none : (p : A → Bool) {l : List A} {m : List B} → any p l ≡ false → Alike E l m → Alike (λ a b. E a b × (p a ≡ false)) l m
  with_none p n empty = empty
  with_none p n (link {a = a} {l = l} e r) = let s = or_parts (p a) (any p l) n in link (e, s.0) (with_none p s.1 r)

  -- what one relation says, the other says too
  pub alike_imp : {F : A → B → Type 0} → ((a : A) (b : B) → E a b → F a b) → {l : List A} {m : List B} → Alike E l m → Alike F l m
  alike_imp h empty = empty
  alike_imp h (link {a = a} {b = b} e r) = link (h a b e) (alike_imp h r)

-- ---- sorting by orders that agree

module _ {A B : Type 0} {E : A → B → Type 0} (le : A → A → Bool) (le' : B → B → Bool) (agree : (a b : A) (x y : B) → E a x → E b y → le a b ≡ le' x y) where
  insert_alike : {a : A} {x : B} → E a x → {l : List A} {m : List B} → Alike E l m → Alike E (insert le a l) (insert le' x m)
  insert_alike e empty = link e empty
  insert_alike {a} {x} e (link {a = b} {b = y} f r) = cond_alike (agree a b x y e f) (link e (link f r)) (link f (insert_alike e r))

  pub sort_alike : {l : List A} {m : List B} → Alike E l m → Alike E (sort le l) (sort le' m)
  sort_alike empty = empty
  sort_alike (link e r) = insert_alike e (sort_alike r)

  add_alike : {a : A} {x : B} → E a x → {l : List A} {m : List B} → Alike E l m → Alike E (add le a l) (add le' x m)
  add_alike e empty = link e empty
  add_alike {a} {x} e (link {a = b} {b = y} f r) =
      cond_alike (agree a b x y e f) (cond_alike (agree b a y x f e) (link f r) (link e (link f r))) (link f (add_alike e r))

  pub distinct_alike : {l : List A} {m : List B} → Alike E l m → Alike E (distinct le l) (distinct le' m)
  distinct_alike empty = empty
  distinct_alike (link e r) = add_alike e (distinct_alike r)
