-- Laws of the lists and tests of specs/Lists.antt.
use Prim.Native.Nat.{ℕ, zero, suc, ◌+◌, ◌≤◌, ◌<◌}
use mathlib.Core.Path.{◌≡◌, refl, sym, ap, ap₂, ◌∙◌, fun_ext}
use mathlib.Core.Logic.{◌⊎◌, inl, inr}
use mathlib.Core.Bool.{Bool, true, false, ◌&&◌, ◌||◌, or_assoc, or-false, false≢true}
use mathlib.Core.List.{List, [], ◌∷◌, ◌++◌, map, append_assoc, append-nil, map-append}
use native.Mathlib.Nat.{add-zero, zero-add, add-suc, suc-add}
use native.Mathlib.Numerals.{add-one}
use native.Mathlib.Omega.{arith}
use lib.Dec.{eqb}
use lib.ListN.{length, get_or, drop, drop_of_length-le}
use lib.Seq.{drop-cons}
use Rattle.laws.specs.Lists.{only_if, any, each, walk, keep, eql, up_from}
use Rattle.laws.proofs.Tests.{clash, or_four, eqb_self, eqb_comm}
use Rattle.std.proofs.lemmas.Bool.{and_parts, cases_Bool}
use borrow.Author.Tests.{eqb-true}

module _ {ℓ κ} {A : Type ℓ} {B : Type κ} where
  pub each_append : (f : A → List B) (xs ys : List A) → each f (xs ++ ys) ≡ each f xs ++ each f ys
  each_append f [] ys = refl
  each_append f (x ∷ xs) ys = rw (each_append f xs ys) (sym (append_assoc (f x) (each f xs) (each f ys)))

  pub each_ext : {f g : A → List B} → ((x : A) → f x ≡ g x) → (l : List A) → each f l ≡ each g l
  each_ext {f} {g} h l = ap (λ (k : A → List B). each k l) (fun_ext h)

  pub walk-each : (f : A → List B) (pre l : List A) → walk (λ p x q. f x) pre l ≡ each f l
  walk-each f pre [] = refl
  walk-each f pre (x ∷ xs) = ap (λ (r : List B). f x ++ r) (walk-each f (pre ++ (x ∷ [])) xs)

  pub walk_append : (h : List A → A → List A → List B) (pre xs ys : List A)
      → walk h pre (xs ++ ys) ≡ walk (λ p x q. h p x (q ++ ys)) pre xs ++ walk h (pre ++ xs) ys
  walk_append h pre [] ys = ap (λ (p : List A). walk h p ys) (sym (append-nil pre))
  walk_append h pre (x ∷ xs) ys =
      rw (walk_append h (pre ++ (x ∷ [])) xs ys, append_assoc pre (x ∷ []) xs)
      (sym (append_assoc (h pre x (xs ++ ys)) _ _))

module _ {ℓ κ μ} {A : Type ℓ} {B : Type κ} {C : Type μ} where
  pub each_map : (f : B → List C) (g : A → B) (l : List A) → each f (map g l) ≡ each (λ x. f (g x)) l
  each_map f g [] = refl
  each_map f g (x ∷ xs) = ap (λ (r : List C). f (g x) ++ r) (each_map f g xs)

  pub map_each : (g : B → C) (f : A → List B) (l : List A) → map g (each f l) ≡ each (λ x. map g (f x)) l
  map_each g f [] = refl
  map_each g f (x ∷ xs) = map-append g (f x) (each f xs) ∙ ap (λ (r : List C). map g (f x) ++ r) (map_each g f xs)

module _ {ℓ κ} {A : Type ℓ} {B : Type κ} where
  pub map-only_if : (g : A → B) (b : Bool) (l : List A) → map g (only_if b l) ≡ only_if b (map g l)
  map-only_if g true l = refl
  map-only_if g false l = refl

  pub any-map : (p : B → Bool) (g : A → B) (l : List A) → any p (map g l) ≡ any (λ x. p (g x)) l
  any-map p g [] = refl
  any-map p g (x ∷ xs) = ap (λ (b : Bool). p (g x) || b) (any-map p g xs)

module _ {ℓ} {A : Type ℓ} where
  pub any_append : (p : A → Bool) (xs ys : List A) → any p (xs ++ ys) ≡ (any p xs || any p ys)
  any_append p [] ys = refl
  any_append p (x ∷ xs) ys = ap (λ (b : Bool). p x || b) (any_append p xs ys) ∙ sym (or_assoc (p x) (any p xs) (any p ys))

  pub only_if_and : (b c : Bool) (l : List A) → only_if b (only_if c l) ≡ only_if (b && c) l
  only_if_and true c l = refl
  only_if_and false c l = refl

  pub any_ext : {p q : A → Bool} → ((x : A) → p x ≡ q x) → (l : List A) → any p l ≡ any q l
  any_ext h l = ap (λ (k : A → Bool). any k l) (fun_ext h)

  -- a test of what is left, one element at a time
  pub any-drop : (p : A → Bool) (l : List A) (i : ℕ) (d : A) → i < length l → any p (drop i l) ≡ (p (get_or l i d) || any p (drop (i + 1) l))
  any-drop p l i d h = rw (drop-cons l i d h, add-one i)

  -- a turn of a loop that tests every element, with no early exit
  pub any_more : (p : A → Bool) (l : List A) (i : ℕ) (d : A) (off r : Bool) → i < length l → r ≡ p (get_or l i d) → (off || r || any p (drop (i + 1) l)) ≡ (off || any p (drop i l))
  any_more p l i d off r h e =
      or_assoc off r (any p (drop (i + 1) l))
      ∙ ap (λ (b : Bool). off || b) (ap (λ (b : Bool). b || any p (drop (i + 1) l)) e ∙ sym (any-drop p l i d h))

  -- its end
  pub any-done : (p : A → Bool) (l : List A) (i : ℕ) (off : Bool) → length l ≤ i → (off || any p (drop i l)) ≡ off
  any-done p l i off h = ap (λ (r : List A). off || any p r) (drop_of_length-le l h) ∙ or-false off

  any_none : (l : List A) → any (λ x. false) l ≡ false
  any_none [] = refl
  any_none (x ∷ l) = any_none l

  any_or : (p q : A → Bool) (l : List A) → any (λ x. p x || q x) l ≡ (any p l || any q l)
  any_or p q [] = refl
  any_or p q (x ∷ l) = rw (any_or p q l) (or_four (p x) (q x) (any p l) (any q l))

module _ {ℓ κ} {A : Type ℓ} {B : Type κ} where
  pub any_swap : (p : A → B → Bool) (xs : List A) (ys : List B) → any (λ x. any (λ y. p x y) ys) xs ≡ any (λ y. any (λ x. p x y) xs) ys
  any_swap p [] ys = sym (any_none ys)
  any_swap p (x ∷ xs) ys = rw (any_swap p xs ys) (sym (any_or (p x) (λ y. any (λ x. p x y) xs) ys))

module _ {ℓ κ} {A : Type ℓ} {B : Type κ} where
  pub keep-map : (p : B → Bool) (g : A → B) (l : List A) → keep p (map g l) ≡ map g (keep (λ x. p (g x)) l)
  keep-map p g l =
      each_map (λ y. only_if (p y) (y ∷ [])) g l ∙ each_ext (λ x. sym (map-only_if g (p (g x)) (x ∷ []))) l
      ∙ sym (map_each g (λ x. only_if (p (g x)) (x ∷ [])) l)

module _ {ℓ κ μ ν} {A : Type ℓ} {B : Type κ} {C : Type μ} {D : Type ν} where
  -- a walk under other names, and its findings read another way
  pub walk-map : (F : B → D) (G : A → C) (h : List A → A → List A → List B) (k : List C → C → List C → List D)
      → ((p : List A) (x : A) (q : List A) → map F (h p x q) ≡ k (map G p) (G x) (map G q))
      → (pre l : List A) → map F (walk h pre l) ≡ walk k (map G pre) (map G l)
  walk-map F G h k e pre [] = refl
  walk-map F G h k e pre (x ∷ xs) =
      map-append F (h pre x xs) (walk h (pre ++ (x ∷ [])) xs)
      ∙ ap₂ (λ (a b : List D). a ++ b) (e pre x xs)
      (walk-map F G h k e (pre ++ (x ∷ [])) xs ∙ ap (λ (p : List C). walk k p (map G xs)) (map-append G pre (x ∷ [])))

module _ {ℓ} {A : Type ℓ} where
  pub keep_append : (p : A → Bool) (xs ys : List A) → keep p (xs ++ ys) ≡ keep p xs ++ keep p ys
  keep_append p xs ys = each_append (λ x. only_if (p x) (x ∷ [])) xs ys

  pub keep_le : (p q : A → Bool) → ((x : A) → p x ≡ true → q x ≡ true) → (l : List A) → length (keep p l) ≤ length (keep q l)
  keep_le p q h [] = omega arith
  keep_le p q h (x ∷ l) = go (keep_le p q h l) (cases_Bool (p x)) (cases_Bool (q x))
    where
      go : length (keep p l) ≤ length (keep q l) → (p x ≡ true) ⊎ (p x ≡ false) → (q x ≡ true) ⊎ (q x ≡ false) → length (keep p (x ∷ l)) ≤ length (keep q (x ∷ l))
      go ih (inl a) (inl b) = rw (a, b) (omega arith)
      go ih (inl a) (inr b) = clash (h x a) b
      go ih (inr a) (inl b) = rw (a, b) (omega arith)
      go ih (inr a) (inr b) = rw (a, b) ih

  pub keep-length : (p : A → Bool) (l : List A) → length (keep p l) ≤ length l
  keep-length p [] = omega arith
  keep-length p (x ∷ l) = go (keep-length p l) (cases_Bool (p x))
    where
      go : length (keep p l) ≤ length l → (p x ≡ true) ⊎ (p x ≡ false) → length (keep p (x ∷ l)) ≤ suc (length l)
      go ih (inl a) = rw a (omega arith)
      go ih (inr a) = rw a (omega arith)

  pub get_or_any : (l : List A) (k : ℕ) (d e : A) → k < length l → get_or l k d ≡ get_or l k e
  get_or_any [] k d e h = absurd (omega arith)
  get_or_any (x ∷ l) zero d e h = refl
  get_or_any (x ∷ l) (suc k) d e h = get_or_any l k d e (omega arith)

-- ---- the numbers from i on

pub length-up_from : (i n : ℕ) → length (up_from i n) ≡ n
length-up_from i zero = refl
length-up_from i (suc n) = ap suc (length-up_from (suc i) n)

pub up_from_snoc : (i n : ℕ) → up_from i (suc n) ≡ up_from i n ++ ((i + n) ∷ [])
up_from_snoc i zero = ap (λ (k : ℕ). k ∷ []) (sym (add-zero i))
up_from_snoc i (suc n) = ap (λ (l : List ℕ). i ∷ l) (up_from_snoc (suc i) n ∙ ap (λ (k : ℕ). up_from (suc i) n ++ (k ∷ [])) (suc-add i n ∙ sym (add-suc i n)))

pub up_from_append : (i m n : ℕ) → up_from i (m + n) ≡ up_from i m ++ up_from (i + m) n
up_from_append i zero n = ap₂ (λ (a b : ℕ). up_from a b) (sym (add-zero i)) (zero-add n)
up_from_append i (suc m) n =
    let f : suc i + m ≡ i + suc m = omega arith in
    ap (up_from i) (suc-add m n) ∙ ap (λ (r : List ℕ). i ∷ r) (up_from_append (suc i) m n ∙ ap (λ (k : ℕ). up_from (suc i) m ++ up_from k n) f)

pub get_or-up_from : (i n k d : ℕ) → k < n → get_or (up_from i n) k d ≡ i + k
get_or-up_from i zero k d h = absurd (omega arith)
get_or-up_from i (suc n) zero d h = sym (add-zero i)
get_or-up_from i (suc n) (suc k) d h = get_or-up_from (suc i) n k d (omega arith) ∙ suc-add i k ∙ sym (add-suc i k)

-- the k-th of f's values from i on
pub get_or-map-up_from : {A : Type 0} (f : ℕ → A) (i n k : ℕ) (d : A) → k < n → get_or (map f (up_from i n)) k d ≡ f (i + k)
get_or-map-up_from f i zero k d h = absurd (omega (arith, h))
get_or-map-up_from f i (suc n) zero d h = ap f (sym (add-zero i))
get_or-map-up_from f i (suc n) (suc k) d h = get_or-map-up_from f (suc i) n k d (omega (arith, h)) ∙ ap f (suc-add i k ∙ sym (add-suc i k))

module _ {ℓ} {B : Type ℓ} where
  -- two functions that agree on these numbers give the same lists
  pub each_agree : (f g : ℕ → List B) (i n : ℕ) → ((k : ℕ) → i ≤ k → k < i + n → f k ≡ g k) → each f (up_from i n) ≡ each g (up_from i n)
  each_agree f g i zero h = refl
  each_agree f g i (suc n) h = ap₂ (λ (a b : List B). a ++ b) (h i (omega arith) (omega arith)) (each_agree f g (suc i) n (λ k a b. h k (omega arith) (omega arith)))

-- ---- equal lists

pub eql_true : (a b : List ℕ) → eql a b ≡ true → a ≡ b
eql_true [] [] e = refl
eql_true [] (y ∷ ys) e = absurd (false≢true e)
eql_true (x ∷ xs) [] e = absurd (false≢true e)
eql_true (x ∷ xs) (y ∷ ys) e =
    let p = and_parts (eqb x y) (eql xs ys) e in
    ap₂ (λ (z : ℕ) (zs : List ℕ). z ∷ zs) (eqb-true x y p.0) (eql_true xs ys p.1)

pub eql_self : (a : List ℕ) → eql a a ≡ true
eql_self [] = refl
eql_self (x ∷ xs) = rw (eqb_self x) (eql_self xs)

pub eql_comm : (a b : List ℕ) → eql a b ≡ eql b a
eql_comm [] [] = refl
eql_comm [] (y ∷ ys) = refl
eql_comm (x ∷ xs) [] = refl
eql_comm (x ∷ xs) (y ∷ ys) = ap₂ (λ (p q : Bool). p && q) (eqb_comm x y) (eql_comm xs ys)
