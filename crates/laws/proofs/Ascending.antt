-- Strictly ascending lists of numbers: such a list is settled by its members.
use Prim.Native.Nat.{ℕ, zero, suc, ◌+◌, ◌≤◌, ◌<◌}
use mathlib.Core.Path.{◌≡◌, refl, sym, ap, ap₂, ◌∙◌, subst}
use mathlib.Core.Logic.{◌⊎◌, inl, inr, ⊎_elim, ◌≢◌}
use mathlib.Core.Bool.{Bool, true, false, ◌&&◌, ◌||◌, or_self_left, and-false, false≢true}
use mathlib.Core.List.{List, [], ◌∷◌, ◌++◌, append-nil}
use native.Mathlib.Nat.{le_antisymm}
use native.Mathlib.Omega.{arith}
use borrow.Author.Tests.{ltb-true, leb-true, leb-false, eqb-true, eqb-false, lt-ltb, le-leb, lt-leb}
use lib.Dec.{leb, ltb, eqb}
use lib.ListN.{length, get_or}
use Rattle.laws.specs.Lists.{only_if, keep, add, distinct, elem, up_from}
use Rattle.laws.specs.Merging.{Asc, Above}
use Rattle.laws.proofs.Tests.{both_ways, or_swap, eqb_self}
use Rattle.std.proofs.lemmas.Bool.{and_parts, cases_Bool, cases_lt, or_cases}
use Rattle.laws.proofs.ListLaws.{keep_append, up_from_snoc}

pub elem-add : (n x : ℕ) (l : List ℕ) → elem n (add leb x l) ≡ (eqb n x || elem n l)
elem-add n x [] = refl
elem-add n x (y ∷ ys) = go (elem-add n x ys) (cases_Bool (leb x y)) (cases_Bool (leb y x))
  where
    go : elem n (add leb x ys) ≡ (eqb n x || elem n ys) → (leb x y ≡ true) ⊎ (leb x y ≡ false) → (leb y x ≡ true) ⊎ (leb y x ≡ false)
        → elem n (add leb x (y ∷ ys)) ≡ (eqb n x || elem n (y ∷ ys))
    go ih (inl a) (inl b) = let e : x ≡ y = le_antisymm (leb-true x y a) (leb-true y x b) in simp (a, b) (rw e (sym (or_self_left (eqb n y) (elem n ys))))
    go ih (inl a) (inr b) = simp (a, b)
    go ih (inr a) b = simp (a, ih) (or_swap (eqb n y) (eqb n x) (elem n ys))

pub asc_add : (x : ℕ) (l : List ℕ) → Asc l → Asc (add leb x l)
asc_add x [] h = (λ n e. absurd (false≢true e), tt)
asc_add x (y ∷ ys) h = go (asc_add x ys h.1) (cases_Bool (leb x y)) (cases_Bool (leb y x))
  where
    go : Asc (add leb x ys) → (leb x y ≡ true) ⊎ (leb x y ≡ false) → (leb y x ≡ true) ⊎ (leb y x ≡ false) → Asc (add leb x (y ∷ ys))
    go ih (inl a) (inl b) = simp (a, b) h
    go ih (inl a) (inr b) = simp (a, b) (λ n e. ⊎_elim (λ f. omega (arith, leb-true x y a, leb-false y x b, eqb-true n y f)) (λ f. omega (arith, leb-true x y a, h.0 n f)) (or_cases (eqb n y) (elem n ys) e), h)
    go ih (inr a) b = simp a (λ n e. ⊎_elim (λ f. omega (arith, leb-false x y a, eqb-true n x f)) (λ f. h.0 n f) (or_cases (eqb n x) (elem n ys) (sym (elem-add n x ys) ∙ e)), ih)

pub asc_distinct : (l : List ℕ) → Asc (distinct leb l)
asc_distinct [] = tt
asc_distinct (x ∷ l) = asc_add x (distinct leb l) (asc_distinct l)

pub elem-keep : (n : ℕ) (p : ℕ → Bool) (l : List ℕ) → elem n (keep p l) ≡ (p n && elem n l)
elem-keep n p [] = sym (and-false (p n))
elem-keep n p (x ∷ xs) = go (elem-keep n p xs) (cases_Bool (p x)) (cases_Bool (eqb n x))
  where
    go : elem n (keep p xs) ≡ (p n && elem n xs) → (p x ≡ true) ⊎ (p x ≡ false) → (eqb n x ≡ true) ⊎ (eqb n x ≡ false)
        → elem n (keep p (x ∷ xs)) ≡ (p n && elem n (x ∷ xs))
    go ih (inl a) (inl b) = let c : p n ≡ true = ap p (eqb-true n x b) ∙ a in simp (a, b, c)
    go ih (inl a) (inr b) = simp (a, b, ih)
    go ih (inr a) (inl b) = let c : p n ≡ false = ap p (eqb-true n x b) ∙ a in simp (a, c, ih)
    go ih (inr a) (inr b) = simp (a, b, ih)

pub asc_keep : (p : ℕ → Bool) (l : List ℕ) → Asc l → Asc (keep p l)
asc_keep p [] h = tt
asc_keep p (x ∷ xs) h = go (asc_keep p xs h.1) (cases_Bool (p x))
  where
    go : Asc (keep p xs) → (p x ≡ true) ⊎ (p x ≡ false) → Asc (keep p (x ∷ xs))
    go ih (inl a) = rw a (λ n e. h.0 n (and_parts (p n) (elem n xs) (sym (elem-keep n p xs) ∙ e)).1, ih)
    go ih (inr a) = rw a ih

pub head_in : (x : ℕ) (l : List ℕ) → elem x (x ∷ l) ≡ true
head_in x l = rw (eqb_self x)

-- and so are the members of the rest
pub later_in : (x : ℕ) (l : List ℕ) (y : ℕ) → elem y l ≡ true → elem y (x ∷ l) ≡ true
later_in x l y e = go (eqb y x)
  where
    go : (b : Bool) → (b || elem y l) ≡ true
    go true = refl
    go false = e

pub above_out : (x : ℕ) (l : List ℕ) → Above x l → elem x l ≡ false
above_out x l h = ⊎_elim (λ e. absurd (omega (arith, h x e))) (λ e. e) (cases_Bool (elem x l))

pub asc_ext : (a b : List ℕ) → Asc a → Asc b → ((n : ℕ) → elem n a ≡ elem n b) → a ≡ b
asc_ext [] [] h k e = refl
asc_ext [] (y ∷ ys) h k e = absurd (false≢true (e y ∙ head_in y ys))
asc_ext (x ∷ xs) [] h k e = absurd (false≢true (sym (e x) ∙ head_in x xs))
asc_ext (x ∷ xs) (y ∷ ys) h k e = ap₂ (λ (z : ℕ) (zs : List ℕ). z ∷ zs) same (asc_ext xs ys h.1 k.1 tails)
  where
    x_in : (x ≡ y) ⊎ (elem x ys ≡ true)
    x_in = ⊎_elim (λ f. inl (eqb-true x y f)) (λ f. inr f) (or_cases (eqb x y) (elem x ys) (sym (e x) ∙ head_in x xs))

    y_in : (y ≡ x) ⊎ (elem y xs ≡ true)
    y_in = ⊎_elim (λ f. inl (eqb-true y x f)) (λ f. inr f) (or_cases (eqb y x) (elem y xs) (e y ∙ head_in y ys))

    same : x ≡ y
    same = ⊎_elim (λ p. p) (λ p. ⊎_elim (λ q. sym q) (λ q. absurd (omega (arith, k.0 x p, h.0 y q))) y_in) x_in

    tails : (n : ℕ) → elem n xs ≡ elem n ys
    tails n = go (cases_Bool (eqb n x))
      where
        go : (eqb n x ≡ true) ⊎ (eqb n x ≡ false) → elem n xs ≡ elem n ys
        go (inl a) =
            let i : n ≡ x = eqb-true n x a in
            ap (λ m. elem m xs) i ∙ above_out x xs h.0 ∙ sym (above_out y ys k.0) ∙ ap (λ m. elem m ys) (sym (i ∙ same))
        go (inr a) = let f : eqb n y ≡ false = ap (λ m. eqb n m) (sym same) ∙ a in simp (a, f) at (e n)

-- two tests that agree on the members
pub keep_cong : (p q : ℕ → Bool) (l : List ℕ) → ((x : ℕ) → elem x l ≡ true → p x ≡ q x) → keep p l ≡ keep q l
keep_cong p q [] h = refl
keep_cong p q (x ∷ l) h =
    ap₂ (λ (b : Bool) (r : List ℕ). only_if b (x ∷ []) ++ r) (h x (head_in x l)) (keep_cong p q l (λ y e. h y (later_in x l y e)))

pub keep_none : (p : ℕ → Bool) (l : List ℕ) → ((x : ℕ) → elem x l ≡ true → p x ≡ false) → keep p l ≡ []
keep_none p l h = keep_cong p (λ x. false) l h ∙ none l
  where
    none : (l : List ℕ) → keep (λ x. false) l ≡ []
    none [] = refl
    none (x ∷ l) = none l

pub elem-up_from : (x i n : ℕ) → elem x (up_from i n) ≡ (leb i x && ltb x (i + n))
elem-up_from x i n = both_ways (elem x (up_from i n)) (leb i x && ltb x (i + n)) (to i n) (λ e. let p = and_parts (leb i x) (ltb x (i + n)) e in back i n (leb-true i x p.0) (ltb-true x (i + n) p.1))
  where
    in_both : (i n : ℕ) → i ≤ x → x < i + n → (leb i x && ltb x (i + n)) ≡ true
    in_both i n a b = rw (le-leb i x a, lt-ltb x (i + n) b)

    to : (i n : ℕ) → elem x (up_from i n) ≡ true → (leb i x && ltb x (i + n)) ≡ true
    to i zero e = absurd (false≢true e)
    to i (suc n) e = go (to (suc i) n) (or_cases (eqb x i) (elem x (up_from (suc i) n)) e)
      where
        go : (elem x (up_from (suc i) n) ≡ true → (leb (suc i) x && ltb x (suc i + n)) ≡ true) → (eqb x i ≡ true) ⊎ (elem x (up_from (suc i) n) ≡ true) → (leb i x && ltb x (i + suc n)) ≡ true
        go ih (inl a) = let s : x ≡ i = eqb-true x i a in in_both i (suc n) (omega arith) (omega arith)
        go ih (inr a) = let q = and_parts (leb (suc i) x) (ltb x (suc i + n)) (ih a) in in_both i (suc n) (omega (arith, leb-true (suc i) x q.0)) (omega (arith, ltb-true x (suc i + n) q.1))

    back : (i n : ℕ) → i ≤ x → x < i + n → elem x (up_from i n) ≡ true
    back i zero a b = absurd (omega arith)
    back i (suc n) a b = go (λ h. back (suc i) n h (omega arith)) (cases_Bool (eqb x i))
      where
        go : (suc i ≤ x → elem x (up_from (suc i) n) ≡ true) → (eqb x i ≡ true) ⊎ (eqb x i ≡ false) → elem x (up_from i (suc n)) ≡ true
        go ih (inl s) = rw s
        go ih (inr s) = rw s (ih (omega (arith, eqb-false x i s)))

pub asc_up_from : (i n : ℕ) → Asc (up_from i n)
asc_up_from i zero = tt
asc_up_from i (suc n) = (λ m e. omega (arith, leb-true (suc i) m (and_parts (leb (suc i) m) (ltb m (suc i + n)) (sym (elem-up_from m (suc i) n) ∙ e)).0), asc_up_from (suc i) n)

-- what a test that fails between a and b keeps below a, it keeps below b
pub keep_skip : (p : ℕ → Bool) (a k : ℕ) → ((h : ℕ) → a ≤ h → h < a + k → p h ≡ false) → keep p (up_from 0 a) ≡ keep p (up_from 0 (a + k))
keep_skip p a zero f = let e : a ≡ a + 0 = omega arith in ap (λ (j : ℕ). keep p (up_from 0 j)) e
keep_skip p a (suc k) f =
    let e : suc (a + k) ≡ a + suc k = omega arith in
    let x : p (0 + (a + k)) ≡ false = f (0 + (a + k)) (omega arith) (omega arith) in
    keep_skip p a k (λ h b c. f h b (omega arith))
    ∙ sym (ap (λ (j : ℕ). keep p (up_from 0 j)) (sym e) ∙ ap (keep p) (up_from_snoc 0 (a + k)) ∙ keep_append p (up_from 0 (a + k)) ((0 + (a + k)) ∷ [])
    ∙ ap (λ (b : Bool). keep p (up_from 0 (a + k)) ++ (only_if b ((0 + (a + k)) ∷ []) ++ [])) x ∙ append-nil (keep p (up_from 0 (a + k))))

-- ---- an ascending list from g on

-- its first number is a member, and the lowest
pub first_in : (l : List ℕ) (d g : ℕ) → get_or l 0 d ≡ g → d ≢ g → elem g l ≡ true
first_in [] d g e n = absurd (n e)
first_in (x ∷ l) d g e n = subst (λ (k : ℕ). elem k (x ∷ l) ≡ true) e (head_in x l)

pub first_low : (l : List ℕ) (d h : ℕ) → Asc l → elem h l ≡ true → get_or l 0 d ≤ h
first_low [] d h a e = absurd (false≢true e)
first_low (x ∷ l) d h a e = ⊎_elim (λ s. omega (arith, eqb-true h x s)) (λ s. omega (arith, a.0 h s)) (or_cases (eqb h x) (elem h l) e)

pub from_next : (g : ℕ) (l : List ℕ) → Asc l → elem g l ≡ true → keep (leb g) l ≡ g ∷ keep (leb (suc g)) l
from_next g [] a e = absurd (false≢true e)
from_next g (x ∷ l) a e = go (from_next g l a.1) (cases_Bool (eqb g x)) (cases_lt x g)
  where
    go : (elem g l ≡ true → keep (leb g) l ≡ g ∷ keep (leb (suc g)) l) → (eqb g x ≡ true) ⊎ (eqb g x ≡ false) → (x < g) ⊎ (g ≤ x) → keep (leb g) (x ∷ l) ≡ g ∷ keep (leb (suc g)) (x ∷ l)
    go ih (inl s) o =
        let i : g ≡ x = eqb-true g x s in
        rw (le-leb g x (omega arith), lt-leb (suc g) x (omega arith))
        (ap₂ (λ (m : ℕ) (r : List ℕ). m ∷ r) (sym i) (keep_cong (leb g) (leb (suc g)) l (λ y f. le-leb g y (omega (arith, a.0 y f)) ∙ sym (le-leb (suc g) y (omega (arith, a.0 y f))))))
    go ih (inr s) (inl o) = rw (lt-leb g x o, lt-leb (suc g) x (omega arith)) (ih (rw s at e))
    go ih (inr s) (inr o) = absurd (omega (arith, a.0 g (rw s at e)))

-- a list to which a number is added gets longer by at most one
pub add_most : (x : ℕ) (l : List ℕ) → length (add leb x l) ≤ length l + 1
add_most x [] = omega arith
add_most x (y ∷ l) = go (cases_Bool (leb x y)) (cases_Bool (leb y x)) (add_most x l)
  where
    go : (leb x y ≡ true) ⊎ (leb x y ≡ false) → (leb y x ≡ true) ⊎ (leb y x ≡ false) → length (add leb x l) ≤ length l + 1 → length (add leb x (y ∷ l)) ≤ length (y ∷ l) + 1
    go (inl a) (inl b) ih = rw (a, b) (omega arith)
    go (inl a) (inr b) ih = rw (a, b) (omega arith)
    go (inr a) b ih = rw a (omega arith)

-- and not shorter
pub add_least : (x : ℕ) (l : List ℕ) → length l ≤ length (add leb x l)
add_least x [] = omega arith
add_least x (y ∷ l) = go (cases_Bool (leb x y)) (cases_Bool (leb y x)) (add_least x l)
  where
    go : (leb x y ≡ true) ⊎ (leb x y ≡ false) → (leb y x ≡ true) ⊎ (leb y x ≡ false) → length l ≤ length (add leb x l) → length (y ∷ l) ≤ length (add leb x (y ∷ l))
    go (inl a) (inl b) ih = rw (a, b) (omega arith)
    go (inl a) (inr b) ih = rw (a, b) (omega arith)
    go (inr a) b ih = rw a (omega arith)
