-- The lists that a search walks hold every candidate, so what it adds are the candidates.
use Prim.Native.Nat.{ℕ, suc, ◌+◌, ◌-◌, ◌≤◌, ◌<◌}
use mathlib.Core.Path.{◌≡◌, refl, sym, ap, ap₂, ◌∙◌}
use mathlib.Core.Logic.{◌⊎◌, inl, inr}
use mathlib.Core.Bool.{Bool, true, false, ◌&&◌, ◌||◌, or-false, and-false}
use mathlib.Core.List.{List, [], ◌∷◌, ◌++◌}
use native.Mathlib.Omega.{arith}
use borrow.Author.Tests.{ltb-true, leb-true}
use lib.Dec.{leb, ltb, eqb}
use lib.ListN.{length, length-append, get_or}
use Rattle.laws.specs.Lists.{any, each, keep, up_from, elem}
use Rattle.laws.specs.Merging.{region}
use Rattle.laws.proofs.ListLaws.{any_append, keep_append}
use Rattle.std.proofs.lemmas.Bool.{and_parts, cases_Bool}
use Rattle.laws.proofs.Stores.{region-add}
use Rattle.laws.proofs.Ascending.{elem-keep, asc_keep, asc_up_from, asc_ext, elem-up_from}
use Rattle.index.specs.declared.Places.{Places}
use Rattle.index.specs.Faces.{input, nodes_of, faces_with}
use Rattle.merge.specs.Runs.{rest}
use Rattle.seek.specs.Candidates.{common, shares, candidates}
use Rattle.seek.specs.Steps.{early}
use Rattle.seek.proofs.Condition.{shares_early}
use Rattle.triples.specs.Hits.{hits_by, add_all}
use Rattle.triples.proofs.Adds.{elem-add_all, asc_add_all}
use Rattle.merge.proofs.RunLaws.{rest_cons}

-- ---- all but two of a list

-- some is one or more
any_one : (q : ℕ → Bool) (l : List ℕ) → 1 ≤ length (keep q l) → any q l ≡ true
any_one q [] h = absurd (omega (arith, h))
any_one q (x ∷ l) h = go (any_one q l) (cases_Bool (q x))
  where
    go : (1 ≤ length (keep q l) → any q l ≡ true) → (q x ≡ true) ⊎ (q x ≡ false) → any q (x ∷ l) ≡ true
    go ih (inl a) = rw a
    go ih (inr a) = rw a (ih (rw a at h))

-- one more keeps at most one more
keep_cons : (q : ℕ → Bool) (x : ℕ) (l : List ℕ) → length (keep q (x ∷ l)) ≤ suc (length (keep q l))
keep_cons q x l = go (cases_Bool (q x))
  where
    go : (q x ≡ true) ⊎ (q x ≡ false) → length (keep q (x ∷ l)) ≤ suc (length (keep q l))
    go (inl a) = rw a (omega arith)
    go (inr a) = rw a (omega arith)

-- the words from s to e but for those at i and j
abbrev pub parts : (s i j e : ℕ) → List ℕ → List ℕ
parts s i j e b = rest s i b ++ (rest (i + 1) j b ++ rest (j + 1) e b)

-- from s on, first those before i
rest_split : (s i e : ℕ) (b : List ℕ) → s ≤ i → i ≤ e → rest s e b ≡ rest s i b ++ rest i e b
rest_split s i e b h k =
    let n : e - s ≡ (i - s) + (e - i) = omega arith in
    let m : s + (i - s) ≡ i = omega arith in
    ap (λ (x : ℕ). region s x b) n ∙ region-add s (i - s) (e - i) b ∙ ap (λ (x : ℕ). region s (i - s) b ++ region x (e - i) b) m

-- where three of a list pass, one of all but two passes
pub not_two : (q : ℕ → Bool) (s i j e : ℕ) (b : List ℕ) → s ≤ i → i < j → j < e → e ≤ length b → 3 ≤ length (keep q (rest s e b)) → any q (parts s i j e b) ≡ true
not_two q s i j e b h k l n three =
    let x : ℕ = get_or b i 0 in
    let y : ℕ = get_or b j 0 in
    let whole : rest s e b ≡ rest s i b ++ (x ∷ (rest (i + 1) j b ++ (y ∷ rest (j + 1) e b))) =
    rest_split s i e b h (omega arith)
    ∙ ap (λ (r : List ℕ). rest s i b ++ r) (rest_cons i e b (omega arith) n)
    ∙ ap (λ (r : List ℕ). rest s i b ++ (x ∷ r)) (rest_split (i + 1) j e b (omega arith) (omega arith))
    ∙ ap (λ (r : List ℕ). rest s i b ++ (x ∷ (rest (i + 1) j b ++ r))) (rest_cons j e b l n) in
    let a : List ℕ = keep q (rest s i b) in
    let c : List ℕ = keep q (rest (i + 1) j b) in
    let d : List ℕ = keep q (rest (j + 1) e b) in
    let t1 = ap (λ (r : List ℕ). length (keep q r)) whole ∙ ap length (keep_append q (rest s i b) (x ∷ (rest (i + 1) j b ++ (y ∷ rest (j + 1) e b)))) ∙ length-append a (keep q (x ∷ (rest (i + 1) j b ++ (y ∷ rest (j + 1) e b)))) in
    let t2 = keep_cons q x (rest (i + 1) j b ++ (y ∷ rest (j + 1) e b)) in
    let t3 = ap length (keep_append q (rest (i + 1) j b) (y ∷ rest (j + 1) e b)) ∙ length-append c (keep q (y ∷ rest (j + 1) e b)) in
    let t4 = keep_cons q y (rest (j + 1) e b) in
    let u1 = ap length (keep_append q (rest s i b) (rest (i + 1) j b ++ rest (j + 1) e b)) ∙ length-append a (keep q (rest (i + 1) j b ++ rest (j + 1) e b)) in
    let u2 = ap length (keep_append q (rest (i + 1) j b) (rest (j + 1) e b)) ∙ length-append c d in
    any_one q (parts s i j e b) (omega (arith, three, t1, t2, t3, t4, u1, u2))

-- ---- members

module _ (p q : Places) (b : List ℕ) (lo g : ℕ) where
  abbrev S : Bool
  S = shares p (input p b) lo g

  abbrev U : Bool
  U = elem g (up_from 0 q.faces)

  abbrev has : ℕ → Bool
  has v = elem v (nodes_of q (input q b) g)

  -- either, under the same two tests
  both : (s u x y : Bool) → ((s && (x && u)) || (s && (y && u))) ≡ (s && ((x || y) && u))
  both false u x y = refl
  both true u false y = refl
  both true true true y = refl
  both true false true y = and-false y

  -- among the candidates that have a key
  one : (v : ℕ) → elem g (hits_by p q b lo v) ≡ (S && (has v && U))
  unfolding hits_by faces_with
  one v =
      elem-keep g (shares p (input p b) lo) (keep (λ h. elem v (nodes_of q (input q b) h)) (up_from 0 q.faces))
      ∙ ap (λ (x : Bool). S && x) (elem-keep g (λ h. elem v (nodes_of q (input q b) h)) (up_from 0 q.faces))

  -- that have one of some keys
  some : (ks : List ℕ) → elem g (each (hits_by p q b lo) ks) ≡ (S && (any has ks && U))
  some [] = sym (and-false S)
  some (v ∷ ks) =
      any_append (eqb g) (hits_by p q b lo v) (each (hits_by p q b lo) ks)
      ∙ ap₂ (λ (x y : Bool). x || y) (one v) (some ks)
      ∙ both S U (has v) (any has ks)

-- a number below n is among those from 0 on
low_of : (g n : ℕ) → elem g (up_from 0 n) ≡ true → g < n
low_of g n e = omega (arith, ltb-true g (0 + n) (and_parts (leb 0 g) (ltb g (0 + n)) (sym (elem-up_from g 0 n) ∙ e)).1)

-- every candidate has one of the keys
abbrev pub Covers : (p q : Places) → List ℕ → (lo : ℕ) → List ℕ → Type 0
Covers p q b lo ks = (g : ℕ) → g < p.faces → 3 ≤ length (common (nodes_of p (input p b) lo) (nodes_of p (input p b) g)) → any (λ v. elem v (nodes_of q (input q b) g)) ks ≡ true

-- a candidate shares three nodes
pub three_of : (p : Places) (t : List ℕ) (lo g : ℕ) → shares p t lo g ≡ true → 3 ≤ length (common (nodes_of p t lo) (nodes_of p t g))
three_of p t lo g e =
    leb-true 3 (length (common (nodes_of p t lo) (nodes_of p t g))) (and_parts (early p t lo g) (leb 3 (length (common (nodes_of p t lo) (nodes_of p t g)))) (sym (shares_early p t lo g) ∙ e)).1

-- so the candidates that have one of them are all
pub all_found : (p q : Places) (b : List ℕ) (lo : ℕ) (ks : List ℕ) → q.faces ≡ p.faces → Covers p q b lo ks → add_all (each (hits_by p q b lo) ks) [] ≡ candidates p (input p b) lo
unfolding candidates
all_found p q b lo ks same covers =
    let all : List ℕ = each (hits_by p q b lo) ks in
    asc_ext (add_all all []) (keep (shares p (input p b) lo) (up_from 0 p.faces))
    (asc_add_all all [] tt) (asc_keep (shares p (input p b) lo) (up_from 0 p.faces) (asc_up_from 0 p.faces))
    (λ g. elem-add_all g all [] ∙ or-false (elem g all) ∙ some p q b lo g ks ∙ ap (λ (n : ℕ). S p q b lo g && (any (has p q b lo g) ks && elem g (up_from 0 n))) same
    ∙ drop-any g (cases_Bool (S p q b lo g)) (cases_Bool (elem g (up_from 0 p.faces)))
    ∙ sym (elem-keep g (shares p (input p b) lo) (up_from 0 p.faces)))
  where
    drop-any : (g : ℕ) → (S p q b lo g ≡ true) ⊎ (S p q b lo g ≡ false) → (elem g (up_from 0 p.faces) ≡ true) ⊎ (elem g (up_from 0 p.faces) ≡ false)
        → (S p q b lo g && (any (has p q b lo g) ks && elem g (up_from 0 p.faces))) ≡ (S p q b lo g && elem g (up_from 0 p.faces))
    drop-any g (inr s) u = rw s
    drop-any g (inl s) (inr u) = rw (s, u) (and-false (any (has p q b lo g) ks))
    drop-any g (inl s) (inl u) = rw (s, u, covers g (low_of g p.faces u) (three_of p (input p b) lo g s))
