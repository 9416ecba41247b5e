-- The partly shared pairs, exactly: each two cells once or not at all, by the condition.
use Prim.Native.Nat.{ℕ, zero, suc, ◌+◌, ◌<◌}
use mathlib.Core.Path.{◌≡◌, refl, ap, ap₂, ◌∙◌, fun_ext}
use mathlib.Core.Logic.{⊎_elim, ◌≢◌}
use mathlib.Core.Bool.{Bool, true, false, not, ◌&&◌, cond, or_comm, and-false}
use mathlib.Core.List.{List, [], ◌∷◌, ◌++◌, map}
use native.Mathlib.Omega.{arith}
use native.Mathlib.Nat.{add-zero, zero-add}
use borrow.Author.Tests.{ne_eqb}
use lib.Dec.{eqb}
use lib.ListN.{length, get_or, length-append}
use Rattle.laws.specs.Lists.{only_if, first, each, walk, keep}
use Rattle.laws.proofs.Tests.{eqb_self}
use Rattle.std.proofs.lemmas.Bool.{cases_lt}
use Rattle.laws.proofs.ListLaws.{each_append}
use Rattle.mesh.specs.Model.{Raw, contains, TOPOLOGY}
use Rattle.mesh.specs.Rings.{Cell, Face, faces_of, faces, number_from, numbered}
use Rattle.mesh.proofs.ModelTable.{rings_from}
use Rattle.findings.specs.Findings.{Rules, Finding, bowtie, overfull, partly, repeated, over_of, over_at, partly_of, pair_at, kind1, kind2, kind3, kind4, full}
use Rattle.findings.specs.Compared.{none, shares, both, names_pair}
use Rattle.findings.proofs.Laws.{occupied}
use Rattle.findings.proofs.Faces.{meeting_occupied}
use Rattle.findings.proofs.Reorder.{shares_comm}

-- how many pass
unfoldable count {ℓ} : {A : Type ℓ} → (A → Bool) → List A → ℕ
count p l = length (keep p l)

module _ {ℓ} {A : Type ℓ} (p : A → Bool) where
  -- of two parts
  count_append : (xs ys : List A) → count p (xs ++ ys) ≡ count p xs + count p ys
  unfolding count
  count_append xs ys = ap length (each_append _ xs ys) ∙ length-append (keep p xs) (keep p ys)

  -- under a test
  count_only_if : (b : Bool) (l : List A) → count p (only_if b l) ≡ cond b (count p l) 0
  unfolding count
  count_only_if true l = refl
  count_only_if false l = refl

  -- of a walk none of whose steps gives any
  count_walk {κ} : {B : Type κ} (h : List B → B → List B → List A) → ((a : List B) (x : B) (b : List B) → count p (h a x b) ≡ 0)
      → (pre l : List B) → count p (walk h pre l) ≡ 0
  unfolding count
  count_walk h e pre [] = refl
  count_walk h e pre (x ∷ l) = count_append (h pre x l) _ ∙ ap₂ (λ (m n : ℕ). m + n) (e pre x l) (count_walk h e (pre ++ (x ∷ [])) l)

-- alike both ways
cond_same {ℓ} : {A : Type ℓ} (b : Bool) (x : A) → cond b x x ≡ x
cond_same true x = refl
cond_same false x = refl

-- one element under a test counts 1 or 0
one_test {ℓ} : {A : Type ℓ} (b : Bool) (x : A) → length (only_if b (x ∷ []) ++ []) ≡ cond (b && true) 1 0
one_test true x = refl
one_test false x = refl

-- a test around a test
cond_and : (b a c : Bool) → cond b (cond (a && c) 1 0) 0 ≡ cond {A = ℕ} (a && (b && c)) 1 0
cond_and true a c = refl
cond_and false true c = refl
cond_and false false c = refl

-- ---- the other kinds have none

module _ (i j : ℕ) where
  -- an overfull face is no pair
  none_over : (a : List Face) (f : Face) (b : List Face) → count (names_pair i j) (over_at a f b) ≡ 0
  unfolding over_at over_of names_pair count
  none_over a f b = simp (count_only_if, cond_same)

  -- nor are repeated nodes
  none_rep : (c : ℕ) (l : List (ℕ × ℕ)) → count (names_pair i j) (map (λ (p : ℕ × ℕ). repeated c p.0 p.1) l) ≡ 0
  unfolding names_pair count
  none_rep c [] = refl
  none_rep c (x ∷ l) = none_rep c l

  -- ---- which cells are i and j

  -- the first is neither
  both_off : (c d : ℕ) → c ≢ i → c ≢ j → both i j c d ≡ false
  both_off c d p q = rw (ne_eqb c i p, ne_eqb c j q)

  -- neither is i
  both_low : (c d : ℕ) → c ≢ i → d ≢ i → both i j c d ≡ false
  both_low c d p q = rw (ne_eqb c i p, ne_eqb d i q) (and-false (eqb c j))

  -- the first is i and the second not j
  both_here : (d : ℕ) → i < j → d ≢ j → both i j i d ≡ false
  both_here d h p = rw (ne_eqb d j p, ne_eqb i j (omega arith), and-false (eqb i i))

  -- i and j themselves
  pub both_at : both i j i j ≡ true
  both_at = rw (eqb_self i, eqb_self j)

module _ (R : Rules) (i j : ℕ) where
  -- none of kind 1
  none1 : (a : List Cell) (c : Cell) (b : List Cell) → count (names_pair i j) (kind1 R a c b) ≡ 0
  unfolding kind1 names_pair count
  none1 a c b = simp (count_only_if, cond_same)

  -- none of kind 2
  none2 : (a : List Cell) (c : Cell) (b : List Cell) → count (names_pair i j) (kind2 R a c b) ≡ 0
  unfolding kind2
  none2 a c b =
      count_walk (names_pair i j) (λ p f q. over_at p f (q ++ faces R.rings b)) (λ p f q. none_over i j p f (q ++ faces R.rings b)) (faces R.rings a) (faces_of R.rings c)

  -- none of kind 4
  none4 : (a : List Cell) (c : Cell) (b : List Cell) → count (names_pair i j) (kind4 R a c b) ≡ 0
  unfolding kind4
  none4 a c b = none_rep i j c.num (R.repeats c.raw)

  -- ---- one pair of cells

  -- the lowest face pair gives one finding
  one_first : (a b : Cell) (l : List (Face × Face))
      → count (names_pair i j) (map (partly_of R a b) (first l)) ≡ cond (both i j a.num b.num && occupied l) 1 0
  unfolding partly_of names_pair count
  one_first a b [] = rw (and-false (both i j a.num b.num))
  one_first a b (x ∷ l) = one_test (both i j a.num b.num) (partly_of R a b x)

  -- two cells give one finding where they share, under their names
  one_pair : (a b : Cell) → count (names_pair i j) (pair_at R a b) ≡ cond (both i j a.num b.num && shares R a.raw b.raw) 1 0
  unfolding pair_at shares faces_of
  one_pair a b = simp (count_only_if, one_first, meeting_occupied, rings_from) (cond_and (not (R.bow a.raw) && not (R.bow b.raw)) (both i j a.num b.num) _)

  -- and none under other names
  zero_pair : (a b : Cell) → both i j a.num b.num ≡ false → count (names_pair i j) (pair_at R a b) ≡ 0
  zero_pair a b e = one_pair a b ∙ rw e

  -- ---- the pairs of one cell, and all pairs

  -- a is neither
  row_off : (a : Cell) → a.num ≢ i → a.num ≢ j → (l : List Cell) → count (names_pair i j) (each (pair_at R a) l) ≡ 0
  unfolding count
  row_off a p q [] = refl
  row_off a p q (b ∷ l) = count_append (names_pair i j) (pair_at R a b) _ ∙ ap₂ (λ (m n : ℕ). m + n) (zero_pair a b (both_off i j a.num b.num p q)) (row_off a p q l)

  -- a is not i, and i is passed
  row_low : (a : Cell) → a.num ≢ i → (k n : ℕ) (cs : List Raw) → i < k → count (names_pair i j) (each (pair_at R a) (number_from R.rings k n cs)) ≡ 0
  unfolding count number_from
  row_low a p k n [] h = refl
  row_low a p k n (c ∷ cs) h =
      count_append (names_pair i j) (pair_at R a record { num = k; from = n; raw = c }) _
      ∙ ap₂ (λ (m n : ℕ). m + n) (zero_pair a _ (both_low i j a.num k p (omega arith))) (row_low a p (suc k) (n + length (R.rings c)) cs (omega arith))

  -- a is i, and j is passed
  row_none : (a : Cell) → a.num ≡ i → i < j → (k n : ℕ) (cs : List Raw) → j < k → count (names_pair i j) (each (pair_at R a) (number_from R.rings k n cs)) ≡ 0
  unfolding count number_from
  row_none a e o k n [] h = refl
  row_none a e o k n (c ∷ cs) h =
      count_append (names_pair i j) (pair_at R a record { num = k; from = n; raw = c }) _
      ∙ ap₂ (λ (m n : ℕ). m + n) (zero_pair a _ (rw e (both_here i j k o (omega arith)))) (row_none a e o (suc k) (n + length (R.rings c)) cs (omega arith))

  -- a is i, and j comes m later
  row_one : (a : Cell) → a.num ≡ i → i < j → (k n : ℕ) (cs : List Raw) (m : ℕ) → j ≡ k + m → m < length cs
      → count (names_pair i j) (each (pair_at R a) (number_from R.rings k n cs)) ≡ cond (shares R a.raw (get_or cs m none)) 1 0
  unfolding number_from
  row_one a e o k n [] m q h = absurd (omega arith)
  row_one a e o k n (c ∷ cs) zero q h =
      let b : both i j a.num k ≡ true = ap₂ (both i j) e (omega arith) ∙ both_at i j in
      count_append (names_pair i j) (pair_at R a record { num = k; from = n; raw = c }) _
      ∙ ap₂ (λ (m n : ℕ). m + n) (one_pair a _ ∙ rw b) (row_none a e o (suc k) (n + length (R.rings c)) cs (omega arith)) ∙ add-zero _
  row_one a e o k n (c ∷ cs) (suc m) q h =
      count_append (names_pair i j) (pair_at R a record { num = k; from = n; raw = c }) _
      ∙ ap₂ (λ (m n : ℕ). m + n) (zero_pair a _ (rw e (both_here i j k o (omega arith)))) (row_one a e o (suc k) (n + length (R.rings c)) cs m (omega arith) (omega arith))
      ∙ zero-add _

  -- i is passed
  tri_none : (q : List Cell) (k n : ℕ) (cs : List Raw) → i < k → count (names_pair i j) (walk (kind3 R) q (number_from R.rings k n cs)) ≡ 0
  unfolding count number_from kind3
  tri_none q k n [] h = refl
  tri_none q k n (c ∷ cs) h =
      count_append (names_pair i j) (each (pair_at R record { num = k; from = n; raw = c }) (number_from R.rings (suc k) (n + length (R.rings c)) cs)) _
      ∙ ap₂ (λ (m n : ℕ). m + n) (row_low _ (omega arith) (suc k) (n + length (R.rings c)) cs (omega arith))
      (tri_none (q ++ (record { num = k; from = n; raw = c } ∷ [])) (suc k) (n + length (R.rings c)) cs (omega arith))

  -- i comes l later and j m later
  tri : i < j → (q : List Cell) (k n : ℕ) (cs : List Raw) (l m : ℕ) → i ≡ k + l → j ≡ k + m → m < length cs
      → count (names_pair i j) (walk (kind3 R) q (number_from R.rings k n cs)) ≡ cond (shares R (get_or cs l none) (get_or cs m none)) 1 0
  unfolding number_from kind3
  tri o q k n [] l m e f h = absurd (omega arith)
  tri o q k n (c ∷ cs) zero zero e f h = absurd (omega arith)
  tri o q k n (c ∷ cs) (suc l) zero e f h = absurd (omega arith)
  tri o q k n (c ∷ cs) zero (suc m) e f h =
      count_append (names_pair i j) (each (pair_at R record { num = k; from = n; raw = c }) (number_from R.rings (suc k) (n + length (R.rings c)) cs)) _
      ∙ ap₂ (λ (m n : ℕ). m + n) (row_one _ (omega arith) o (suc k) (n + length (R.rings c)) cs m (omega arith) (omega arith))
      (tri_none (q ++ (record { num = k; from = n; raw = c } ∷ [])) (suc k) (n + length (R.rings c)) cs (omega arith)) ∙ add-zero _
  tri o q k n (c ∷ cs) (suc l) (suc m) e f h =
      count_append (names_pair i j) (each (pair_at R record { num = k; from = n; raw = c }) (number_from R.rings (suc k) (n + length (R.rings c)) cs)) _
      ∙ ap₂ (λ (m n : ℕ). m + n) (row_off _ (omega arith) (omega arith) (number_from R.rings (suc k) (n + length (R.rings c)) cs))
      (tri o (q ++ (record { num = k; from = n; raw = c } ∷ [])) (suc k) (n + length (R.rings c)) cs l m (omega arith) (omega arith) (omega arith)) ∙ zero-add _

  -- the full list under the flag, i below j
  exact_below : (flags : ℕ) (cs : List Raw) → contains flags TOPOLOGY ≡ true → i < j → j < length cs
      → count (names_pair i j) (full R flags (numbered R.rings cs)) ≡ cond (shares R (get_or cs i none) (get_or cs j none)) 1 0
  unfolding full numbered
  exact_below flags cs t o h =
      simp (t, count_append, count_only_if, count_walk (names_pair i j) (kind1 R) none1, count_walk (names_pair i j) (kind2 R) none2, count_walk (names_pair i j) (kind4 R) none4, tri o [] 0 0 cs i j (omega arith) (omega arith) h, cond_same, zero-add)
      (unfold count in add-zero _)

-- a pair's name in either order
names_pair_comm : (i j : ℕ) → names_pair i j ≡ names_pair j i
unfolding names_pair
names_pair_comm i j = fun_ext (go i j)
  where
    go : (i j : ℕ) (x : Finding) → names_pair i j x ≡ names_pair j i x
    go i j (bowtie c) = refl
    go i j (overfull c₁ c₂ f n k os) = refl
    go i j (partly c₁ c₂ a b ns) = or_comm (eqb c₁ i && eqb c₂ j) (eqb c₁ j && eqb c₂ i)
    go i j (repeated c a b) = refl

-- every two different cells: their pair once by the condition, else not at all
pub exact : (R : Rules) (flags : ℕ) (cs : List Raw) (i j : ℕ) → contains flags TOPOLOGY ≡ true → i ≢ j → i < length cs → j < length cs
    → length (keep (names_pair i j) (full R flags (numbered R.rings cs))) ≡ cond (shares R (get_or cs i none) (get_or cs j none)) 1 0
unfolding count
exact R flags cs i j t d h k =
    ⊎_elim (λ e. exact_below R i j flags cs t e k)
    (λ e. rw (names_pair_comm i j, shares_comm R (get_or cs i none) (get_or cs j none)) (exact_below R j i flags cs t (omega arith) h)) (cases_lt i j)
