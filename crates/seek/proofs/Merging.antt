-- The merge of the lists of lo's nodes: opened, a face taken, moved to the lowest.
use Prim.Native.Nat.{ℕ, suc, ◌+◌, ◌-◌, ◌≤◌, ◌<◌}
use mathlib.Core.Path.{◌≡◌, refl, sym, ap, ap₂, ◌∙◌, subst}
use mathlib.Core.Logic.{◌⊎◌, inl, inr, ⊎_elim, ◌≢◌}
use mathlib.Core.Bool.{Bool, true, false, ◌&&◌, false≢true, and-true, and-false}
use mathlib.Core.List.{List, [], ◌∷◌, map}
use native.Mathlib.Omega.{arith}
use native.Mathlib.Numerals.{add-one}
use native.Mathlib.Nat.{add-zero, zero-add}
use borrow.Author.Tests.{leb-true, le-leb, lt-ltb, eqb-true, ne_eqb}
use lib.Dec.{leb, eqb, leb-zero}
use lib.ListN.{length, get_or, take, drop, length-map, get_or-map}
use lib.Seq.{sets, length-sets, drop-drop}
use Rattle.laws.specs.Merging.{region, Asc}
use Rattle.laws.specs.Lists.{keep, up_from, elem}
use Rattle.laws.proofs.Ascending.{elem-keep, asc_keep, asc_up_from, elem-up_from, keep_cong, keep_none, head_in, first_in, first_low, from_next}
use Rattle.laws.proofs.Tests.{eqb_self, both_ways}
use Rattle.std.proofs.lemmas.Bool.{and_parts, cases_Bool, cases_lt}
use Rattle.laws.proofs.ListLaws.{get_or_any}
use Rattle.laws.proofs.Stores.{get_or_within}
use Rattle.counting.specs.Counts.{times, below}
use Rattle.counting.proofs.CountLaws.{numbered, length_numbered, below_suc}
use Rattle.index.specs.declared.Places.{Places}
use Rattle.index.specs.Faces.{input, nodes_of, words_of, faces_with, Indexed}
use Rattle.merge.specs.Runs.{rest, stands, next, Lowest}
use Rattle.seek.specs.Candidates.{common, shares}
use Rattle.seek.specs.Steps.{Runs, Forward, early}
use Rattle.seek.proofs.Condition.{shares_early}
use Rattle.index.proofs.Read.{below_words, node_low}

-- ---- lists

-- what a beginning has behind its first
tail_of : (m : ℕ) (d : List ℕ) (y : ℕ) (l : List ℕ) → take (suc m) d ≡ y ∷ l → take m (drop 1 d) ≡ l
tail_of m [] y l e = absurd (let z : ◌≡◌ {A = ℕ} 0 1 = ap length e ∙ absurd_length e in omega arith)
  where
    absurd_length : [] ≡ y ∷ l → suc (length l) ≡ 1
    absurd_length e = let z : 0 ≡ suc (length l) = ap length e in omega arith
tail_of m (z ∷ d) y l e = cc

-- a run behind its first number
rest_tail : (x e : ℕ) (b : List ℕ) (y : ℕ) (l : List ℕ) → rest x e b ≡ y ∷ l → rest (x + 1) e b ≡ l
rest_tail x e b y l h = ⊎_elim there none (cases_lt x e)
  where
    there : x < e → rest (x + 1) e b ≡ l
    there o =
        let s : e - x ≡ suc (e - (x + 1)) = omega arith in
        ap (take (e - (x + 1))) (sym (drop-drop 1 x b)) ∙ tail_of (e - (x + 1)) (drop x b) y l (ap (λ (k : ℕ). take k (drop x b)) (sym s) ∙ h)

    -- an empty run has no first
    none : e ≤ x → rest (x + 1) e b ≡ l
    none o =
        let s : e - x ≡ 0 = omega arith in
        let z : 0 ≡ suc (length l) = ap (λ (k : ℕ). length (take k (drop x b))) (sym s) ∙ ap length h in
        absurd (omega arith)

-- a list's first is at least m where all are
first_ge : (l : List ℕ) (d m : ℕ) → m ≤ d → ((y : ℕ) → elem y l ≡ true → m ≤ y) → m ≤ get_or l 0 d
first_ge [] d m h f = h
first_ge (x ∷ l) d m h f = f x (head_in x l)

-- what holds at each place holds of each member
pub all_of : (P : ℕ → Type 0) (l : List ℕ) → ((i : ℕ) → i < length l → P (get_or l i 0)) → (x : ℕ) → elem x l ≡ true → P x
all_of P [] f x e = absurd (false≢true e)
all_of P (y ∷ l) f x e = go (all_of P l (λ i b. f (suc i) (omega arith)) x) (cases_Bool (eqb x y))
  where
    go : (elem x l ≡ true → P x) → (eqb x y ≡ true) ⊎ (eqb x y ≡ false) → P x
    go ih (inl s) = subst P (sym (eqb-true x y s)) (f 0 (omega arith))
    go ih (inr s) = ih (rw s at e)

-- counting places, and counting what stands there
count_places : (s q : ℕ → Bool) (l : List ℕ) (o : ℕ) → ((i : ℕ) → i < length l → s (o + i) ≡ q (get_or l i 0)) → length (keep s (up_from o (length l))) ≡ length (keep q l)
count_places s q [] o f = refl
count_places s q (x ∷ l) o f = go (count_places s q l (suc o) (λ i b. let e : suc o + i ≡ o + suc i = omega arith in ap s e ∙ f (suc i) (omega arith))) (cases_Bool (q x))
  where
    s_is : s o ≡ q x
    s_is = ap s (sym (add-zero o)) ∙ f 0 (omega arith)

    go : length (keep s (up_from (suc o) (length l))) ≡ length (keep q l) → (q x ≡ true) ⊎ (q x ≡ false) → length (keep s (up_from o (suc (length l)))) ≡ length (keep q (x ∷ l))
    go ih (inl a) = rw (s_is, a) (ap suc ih)
    go ih (inr a) = rw (s_is, a) ih

-- every number is at least 0
pub keep_all : (l : List ℕ) → keep (leb 0) l ≡ l
keep_all [] = refl
keep_all (x ∷ l) = rw (leb-zero x) (ap (λ (r : List ℕ). x ∷ r) (keep_all l))

-- ---- the faces of a node

module _ (p : Places) (b : List ℕ) where
  abbrev t : List ℕ
  t = input p b

  -- the faces of a node ascend
  pub asc_faces : (n : ℕ) → Asc (faces_with p t n)
  unfolding faces_with
  asc_faces n = asc_keep (λ g. elem n (nodes_of p t g)) (up_from 0 p.faces) (asc_up_from 0 p.faces)

  -- a face is in a node's list where it has the node
  pub has : (n g : ℕ) → g < p.faces → elem g (faces_with p t n) ≡ elem n (nodes_of p t g)
  unfolding faces_with
  has n g h =
      let u : elem g (up_from 0 p.faces) ≡ true = elem-up_from g 0 p.faces ∙ rw (leb-zero g, lt-ltb g (0 + p.faces) (omega arith)) in
      elem-keep g (λ j. elem n (nodes_of p t j)) (up_from 0 p.faces) ∙ ap (λ (c : Bool). elem n (nodes_of p t g) && c) u ∙ and-true (elem n (nodes_of p t g))

  module _ (lo : ℕ) where
    abbrev ns : List ℕ
    ns = nodes_of p t lo

    abbrev F : ℕ → List ℕ
    F i = faces_with p t (get_or ns i 0)

    -- no candidate where no list has the face
    no_share : (h : ℕ) → h < p.faces → ((i : ℕ) → i < length ns → elem h (F i) ≡ false) → shares p t lo h ≡ false
    unfolding common
    no_share h c f =
        let none : keep (λ n. elem n (nodes_of p t h)) ns ≡ [] = keep_none (λ n. elem n (nodes_of p t h)) ns (all_of (λ n. elem n (nodes_of p t h) ≡ false) ns (λ i d. sym (has (get_or ns i 0) h c) ∙ f i d)) in
        shares_early p t lo h ∙ ap (λ (l : List ℕ). early p t lo h && leb 3 (length l)) none ∙ and-false (early p t lo h)

    -- opened
    module _ (ix : Indexed p b) (face : lo < p.faces) (from to : List ℕ) (wide_from : length from ≡ 64) (wide-to : length to ≡ 64) where
      abbrev at_from : List ℕ
      at_from = map (λ n. p.index + below n (words_of p t)) ns

      abbrev at_to : List ℕ
      at_to = map (λ n. p.index + below (n + 1) (words_of p t)) ns

      -- the place of run i
      put : (f : ℕ → ℕ) (l : List ℕ) → length l ≡ 64 → (i : ℕ) → i < length ns → get_or (sets l 0 (map f ns)) i 0 ≡ f (get_or ns i 0)
      put f l e i h =
          ap (λ (j : ℕ). get_or (sets l 0 (map f ns)) j 0) (sym (zero-add i))
          ∙ get_or_within l 0 (map f ns) i 0 (omega (arith, length-map ns f)) (omega (arith, length-map ns f, ix.laid.few lo face))
          ∙ get_or_any (map f ns) i 0 (f 0) (omega (arith, length-map ns f))
          ∙ get_or-map f ns i 0

      -- none ends before it begins
      pub forward : Forward (length ns) (sets from 0 at_from) (sets to 0 at_to)
      forward i h =
          let n : ℕ = get_or ns i 0 in
          omega (
            arith,
            put (λ n. p.index + below n (words_of p t)) from wide_from i h,
            put (λ n. p.index + below (n + 1) (words_of p t)) to wide-to i h,
            ap (λ (j : ℕ). below j (words_of p t)) (add-one n) ∙ below_suc n (words_of p t),
          )

      -- the runs stand at their starts
      pub opened : Runs p b lo (length ns) 0 (sets from 0 at_from) (sets to 0 at_to)
      opened = record {
        count = refl;
        wide = length-sets from 0 at_from ∙ wide_from;
        ends = (ix.laid.few lo face, λ i h. omega (arith, put (λ n. p.index + below (n + 1) (words_of p t)) to wide-to i h, below_words p b ix (get_or ns i 0 + 1), ix.whole));
        run = λ i h. let n : ℕ = get_or ns i 0 in
            let e : p.index + below (n + 1) (words_of p t) - (p.index + below n (words_of p t)) ≡ times n (words_of p t) =
            omega (arith, ap (λ (j : ℕ). below j (words_of p t)) (add-one n) ∙ below_suc n (words_of p t)) in
            ap₂ (λ (x y : ℕ). rest x y b) (put (λ n. p.index + below n (words_of p t)) from wide_from i h) (put (λ n. p.index + below (n + 1) (words_of p t)) to wide-to i h)
            ∙ ap (λ (j : ℕ). region (p.index + below n (words_of p t)) j b) e
            ∙ ix.part n (node_low p b ix lo i face h) ∙ sym (keep_all (F i));
      }

    module _ (k g : ℕ) (from to : List ℕ) (r : Runs p b lo k g from to) where
      -- run i has g next where g is in its list
      stands_is : (i : ℕ) → i < k → stands b from to g i ≡ elem g (F i)
      stands_is i h = ap (λ (l : List ℕ). eqb (get_or l 0 (g + 1)) g) (r.run i h) ∙ go (cases_Bool (elem g (F i)))
        where
          go : (elem g (F i) ≡ true) ⊎ (elem g (F i) ≡ false) → eqb (get_or (keep (leb g) (F i)) 0 (g + 1)) g ≡ elem g (F i)
          go (inl a) = ap (λ (l : List ℕ). eqb (get_or l 0 (g + 1)) g) (from_next g (F i) (asc_faces (get_or ns i 0)) a) ∙ eqb_self g ∙ sym a
          go (inr a) =
              ne_eqb (get_or (keep (leb g) (F i)) 0 (g + 1)) g
              (λ e. false≢true (sym a ∙ (and_parts (leb g g) (elem g (F i)) (sym (elem-keep g (leb g) (F i)) ∙ first_in (keep (leb g) (F i)) (g + 1) g e (λ (z : g + 1 ≡ g). omega arith))).1))
              ∙ sym a

      -- g is taken
      pub counted : g < p.faces → length (keep (stands b from to g) (up_from 0 k)) ≡ length (common ns (nodes_of p t g))
      unfolding common
      counted h =
          ap (λ (j : ℕ). length (keep (stands b from to g) (up_from 0 j))) r.count
          ∙ count_places (stands b from to g) (λ n. elem n (nodes_of p t g)) ns 0
          (λ i c. ap (stands b from to g) (zero-add i) ∙ stands_is i (omega (arith, r.count)) ∙ has (get_or ns i 0) g h)

      abbrev from' : List ℕ
      from' = sets from 0 (map (next b from to g) (up_from 0 k))

      -- the place of run i is moved
      moved : (i : ℕ) → i < k → get_or from' i 0 ≡ next b from to g i
      moved i h =
          ap (λ (j : ℕ). get_or from' j 0) (sym (zero-add i))
          ∙ get_or_within from 0 (map (next b from to g) (up_from 0 k)) i 0 (omega (arith, length_numbered (next b from to g) k)) (omega (arith, length_numbered (next b from to g) k, r.wide, r.ends.0))
          ∙ numbered (next b from to g) k i h

      -- and the run goes on behind g
      run_next : (i : ℕ) → i < k → (elem g (F i) ≡ true) ⊎ (elem g (F i) ≡ false) → rest (next b from to g i) (get_or to i 0) b ≡ keep (leb (suc g)) (F i)
      run_next i h (inl a) =
          rw (stands_is i h ∙ a)
          (rest_tail (get_or from i 0) (get_or to i 0) b g (keep (leb (suc g)) (F i)) (r.run i h ∙ from_next g (F i) (asc_faces (get_or ns i 0)) a))
      run_next i h (inr a) =
          rw (stands_is i h ∙ a)
          (r.run i h ∙ keep_cong (leb g) (leb (suc g)) (F i)
          (λ y f. both_ways (leb g y) (leb (suc g) y)
          (λ e. le-leb (suc g) y (let d : y ≢ g = λ (s : y ≡ g). false≢true (sym a ∙ ap (λ (j : ℕ). elem j (F i)) (sym s) ∙ f) in omega (arith, leb-true g y e)))
          (λ e. le-leb g y (omega (arith, leb-true (suc g) y e)))))

      -- all runs do
      pub passed : Runs p b lo k (g + 1) from' to
      passed = record {
        count = r.count;
        wide = length-sets from 0 (map (next b from to g) (up_from 0 k)) ∙ r.wide;
        ends = r.ends;
        run = λ i h. ap (λ (x : ℕ). rest x (get_or to i 0) b) (moved i h) ∙ run_next i h (cases_Bool (elem g (F i))) ∙ ap (λ (j : ℕ). keep (leb j) (F i)) (sym (add-one g));
      }

      -- moved on to the lowest
      module _ (g' : ℕ) (top : g ≤ p.faces) (w : Lowest k b from to p.faces g') where
        at_least : (i : ℕ) → i < k → g' ≤ get_or (keep (leb g) (F i)) 0 p.faces
        at_least i h = subst (λ (l : List ℕ). g' ≤ get_or l 0 p.faces) (r.run i h) (w.low i h)

        pub no_lower : g ≤ g'
        no_lower =
            w.high g top
            (λ i h. subst (λ (l : List ℕ). g ≤ get_or l 0 p.faces) (sym (r.run i h))
            (first_ge (keep (leb g) (F i)) p.faces g top (λ y e. leb-true g y (and_parts (leb g y) (elem y (F i)) (sym (elem-keep y (leb g) (F i)) ∙ e)).0)))

        gap : (i : ℕ) → i < k → (h : ℕ) → g ≤ h → h < g' → elem h (F i) ≡ false
        gap i d h a c =
            ⊎_elim
            (λ e. let f : elem h (keep (leb g) (F i)) ≡ true = elem-keep h (leb g) (F i) ∙ rw (le-leb g h a) e in
            absurd (omega (arith, at_least i d, first_low (keep (leb g) (F i)) p.faces h (asc_keep (leb g) (F i) (asc_faces (get_or ns i 0))) f)))
            (λ e. e) (cases_Bool (elem h (F i)))

        pub skipped : (h : ℕ) → g ≤ h → h < g' → shares p t lo h ≡ false
        skipped h a c = no_share h (omega (arith, w.top)) (λ i d. gap i (omega (arith, r.count)) h a c)

        pub lowered : Runs p b lo k g' from to
        lowered = record {
          count = r.count;
          wide = r.wide;
          ends = r.ends;
          run = λ i h. r.run i h ∙ keep_cong (leb g) (leb g') (F i)
              (λ y f. both_ways (leb g y) (leb g' y)
              (λ e. ⊎_elim (λ o. absurd (false≢true (sym (gap i h y (leb-true g y e) o) ∙ f))) (λ o. le-leb g' y o) (cases_lt y g'))
              (λ e. le-leb g y (omega (arith, leb-true g' y e, no_lower))));
        }
