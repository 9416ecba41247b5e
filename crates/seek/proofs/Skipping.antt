-- Ascending runs go on to their first numbers that are not below g.
use Prim.Native.Nat.{ℕ, zero, suc, ◌+◌, ◌-◌, ◌≤◌, ◌<◌}
use mathlib.Core.Path.{◌≡◌, refl, sym, ap, ◌∙◌, subst}
use mathlib.Core.Bool.{true, false}
use mathlib.Core.List.{List, [], ◌∷◌}
use native.Mathlib.Omega.{arith}
use native.Mathlib.Nat.{zero-add}
use borrow.Author.Count.{below_more}
use borrow.Author.Tests.{le-leb, lt-leb, ltb-true, ltb-false}
use lib.Dec.{leb, ltb}
use lib.ListN.{length, get_or, drop, set, length-set}
use native.Mathlib.Numerals.{add-one}
use Rattle.std.specs.List.Sorted.{IsNonDecreasingBy, IsPartitionPoint}
use Rattle.std.proofs.lemmas.List.Sorted.{IsNonDecreasingBy-from_all_adjacent}
use lib.Seq.{get_or-set_same, get_or-set_other}
use Rattle.laws.specs.Lists.{keep}
use Rattle.laws.specs.Merging.{region, Asc}
use Rattle.laws.proofs.ListLaws.{get_or_any}
use Rattle.laws.proofs.Stores.{length-region, drop-region}
use Rattle.ascending.proofs.Adding.{rises}
use Rattle.laws.proofs.Ascending.{asc_keep, keep_skip}
use Rattle.index.specs.declared.Places.{Places}
use Rattle.index.specs.Faces.{input, nodes_of, faces_with}
use Rattle.merge.specs.Runs.{rest}
use Rattle.seek.specs.Candidates.{shares}
use Rattle.seek.specs.Steps.{Runs, Hidden, AllRising, Passed, up_to}
use Rattle.seek.proofs.Merging.{keep_all, asc_faces}

-- ---- one run

-- a list whose first p numbers, and no others, are below g
kept_from : (g : ℕ) (l : List ℕ) (p : ℕ) → p ≤ length l → ((k : ℕ) → k < p → get_or l k 0 < g) → ((k : ℕ) → p ≤ k → k < length l → g ≤ get_or l k 0) → drop p l ≡ keep (leb g) l
kept_from g [] zero h low high = refl
kept_from g [] (suc p) h low high = absurd (omega arith)
kept_from g (y ∷ l) zero h low high =
    rw (le-leb g y (high 0 (omega arith) (omega arith))) (ap (λ (r : List ℕ). y ∷ r) (kept_from g l zero (omega arith) (λ k b. absurd (omega arith)) (λ k a b. high (suc k) (omega arith) (omega arith))))
kept_from g (y ∷ l) (suc p) h low high =
    rw (lt-leb g y (low 0 (omega arith))) (kept_from g l p (omega arith) (λ k b. low (suc k) (omega arith)) (λ k a b. high (suc k) (omega arith) (omega arith)))

-- an ascending list is in the library's order
pub asc_up : (l : List ℕ) → Asc l → IsNonDecreasingBy (λ (y : ℕ). y) l
asc_up l up = IsNonDecreasingBy-from_all_adjacent (λ (y : ℕ). y) l
    (λ k d h. rw (get_or_any l k d 0 (omega arith), get_or_any l (k + 1) d 0 h, add-one k) (omega (arith, rises l k up (omega arith))))

-- where the library finds the first number that is not below g, p words behind x
pub skipped_to : (g x e : ℕ) (b : List ℕ) (p : ℕ) → x ≤ e → e ≤ length b → p ≤ length (rest x e b) → IsPartitionPoint (λ y. ltb y g ≡ true) (λ y. ltb y g ≡ false) (rest x e b) p
    → rest (x + p) e b ≡ keep (leb g) (rest x e b)
skipped_to g x e b p fwd h most at =
    let l = rest x e b in
    let long : length l ≡ e - x = length-region x (e - x) b (omega arith) in
    let n : e - (x + p) ≡ e - x - p = omega arith in
    ap (λ (k : ℕ). region (x + p) k b) n ∙ sym (drop-region x (e - x) p b (omega arith))
    ∙ kept_from g l p most (λ k i. ltb-true _ g (at.0 k 0 (omega arith) i)) (λ k i j. ltb-false _ g (at.1 k 0 i j))

-- ---- all runs

-- the first i runs have gone on
pub record Passing (g : ℕ) (b from onto to : List ℕ) (i : ℕ) : Type 0 where
  pub done : Passed i g b from onto to
  pub left : (j : ℕ) → i ≤ j → get_or onto j 0 ≡ get_or from j 0

module _ (g : ℕ) (b from to : List ℕ) where
  -- none has
  pub passing_start : Passing g b from from to 0
  passing_start = record { done = record { wide = refl; run = λ j h. absurd (omega arith) }; left = λ j h. refl }

  -- one more
  pub passing_next : (onto : List ℕ) (i v : ℕ) → i < length from → Passing g b from onto to i → rest v (get_or to i 0) b ≡ keep (leb g) (rest (get_or onto i 0) (get_or to i 0) b) → Passing g b from (set onto i v) to (i + 1)
  passing_next onto i v h p e = record {
    done = record {
      wide = length-set onto i v ∙ p.done.wide;
      run = below_more (λ (j : ℕ). rest (get_or (set onto i v) j 0) (get_or to j 0) b ≡ keep (leb g) (rest (get_or from j 0) (get_or to j 0) b)) i
          (λ j l. ap (λ (x : ℕ). rest x (get_or to j 0) b) (get_or-set_other onto i j v 0 (λ (s : j ≡ i). omega arith)) ∙ p.done.run j l)
          (ap (λ (x : ℕ). rest x (get_or to i 0) b) (get_or-set_same onto i v 0 (omega (arith, p.done.wide)))
          ∙ e ∙ ap (λ (x : ℕ). keep (leb g) (rest x (get_or to i 0) b)) (p.left i (omega arith)));
    };
    left = λ j l. get_or-set_other onto i j v 0 (λ (s : j ≡ i). omega arith) ∙ p.left j (omega arith);
  }

-- ---- the runs of lo's nodes

module _ (p : Places) (b : List ℕ) (lo k : ℕ) (from to : List ℕ) where
  -- they ascend
  pub all_rising : (g : ℕ) → Runs p b lo k g from to → AllRising k b from to
  all_rising g r i h =
      let n = get_or (nodes_of p (input p b) lo) i 0 in
      subst Asc (sym (r.run i h)) (asc_keep (leb g) (faces_with p (input p b) n) (asc_faces p b n))

  -- and go on from all faces to those from g on
  pub runs_from : (g : ℕ) (onto : List ℕ) → Runs p b lo k 0 from to → Passed k g b from onto to → Runs p b lo k g onto to
  runs_from g onto r s = record {
    count = r.count;
    wide = s.wide ∙ r.wide;
    ends = r.ends;
    run = λ i h. s.run i h ∙ ap (keep (leb g)) (r.run i h ∙ keep_all (faces_with p (input p b) (get_or (nodes_of p (input p b) lo) i 0)));
  }

-- no candidate stands before g where all are hidden
pub none_before : (p : Places) (t : List ℕ) (lo g : ℕ) → Hidden p t lo g → [] ≡ up_to p t lo g
none_before p t lo g hidden = keep_skip (shares p t lo) 0 g (λ h a l. hidden h (omega arith)) ∙ ap (up_to p t lo) (zero-add g)
