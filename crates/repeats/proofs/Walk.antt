-- The pairs by marks are those of the definition, and marks put are marks taken away.
use Prim.Native.Nat.{ℕ, ◌+◌, ◌-◌, ◌<◌}
use mathlib.Core.Path.{◌≡◌, refl, sym, ap, ap₂, ◌∙◌}
use mathlib.Core.Logic.{◌⊎◌, inl, inr}
use mathlib.Core.Bool.{Bool, true, false, not}
use mathlib.Core.List.{List, [], ◌∷◌, ◌++◌, map, append-nil}
use native.Mathlib.Omega.{arith}
use borrow.Author.Tests.{eqb-true, eqb-false, eq-eqb, ne_eqb}
use lib.Dec.{eqb}
use lib.ListN.{length, get_or, set, replicate, length-set, length-replicate, get_or-replicate}
use lib.Seq.{ext_get_or, get_or-set_same, get_or-set_other}
use Rattle.laws.specs.Lists.{only_if, any, last, walk, keep}
use Rattle.laws.specs.Merging.{AllBelow}
use Rattle.std.proofs.lemmas.Bool.{cases_Bool, or_parts}
use Rattle.laws.proofs.ListLaws.{keep_append}
use Rattle.findings.specs.Rules.{pair_of, repeat_at}
use Rattle.repeats.specs.Marks.{hit, hits, mark}

-- the last of a list with one more
last_snoc : (l : List ℕ) (n : ℕ) → last (l ++ (n ∷ [])) ≡ n ∷ []
last_snoc [] n = refl
last_snoc (x ∷ []) n = refl
last_snoc (x ∷ y ∷ l) n = last_snoc (y ∷ l) n

-- a test of one more, that passes or not
keep_one : (q : ℕ → Bool) (l : List ℕ) (n : ℕ) → q n ≡ true → keep q (l ++ (n ∷ [])) ≡ keep q l ++ (n ∷ [])
keep_one q l n e = keep_append q l (n ∷ []) ∙ ap (λ (b : Bool). keep q l ++ (only_if b (n ∷ []) ++ [])) e

keep_none : (q : ℕ → Bool) (l : List ℕ) (n : ℕ) → q n ≡ false → keep q (l ++ (n ∷ [])) ≡ keep q l
keep_none q l n e = keep_append q l (n ∷ []) ∙ ap (λ (b : Bool). keep q l ++ (only_if b (n ∷ []) ++ [])) e ∙ append-nil (keep q l)

-- the mark of a list's last node
abbrev mark_of : List ℕ → ℕ
mark_of [] = 0
mark_of (x ∷ xs) = x + 1

-- the pair by the mark
hit_last : (n : ℕ) (l : List ℕ) → hit n (mark_of (last l)) ≡ map (pair_of n) (keep (λ p. not (eqb p n)) (last l))
hit_last n [] = refl
hit_last n (x ∷ []) = go (cases_Bool (eqb x n))
  where
    go : (eqb x n ≡ true) ⊎ (eqb x n ≡ false) → hit n (x + 1) ≡ map (pair_of n) (keep (λ p. not (eqb p n)) (x ∷ []))
    go (inl e) =
        let a : eqb (x + 1) 0 ≡ false = ne_eqb (x + 1) 0 (λ f. omega arith) in
        let b : eqb (x + 1) (n + 1) ≡ true = eq-eqb (x + 1) (n + 1) (ap (λ (k : ℕ). k + 1) (eqb-true x n e)) in
        simp (a, b, e)
    go (inr e) =
        let a : eqb (x + 1) 0 ≡ false = ne_eqb (x + 1) 0 (λ f. omega arith) in
        let b : eqb (x + 1) (n + 1) ≡ false = ne_eqb (x + 1) (n + 1) (λ f. eqb-false x n e (omega arith)) in
        let c : x + 1 - 1 ≡ x = omega arith in
        simp (a, b, e, c)
hit_last n (x ∷ y ∷ l) = hit_last n (y ∷ l)

module _ (weld : ℕ → ℕ) (size : ℕ) (inside : (n : ℕ) → n < size → weld n < size) where
  -- each mark is that of the last node of its number
  abbrev Marks : List ℕ → List ℕ → Type 0
  Marks marks before = (length marks ≡ size) × ((m : ℕ) → m < size → get_or marks m 0 ≡ mark_of (last (keep (λ p. eqb (weld p) m) before)))

  -- one node more
  marks_more : (marks before : List ℕ) (n : ℕ) → n < size → Marks marks before → Marks (set marks (weld n) (n + 1)) (before ++ (n ∷ []))
  marks_more marks before n h k = (length-set marks (weld n) (n + 1) ∙ k.0, λ m b. go m b (cases_Bool (eqb (weld n) m)))
    where
      go : (m : ℕ) → m < size → (eqb (weld n) m ≡ true) ⊎ (eqb (weld n) m ≡ false)
          → get_or (set marks (weld n) (n + 1)) m 0 ≡ mark_of (last (keep (λ p. eqb (weld p) m) (before ++ (n ∷ []))))
      go m b (inl e) =
          let s : weld n ≡ m = eqb-true (weld n) m e in
          ap (λ (j : ℕ). get_or (set marks (weld n) (n + 1)) j 0) (sym s)
          ∙ get_or-set_same marks (weld n) (n + 1) 0 (omega (arith, inside n h, k.0))
          ∙ sym (ap (λ (l : List ℕ). mark_of (last l)) (keep_one (λ p. eqb (weld p) m) before n e)
          ∙ ap mark_of (last_snoc (keep (λ p. eqb (weld p) m) before) n))
      go m b (inr e) =
          get_or-set_other marks (weld n) m (n + 1) 0 (λ f. eqb-false (weld n) m e (sym f))
          ∙ k.1 m b
          ∙ sym (ap (λ (l : List ℕ). mark_of (last l)) (keep_none (λ p. eqb (weld p) m) before n e))

  -- the pairs by marks are those of the walk
  hits_are : (marks before ns : List ℕ) → AllBelow size ns → Marks marks before → hits weld marks ns ≡ walk (λ b n after. repeat_at weld b n) before ns
  hits_are marks before [] h k = refl
  hits_are marks before (n ∷ ns) h k =
      ap₂ (λ (a b : List (ℕ × ℕ)). a ++ b)
      (ap (hit n) (k.1 (weld n) (inside n h.0)) ∙ hit_last n (keep (λ p. eqb (weld p) (weld n)) before))
      (hits_are (set marks (weld n) (n + 1)) (before ++ (n ∷ [])) ns h.1 (marks_more marks before n h.0 k))

  pub hits_walk : (ns : List ℕ) → AllBelow size ns → hits weld (replicate size 0) ns ≡ walk (λ b n after. repeat_at weld b n) [] ns
  hits_walk ns h = hits_are (replicate size 0) [] ns h (length-replicate size 0, λ m b. get_or-replicate size m 0 0 b)

-- ---- marks put and taken away

module _ (weld : ℕ → ℕ) where
  pub length_mark : (value : ℕ → ℕ) (marks ns : List ℕ) → length (mark weld value marks ns) ≡ length marks
  length_mark value marks [] = refl
  length_mark value marks (n ∷ ns) = length_mark value (set marks (weld n) (value n)) ns ∙ length-set marks (weld n) (value n)

  -- a number of none of the nodes keeps its mark
  kept : (value : ℕ → ℕ) (marks ns : List ℕ) (m : ℕ) → any (λ n. eqb (weld n) m) ns ≡ false → get_or (mark weld value marks ns) m 0 ≡ get_or marks m 0
  kept value marks [] m e = refl
  kept value marks (n ∷ ns) m e =
      let p = or_parts (eqb (weld n) m) (any (λ n. eqb (weld n) m) ns) e in
      kept value (set marks (weld n) (value n)) ns m p.1
      ∙ get_or-set_other marks (weld n) m (value n) 0 (λ f. eqb-false (weld n) m p.0 (sym f))

  -- marks that are zero but for the nodes' are zero when these are taken away
  cleared : (size : ℕ) (marks ns : List ℕ) → length marks ≡ size → ((m : ℕ) → m < size → any (λ n. eqb (weld n) m) ns ≡ false → get_or marks m 0 ≡ 0) → mark weld (λ n. 0) marks ns ≡ replicate size 0
  cleared size marks [] l h =
      ext_get_or 0 marks (replicate size 0) (l ∙ sym (length-replicate size 0))
      (λ i b. let c : i < size = omega arith in h i c refl ∙ sym (get_or-replicate size i 0 0 c))
  cleared size marks (n ∷ ns) l h =
      cleared size (set marks (weld n) 0) ns (length-set marks (weld n) 0 ∙ l) (λ m b e. go m b e (cases_Bool (eqb (weld n) m)))
    where
      go : (m : ℕ) → m < size → any (λ n. eqb (weld n) m) ns ≡ false → (eqb (weld n) m ≡ true) ⊎ (eqb (weld n) m ≡ false) → get_or (set marks (weld n) 0) m 0 ≡ 0
      go m b e (inl s) =
          let q : weld n ≡ m = eqb-true (weld n) m s in
          ap (λ (j : ℕ). get_or (set marks j 0) m 0) q ∙ get_or-set_same marks m 0 0 (omega arith)
      go m b e (inr s) = get_or-set_other marks (weld n) m 0 0 (λ f. eqb-false (weld n) m s (sym f)) ∙ h m b (simp (s, e))

  pub put_back : (size : ℕ) (value : ℕ → ℕ) (ns : List ℕ) → mark weld (λ n. 0) (mark weld value (replicate size 0) ns) ns ≡ replicate size 0
  put_back size value ns =
      cleared size (mark weld value (replicate size 0) ns) ns (length_mark value (replicate size 0) ns ∙ length-replicate size 0)
      (λ m b e. kept value (replicate size 0) ns m e ∙ get_or-replicate size m 0 0 b)
