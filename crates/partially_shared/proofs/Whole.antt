-- All marks of a cell's search tell the cell's partly shared pairs.
use Prim.Native.Nat.{ℕ, zero, suc, ◌+◌, ◌-◌, ◌≤◌, ◌<◌}
use mathlib.Core.Path.{◌≡◌, refl, sym, ap, ap₂, ◌∙◌, subst}
use mathlib.Core.Logic.{◌⊎◌, inl, inr}
use mathlib.Core.Bool.{Bool, true, false, not, ◌&&◌}
use mathlib.Core.List.{List, [], ◌∷◌, ◌++◌, map, append-nil}
use native.Mathlib.Omega.{arith}
use native.Mathlib.Nat.{zero-add}
use borrow.Author.Tests.{ltb-true, eqb-true, eqb-false, ne_eqb, not-true}
use lib.Dec.{ltb, eqb}
use lib.ListN.{get_or}
use Rattle.laws.specs.Lists.{only_if, first, each, keep, up_from, All}
use Rattle.laws.proofs.Holding.{all_append}
use Rattle.std.proofs.lemmas.Bool.{and_parts, cases_Bool, cases_lt}
use Rattle.laws.proofs.ListLaws.{each_append, each_agree, up_from_append}
use Rattle.findings.specs.Findings.{Rules, Finding, partly}
use Rattle.index.specs.Faces.{cell_of, bow_of, nodes_of}
use Rattle.seek.specs.Candidates.{common, sharing, shares, candidates}
use Rattle.layout.specs.declared.Layout.{Layout}
use Rattle.layout.specs.Tables.{face_row, first_of, Faced}
use Rattle.layout.specs.ByCell.{pair_found, pair_cells, partly_cell}
use Rattle.layout.proofs.Owning.{later_cell}
use Rattle.partially_shared.specs.declared.Range.{Range}
use Rattle.partially_shared.specs.Hits.{spans_at, passing, face_hits, cell_hits, hit_of, MarkIs, Marked, MarksFit, told_by, mark_tells}
use Rattle.partially_shared.proofs.Cleared.{tells_none, tells_one}
use Rattle.partially_shared.proofs.Pairing.{common_is, pairs_b}

-- ---- what holds of all

module _ {A : Type 0} (P : A → Type 0) where
  -- of a range, where it holds at each place
  all_each : (h : ℕ → List A) (a n : ℕ) → ((i : ℕ) → a ≤ i → i < a + n → All P (h i)) → All P (each h (up_from a n))
  all_each h a zero p = tt
  all_each h a (suc n) p = all_append P (h a) (each h (up_from (suc a) n)) (p a (omega arith) (omega arith)) (all_each h (suc a) n (λ i x y. p i (omega (arith, x)) (omega (arith, y))))

  -- of those kept
  all_keep : (q : A → Bool) (l : List A) → All P l → All P (keep q l)
  all_keep q [] p = tt
  all_keep q (x ∷ l) p = all_append P (only_if (q x) (x ∷ [])) (keep q l) (go (q x)) (all_keep q l p.1)
    where
      go : (b : Bool) → All P (only_if b (x ∷ []))
      go true = (p.0, tt)
      go false = tt

  all_first : (l : List A) → All P l → All P (first l)
  all_first [] p = tt
  all_first (x ∷ l) p = (p.0, tt)

  -- of none
  all_none : (q : A → Bool) (l : List A) → ((x : A) → P x → q x ≡ false) → All P l → keep q l ≡ []
  all_none q [] h p = refl
  all_none q (x ∷ l) h p = ap (λ (b : Bool). only_if b (x ∷ []) ++ keep q l) (h x p.0) ∙ all_none q l h p.1

all_map : {A B : Type 0} (P : A → Type 0) (Q : B → Type 0) (h : A → B) (l : List A) → ((x : A) → P x → Q (h x)) → All P l → All Q (map h l)
all_map P Q h [] f p = tt
all_map P Q h (x ∷ l) f p = (f x p.0, all_map P Q h l f p.1)

-- the numbers of a range that pass a test
all_passed : (P : ℕ → Type 0) (q : ℕ → Bool) (a n : ℕ) → ((i : ℕ) → a ≤ i → i < a + n → q i ≡ true → P i) → All P (keep q (up_from a n))
all_passed P q a n h = all_each P (λ x. only_if (q x) (x ∷ [])) a n (λ i x y. go i x y (cases_Bool (q i)))
  where
    go : (i : ℕ) → a ≤ i → i < a + n → (q i ≡ true) ⊎ (q i ≡ false) → All P (only_if (q i) (i ∷ []))
    go i x y (inl e) = subst (λ (b : Bool). All P (only_if b (i ∷ []))) (sym e) (h i x y e, tt)
    go i x y (inr e) = subst (λ (b : Bool). All P (only_if b (i ∷ []))) (sym e) tt

-- a function that agrees on all
map_all : {A B : Type 0} (P : A → Type 0) (f g : A → B) (l : List A) → ((x : A) → P x → f x ≡ g x) → All P l → map f l ≡ map g l
map_all P f g [] h p = refl
map_all P f g (x ∷ l) h p = ap₂ (λ a r. a ∷ r) (h x p.0) (map_all P f g l h p.1)

-- ---- ranges of numbers

module _ {B : Type 0} (h : ℕ → List B) where
  pub each_none : (a n : ℕ) → ((i : ℕ) → a ≤ i → i < a + n → h i ≡ []) → each h (up_from a n) ≡ []
  each_none a zero p = refl
  each_none a (suc n) p = ap₂ (λ x y. x ++ y) (p a (omega arith) (omega arith)) (each_none (suc a) n (λ i x y. p i (omega (arith, x)) (omega (arith, y))))

  -- where there is something in a window only
  each_window : (a n m : ℕ) → a + n ≤ m → ((i : ℕ) → i < m → (i < a) ⊎ (a + n ≤ i) → h i ≡ []) → each h (up_from 0 m) ≡ each h (up_from a n)
  each_window a n m le p =
      let e : m ≡ a + (n + (m - (a + n))) = omega (arith, le) in
      ap (λ (k : ℕ). each h (up_from 0 k)) e
      ∙ ap (each h) (up_from_append 0 a (n + (m - (a + n))))
      ∙ each_append h (up_from 0 a) (up_from (0 + a) (n + (m - (a + n))))
      ∙ ap (λ (r : List B). r ++ each h (up_from (0 + a) (n + (m - (a + n))))) (each_none 0 a (λ i x y. p i (omega (arith, y, le)) (inl (omega (arith, y)))))
      ∙ ap (λ (k : ℕ). each h (up_from k (n + (m - (a + n))))) (zero-add a)
      ∙ ap (each h) (up_from_append a n (m - (a + n)))
      ∙ each_append h (up_from a n) (up_from (a + n) (m - (a + n)))
      ∙ ap (λ (r : List B). each h (up_from a n) ++ r) (each_none (a + n) (m - (a + n)) (λ i x y. p i (omega (arith, y, le)) (inr x)))
      ∙ append-nil (each h (up_from a n))

module _ (R : Rules) (l : Layout) (t : List ℕ) (F : Faced l t) (c : ℕ) (low : c < l.at.cell_count) where
  -- a pair of faces, the second of a later cell
  abbrev pub Later : ℕ × ℕ → Type 0
  Later h = (h.0 < l.at.faces) × (h.1 < l.at.faces) × (c < cell_of l.at t h.1)

  -- a face that passes the search of face f of c is
  passed_later : (f g : ℕ) → first_of l t c ≤ f → f < first_of l t (c + 1) → g < l.at.faces → shares l.at t f g ≡ true → Later (f, g)
  unfolding shares
  passed_later f g p q h e =
      let a = and_parts (ltb f g && not (eqb (cell_of l.at t f) (cell_of l.at t g)) && not (bow_of l.at t (cell_of l.at t f)) && not (bow_of l.at t (cell_of l.at t g))) (sharing (nodes_of l.at t f) (nodes_of l.at t g)) e in
      let b = and_parts (ltb f g && not (eqb (cell_of l.at t f) (cell_of l.at t g)) && not (bow_of l.at t (cell_of l.at t f))) (not (bow_of l.at t (cell_of l.at t g))) a.0 in
      let d = and_parts (ltb f g && not (eqb (cell_of l.at t f) (cell_of l.at t g))) (not (bow_of l.at t (cell_of l.at t f))) b.0 in
      let k = and_parts (ltb f g) (not (eqb (cell_of l.at t f) (cell_of l.at t g))) d.0 in
      let less = ltb-true f g k.0 in
      let own : cell_of l.at t f ≡ c = F.owned c f low p q in
      let other = eqb-false (cell_of l.at t f) (cell_of l.at t g) (not-true (eqb (cell_of l.at t f) (cell_of l.at t g)) k.1) in
      (omega (arith, less, h), h, later_cell l t F c f g low p less h (λ z. other (own ∙ sym z)))

  -- all that the search gives are such
  hits_later : All Later (cell_hits R l t c)
  unfolding cell_hits face_hits passing candidates
  hits_later = all_each Later (face_hits R l t) (first_of l t c) (first_of l t (c + 1) - first_of l t c) (λ f p q. all_map (λ g. Later (f, g)) Later (λ g. (f, g)) (keep (spans_at R l t f) (candidates l.at t f)) (λ g z. z)
      (all_keep (λ g. Later (f, g)) (spans_at R l t f) (candidates l.at t f) (all_passed (λ g. Later (f, g)) (shares l.at t f) 0 l.at.faces (λ g x y e. passed_later f g p (omega (arith, p, q)) (omega (arith, y)) e))))

  -- the first in b is such, too
  hit_later : (b : ℕ) → All Later (hit_of l t b (cell_hits R l t c))
  unfolding hit_of
  hit_later b = all_first Later (keep (λ h. eqb (cell_of l.at t h.1) b) (cell_hits R l t c)) (all_keep Later (λ h. eqb (cell_of l.at t h.1) b) (cell_hits R l t c) hits_later)

  -- in no cell up to c there is one
  hit_early : (b : ℕ) → b ≤ c → hit_of l t b (cell_hits R l t c) ≡ []
  unfolding hit_of
  hit_early b h = ap first (all_none Later (λ k. eqb (cell_of l.at t k.1) b) (cell_hits R l t c) (λ k p. ne_eqb (cell_of l.at t k.1) b (λ z. absurd (omega (arith, p.2, z, h)))) hits_later)

  module _ (w : List ℕ) (r : Range) (M : Marked l t (cell_hits R l t c) w r) where
    -- the finding of a pair
    abbrev pair_of : ℕ → ℕ × ℕ → Finding
    pair_of b h = partly c b h.0 h.1 (common (nodes_of l.at t h.0) (nodes_of l.at t h.1))

    -- what a mark tells
    told : (b : ℕ) → b < l.at.cell_count → mark_tells l t w c b ≡ map (pair_of b) (hit_of l t b (cell_hits R l t c))
    unfolding hit_of told_by
    told b h = go (keep (λ k. eqb (cell_of l.at t k.1) b) (cell_hits R l t c)) (M.marks b h)
      where
        go : (K : List (ℕ × ℕ)) → MarkIs (get_or w (l.marks + b) 0) (get_or w (l.others + b) 0) (first K) → mark_tells l t w c b ≡ map (pair_of b) (first K)
        go [] p = tells_none l t w c b p
        go (k ∷ K) p =
            let e : get_or w (l.marks + b) 0 - 1 ≡ k.0 = omega (arith, p.0) in
            tells_one l t w c b (λ z. absurd (omega (arith, z, p.0)))
            ∙ ap₂ (λ (x y : ℕ). partly c b x y (common (nodes_of l.at t x) (nodes_of l.at t y)) ∷ []) e p.1

    -- is the pair of the definition, for a later cell
    later_told : (b : ℕ) → c < b → b < l.at.cell_count → mark_tells l t w c b ≡ pair_cells R l t c b
    unfolding face_row
    later_told b p h =
        told b h
        ∙ map_all Later (pair_of b) (λ k. pair_found c b (face_row l t k.0, face_row l t k.1)) (hit_of l t b (cell_hits R l t c)) (λ k q. ap (partly c b k.0 k.1) (common_is R l t F k.0 k.1 q.0 q.1)) (hit_later b)
        ∙ sym (pairs_b R l t F c b p h)

    -- and nothing for another
    early_told : (b : ℕ) → b ≤ c → b < l.at.cell_count → mark_tells l t w c b ≡ []
    early_told b p h = told b h ∙ ap (map (pair_of b)) (hit_early b p)

    -- nothing outside the range
    out_told : (b : ℕ) → b < l.at.cell_count → (b < r.lo) ⊎ (r.hi ≤ b) → mark_tells l t w c b ≡ []
    out_told b h o = go (cases_Bool (eqb (get_or w (l.marks + b) 0) 0))
      where
        go : (eqb (get_or w (l.marks + b) 0) 0 ≡ true) ⊎ (eqb (get_or w (l.marks + b) 0) 0 ≡ false) → mark_tells l t w c b ≡ []
        go (inl e) = tells_none l t w c b (eqb-true (get_or w (l.marks + b) 0) 0 e)
        go (inr e) = let q = M.within b h (eqb-false (get_or w (l.marks + b) 0) 0 e) in absurd (outside o q.0 q.1)
          where
            outside : (b < r.lo) ⊎ (r.hi ≤ b) → r.lo ≤ b → b < r.hi → ⊥
            outside (inl x) y z = omega (arith, x, y)
            outside (inr x) y z = omega (arith, x, z)

    -- all marks tell all of them
    pub all_told : each (mark_tells l t w c) (up_from 0 l.at.cell_count) ≡ partly_cell R l t c
    unfolding partly_cell
    all_told =
        each_window (mark_tells l t w c) (c + 1) (l.at.cell_count - (c + 1)) l.at.cell_count (omega (arith, low)) (λ i x o. early_told i (before i x o) x)
        ∙ each_agree (mark_tells l t w c) (pair_cells R l t c) (c + 1) (l.at.cell_count - (c + 1)) (λ i x y. later_told i (omega (arith, x)) (omega (arith, y, low)))
      where
        before : (i : ℕ) → i < l.at.cell_count → (i < c + 1) ⊎ (c + 1 + (l.at.cell_count - (c + 1)) ≤ i) → i ≤ c
        before i x (inl y) = omega (arith, y)
        before i x (inr y) = absurd (omega (arith, x, y, low))

    -- and so do the marks of the range
    pub whole_told : r.hi ≤ l.at.cell_count → each (mark_tells l t w c) (up_from r.lo (r.hi - r.lo)) ≡ partly_cell R l t c
    whole_told top = sym (ranged (cases_lt r.hi r.lo)) ∙ all_told
      where
        ranged : (r.hi < r.lo) ⊎ (r.lo ≤ r.hi) → each (mark_tells l t w c) (up_from 0 l.at.cell_count) ≡ each (mark_tells l t w c) (up_from r.lo (r.hi - r.lo))
        ranged (inl x) =
            let z : 0 ≡ r.hi - r.lo = omega (arith, x) in
            each_none (mark_tells l t w c) 0 l.at.cell_count (λ i p q. out_told i (omega (arith, q)) (either i (cases_lt i r.lo)))
            ∙ ap (λ (k : ℕ). each (mark_tells l t w c) (up_from r.lo k)) z
          where
            either : (i : ℕ) → (i < r.lo) ⊎ (r.lo ≤ i) → (i < r.lo) ⊎ (r.hi ≤ i)
            either i (inl y) = inl y
            either i (inr y) = inr (omega (arith, y, x))
        ranged (inr x) = each_window (mark_tells l t w c) r.lo (r.hi - r.lo) l.at.cell_count (omega (arith, x, top)) (λ i p o. out_told i p (beyond i o))
          where
            beyond : (i : ℕ) → (i < r.lo) ⊎ (r.lo + (r.hi - r.lo) ≤ i) → (i < r.lo) ⊎ (r.hi ≤ i)
            beyond i (inl y) = inl y
            beyond i (inr y) = inr (omega (arith, y, x))

    -- each mark tells faces
    pub marks_fit : MarksFit l w
    marks_fit b h z = go (hit_of l t b (cell_hits R l t c)) (M.marks b h) (hit_later b)
      where
        go : (K : List (ℕ × ℕ)) → MarkIs (get_or w (l.marks + b) 0) (get_or w (l.others + b) 0) K → All Later K → (get_or w (l.marks + b) 0 ≤ l.at.faces) × (get_or w (l.others + b) 0 < l.at.faces)
        go [] p q = absurd (z p)
        go (k ∷ K) p q = (omega (arith, p.0, q.0.0), omega (arith, p.1, q.0.1))
