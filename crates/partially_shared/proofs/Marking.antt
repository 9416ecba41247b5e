-- One face pair more: a cell that is marked keeps its pair, one that is not gets it.
use Prim.Native.Nat.{ℕ, suc, ◌+◌, ◌≤◌, ◌<◌, min, max}
use mathlib.Core.Path.{◌≡◌, refl, sym, ap, ap₂, ◌∙◌, subst}
use mathlib.Core.Logic.{◌⊎◌, inl, inr, ◌≢◌}
use mathlib.Core.Bool.{Bool, true, false}
use mathlib.Core.List.{List, [], ◌∷◌, ◌++◌, map, append-nil}
use native.Mathlib.Omega.{arith}
use borrow.Author.Tests.{eqb-true}
use lib.Dec.{eqb}
use Rattle.std.specs.Prelude.{Option}
use lib.ListN.{length, get_or, set, drop, length-set}
use lib.Seq.{get_or-set_same, get_or-set_other, take-set-le, drop-set-lt}
use lib.Ieee.{Float}
use Rattle.laws.specs.Lists.{only_if, first, keep}
use Rattle.laws.proofs.Tests.{clash, eqb_self}
use Rattle.std.proofs.lemmas.Bool.{cases_Bool}
use Rattle.laws.proofs.ListLaws.{keep_append}
use Rattle.laws.proofs.Stores.{region_set_before}
use Rattle.findings.specs.Findings.{Rules}
use Rattle.geometry.specs.Points.{points_of}
use Rattle.area.specs.AreaTest.{area_of, is_spans}
use Rattle.findings.specs.Rules.{rules_with}
use Rattle.index.specs.Faces.{input, base, cell_of, nodes_of}
use Rattle.seek.specs.Candidates.{common}
use Rattle.seek.proofs.Searching.{input_base}
use Rattle.layout.specs.ByCell.{plain_rules}
use Rattle.layout.specs.declared.Layout.{Layout}
use Rattle.layout.specs.Tables.{Spaced}
use Rattle.partially_shared.specs.declared.Range.{Range}
use Rattle.partially_shared.specs.Listing.{ListedIf, list_count, list_with}
use Rattle.partially_shared.specs.Hits.{spans_at, passing, hit_of, MarkIs, Marked, Beside}
use Rattle.partially_shared.proofs.Listing.{list_before, list_beside, listed_more}

-- a list behind one that is not empty does not change the first
kept_first : (m o : ℕ) (K Z : List (ℕ × ℕ)) → MarkIs m o (first K) → m ≢ 0 → first (K ++ Z) ≡ first K
kept_first m o [] Z p h = absurd (h p)
kept_first m o (k ∷ K) Z p h = refl

-- a mark of 0 is an empty list's
none_first : (m o : ℕ) (K : List (ℕ × ℕ)) → MarkIs m o (first K) → m ≡ 0 → K ≡ []
none_first m o [] p h = refl
none_first m o (k ∷ K) p h = absurd (omega (arith, p.0, h))

-- the area test of the common nodes, read from the words below `found`
pub spans_is : (c : List Float) (tol : Float) (l : Layout) (w : List ℕ) (f g : ℕ) → l.at.offsets ≤ l.at.found → is_spans (area_of tol (points_of c (common (nodes_of l.at (input l.at (base l.at w)) f) (nodes_of l.at (input l.at (base l.at w)) g)))) ≡ spans_at (plain_rules c tol) l (input l.at w) f g
unfolding spans_at rules_with
spans_is c tol l w f g h = ap (λ (t : List ℕ). is_spans (area_of tol (points_of c (common (nodes_of l.at t f) (nodes_of l.at t g))))) (input_base l.at w h)

-- the words as they are
pub beside_self : (o : ℕ) (l : Layout) (w : List ℕ) → Beside o l w w
beside_self o l w = record { before = refl; behind = refl; long = refl }

-- but for a cell's mark
marks_beside : (l : Layout) (w : List ℕ) (c x y : ℕ) → Spaced l (length w) → c < l.at.cell_count → Beside l.marks l w (set (set w (l.marks + c) x) (l.others + c) y)
marks_beside l w c x y sp low = record {
  before = take-set-le l.marks (set w (l.marks + c) x) (l.others + c) y (omega (arith, sp.others_at)) ∙ take-set-le l.marks w (l.marks + c) x (omega arith);
  behind = region_set_before l.last l.at.nodes (set w (l.marks + c) x) (l.others + c) y (omega (arith, sp.last_at, low)) ∙ region_set_before l.last l.at.nodes w (l.marks + c) x (omega (arith, sp.last_at, sp.others_at, low));
  long = length-set (set w (l.marks + c) x) (l.others + c) y ∙ length-set w (l.marks + c) x;
}

-- and for its place in the list
pub noted_beside : (l : Layout) (w : List ℕ) (c : ℕ) (n : Option ℕ) (x y : ℕ) → Spaced l (length w) → c < l.at.cell_count → Beside l.marks l w (list_with l c n (set (set w (l.marks + c) x) (l.others + c) y))
noted_beside l w c n x y sp low =
    let b = marks_beside l w c x y sp low in
    let d = list_beside l c n (set (set w (l.marks + c) x) (l.others + c) y) (subst (Spaced l) (sym b.long) sp) in
    record { before = d.before ∙ b.before; behind = d.behind ∙ b.behind; long = d.long ∙ b.long }

module _ (R : Rules) (l : Layout) (t : List ℕ) (f g : ℕ) where
  abbrev of : ℕ → ℕ × ℕ → Bool
  of b h = eqb (cell_of l.at t h.1) b

  -- what one candidate adds
  pub adds : spans_at R l t f g ≡ true → passing R l t f (g ∷ []) ≡ (f, g) ∷ []
  unfolding passing
  adds e = ap (λ (b : Bool). map (λ (k : ℕ). (f, k)) (only_if b (g ∷ []) ++ [])) e

  pub adds_not : spans_at R l t f g ≡ false → passing R l t f (g ∷ []) ≡ []
  unfolding passing
  adds_not e = ap (λ (b : Bool). map (λ (k : ℕ). (f, k)) (only_if b (g ∷ []) ++ [])) e

  -- in another cell than b nothing
  elsewhere : (b : ℕ) → eqb (cell_of l.at t g) b ≡ false → keep (of b) (passing R l t f (g ∷ [])) ≡ []
  elsewhere b e = go (cases_Bool (spans_at R l t f g))
    where
      go : (spans_at R l t f g ≡ true) ⊎ (spans_at R l t f g ≡ false) → keep (of b) (passing R l t f (g ∷ [])) ≡ []
      go (inl s) = ap (keep (of b)) (adds s) ∙ ap (λ (x : Bool). only_if x ((f, g) ∷ []) ++ []) e
      go (inr s) = ap (keep (of b)) (adds_not s)

  module _ (H : List (ℕ × ℕ)) where
    -- the first in b, with one more pair
    hit_append : (b : ℕ) → hit_of l t b (H ++ passing R l t f (g ∷ [])) ≡ first (keep (of b) H ++ keep (of b) (passing R l t f (g ∷ [])))
    unfolding hit_of
    hit_append b = ap first (keep_append (of b) H (passing R l t f (g ∷ [])))

    hit_is : (b : ℕ) → hit_of l t b H ≡ first (keep (of b) H)
    unfolding hit_of
    hit_is b = refl

    hit_other : (b : ℕ) → eqb (cell_of l.at t g) b ≡ false → hit_of l t b (H ++ passing R l t f (g ∷ [])) ≡ hit_of l t b H
    hit_other b e = hit_append b ∙ ap (λ (Z : List (ℕ × ℕ)). first (keep (of b) H ++ Z)) (elsewhere b e) ∙ ap first (append-nil (keep (of b) H)) ∙ sym (hit_is b)

    hit_kept : (b m o : ℕ) → MarkIs m o (hit_of l t b H) → m ≢ 0 → hit_of l t b (H ++ passing R l t f (g ∷ [])) ≡ hit_of l t b H
    hit_kept b m o p h =
        hit_append b
        ∙ kept_first m o (keep (of b) H) (keep (of b) (passing R l t f (g ∷ []))) (subst (MarkIs m o) (hit_is b) p) h
        ∙ sym (hit_is b)

    hit_new : (b m o : ℕ) → MarkIs m o (hit_of l t b H) → m ≡ 0 → spans_at R l t f g ≡ true → eqb (cell_of l.at t g) b ≡ true → hit_of l t b (H ++ passing R l t f (g ∷ [])) ≡ (f, g) ∷ []
    hit_new b m o p h s e =
        hit_append b
        ∙ ap₂ (λ (K Z : List (ℕ × ℕ)). first (K ++ keep (of b) Z)) (none_first m o (keep (of b) H) (subst (MarkIs m o) (hit_is b) p) h) (adds s)
        ∙ ap (λ (x : Bool). first (only_if x ((f, g) ∷ []) ++ [])) e

    -- a pair that does not pass leaves all as it was
    pub marked_out : (w : List ℕ) (r : Range) → Marked l t H w r → spans_at R l t f g ≡ false → Marked l t (H ++ passing R l t f (g ∷ [])) w r
    marked_out w r p s = subst (λ (K : List (ℕ × ℕ)). Marked l t K w r) (sym (ap (λ (Z : List (ℕ × ℕ)). H ++ Z) (adds_not s) ∙ append-nil H)) p

    -- so does one whose cell is marked
    pub marked_kept : (w : List ℕ) (r : Range) → Marked l t H w r → cell_of l.at t g < l.at.cell_count → get_or w (l.marks + cell_of l.at t g) 0 ≢ 0 → Marked l t (H ++ passing R l t f (g ∷ [])) w r
    marked_kept w r p low h = record { marks = mark; within = p.within; listed = p.listed }
      where
        mark : (b : ℕ) → b < l.at.cell_count → MarkIs (get_or w (l.marks + b) 0) (get_or w (l.others + b) 0) (hit_of l t b (H ++ passing R l t f (g ∷ [])))
        mark b k = go (cases_Bool (eqb (cell_of l.at t g) b))
          where
            go : (eqb (cell_of l.at t g) b ≡ true) ⊎ (eqb (cell_of l.at t g) b ≡ false) → MarkIs (get_or w (l.marks + b) 0) (get_or w (l.others + b) 0) (hit_of l t b (H ++ passing R l t f (g ∷ [])))
            go (inl e) =
                let q : cell_of l.at t g ≡ b = eqb-true (cell_of l.at t g) b e in
                subst (MarkIs (get_or w (l.marks + b) 0) (get_or w (l.others + b) 0)) (sym (hit_kept b (get_or w (l.marks + b) 0) (get_or w (l.others + b) 0) (p.marks b k) (λ z. h (ap (λ (x : ℕ). get_or w (l.marks + x) 0) q ∙ z)))) (p.marks b k)
            go (inr e) = subst (MarkIs (get_or w (l.marks + b) 0) (get_or w (l.others + b) 0)) (sym (hit_other b e)) (p.marks b k)

    module _ (w : List ℕ) (r : Range) (p : Marked l t H w r) (sp : Spaced l (length w)) (c : ℕ) (is : c ≡ cell_of l.at t g) (low : c < l.at.cell_count) where
      abbrev q : List ℕ
      q = set (set w (l.marks + c) (f + 1)) (l.others + c) g

      abbrev v : List ℕ
      v = list_with l c r.listed q

      -- listing changes no mark
      mark_as : (b : ℕ) → b < l.at.cell_count → get_or v (l.marks + b) 0 ≡ get_or q (l.marks + b) 0
      mark_as b k = list_before l c r.listed q (l.marks + b) (omega (arith, k, sp.others_at, sp.last_at, sp.pairs_at))

      other_as : (b : ℕ) → b < l.at.cell_count → get_or v (l.others + b) 0 ≡ get_or q (l.others + b) 0
      other_as b k = list_before l c r.listed q (l.others + b) (omega (arith, k, sp.last_at, sp.pairs_at))

      -- the words of other cells are as they were
      mark_first : (b : ℕ) → b < l.at.cell_count → c ≢ b → get_or q (l.marks + b) 0 ≡ get_or w (l.marks + b) 0
      mark_first b k n =
          get_or-set_other (set w (l.marks + c) (f + 1)) (l.others + c) (l.marks + b) g 0 (λ e. absurd (omega (arith, e, sp.others_at)))
          ∙ get_or-set_other w (l.marks + c) (l.marks + b) (f + 1) 0 (λ e. n (omega (arith, e)))

      mark_other : (b : ℕ) → b < l.at.cell_count → c ≢ b → get_or v (l.marks + b) 0 ≡ get_or w (l.marks + b) 0
      mark_other b k n = mark_as b k ∙ mark_first b k n

      other_other : (b : ℕ) → b < l.at.cell_count → c ≢ b → get_or v (l.others + b) 0 ≡ get_or w (l.others + b) 0
      other_other b k n =
          other_as b k
          ∙ get_or-set_other (set w (l.marks + c) (f + 1)) (l.others + c) (l.others + b) g 0 (λ e. n (omega (arith, e)))
          ∙ get_or-set_other w (l.marks + c) (l.others + b) (f + 1) 0 (λ e. absurd (omega (arith, e, sp.others_at)))

      -- the cell's own are new
      mark_own : get_or v (l.marks + c) 0 ≡ suc f
      mark_own =
          let e : f + 1 ≡ suc f = omega arith in
          mark_as c low
          ∙ get_or-set_other (set w (l.marks + c) (f + 1)) (l.others + c) (l.marks + c) g 0 (λ e. absurd (omega (arith, e, sp.others_at, low)))
          ∙ get_or-set_same w (l.marks + c) (f + 1) 0 (omega (arith, sp.others_at, sp.last_at, sp.pairs_at, sp.spare_at, sp.ends, low))
          ∙ e

      other_own : get_or v (l.others + c) 0 ≡ g
      other_own = other_as c low ∙ get_or-set_same (set w (l.marks + c) (f + 1)) (l.others + c) g 0 (omega (arith, length-set w (l.marks + c) (f + 1), sp.last_at, sp.pairs_at, sp.spare_at, sp.ends, low))

      -- a pair that passes marks its cell, where that is not marked yet
      pub marked_in : (s : Range) → get_or w (l.marks + c) 0 ≡ 0 → spans_at R l t f g ≡ true → s.lo ≡ min r.lo c → s.hi ≡ max r.hi (c + 1) → s.listed ≡ list_count l r.listed → Marked l t (H ++ passing R l t f (g ∷ [])) v s
      marked_in s z y lo hi count = record { marks = mark; within = inside; listed = subst (ListedIf l v) (sym count) (listed_more l c r.listed w q sp long low behind mark_first p.listed) }
        where
          long : length q ≡ length w
          long = length-set (set w (l.marks + c) (f + 1)) (l.others + c) g ∙ length-set w (l.marks + c) (f + 1)

          behind : drop l.pairs q ≡ drop l.pairs w
          behind = drop-set-lt l.pairs (set w (l.marks + c) (f + 1)) (l.others + c) g (omega (arith, low, sp.last_at, sp.pairs_at)) ∙ drop-set-lt l.pairs w (l.marks + c) (f + 1) (omega (arith, low, sp.others_at, sp.last_at, sp.pairs_at))

          mark : (b : ℕ) → b < l.at.cell_count → MarkIs (get_or v (l.marks + b) 0) (get_or v (l.others + b) 0) (hit_of l t b (H ++ passing R l t f (g ∷ [])))
          mark b k = go (cases_Bool (eqb (cell_of l.at t g) b))
            where
              go : (eqb (cell_of l.at t g) b ≡ true) ⊎ (eqb (cell_of l.at t g) b ≡ false) → MarkIs (get_or v (l.marks + b) 0) (get_or v (l.others + b) 0) (hit_of l t b (H ++ passing R l t f (g ∷ [])))
              go (inl e) =
                  let j : b ≡ c = sym (is ∙ eqb-true (cell_of l.at t g) b e) in
                  let n = hit_new b (get_or w (l.marks + b) 0) (get_or w (l.others + b) 0) (p.marks b k) (ap (λ (x : ℕ). get_or w (l.marks + x) 0) j ∙ z) y e in
                  subst (MarkIs (get_or v (l.marks + b) 0) (get_or v (l.others + b) 0)) (sym n)
                  (ap (λ (x : ℕ). get_or v (l.marks + x) 0) j ∙ mark_own, ap (λ (x : ℕ). get_or v (l.others + x) 0) j ∙ other_own)
              go (inr e) =
                  let n : c ≢ b = λ j. clash (ap (λ (x : ℕ). eqb x b) (sym is ∙ j) ∙ eqb_self b) e in
                  subst (MarkIs (get_or v (l.marks + b) 0) (get_or v (l.others + b) 0)) (sym (hit_other b e))
                  (subst (λ (x : ℕ). MarkIs x (get_or v (l.others + b) 0) (hit_of l t b H)) (sym (mark_other b k n))
                  (subst (λ (x : ℕ). MarkIs (get_or w (l.marks + b) 0) x (hit_of l t b H)) (sym (other_other b k n)) (p.marks b k)))

          inside : (b : ℕ) → b < l.at.cell_count → get_or v (l.marks + b) 0 ≢ 0 → (s.lo ≤ b) × (b < s.hi)
          inside b k m = go (cases_Bool (eqb c b))
            where
              go : (eqb c b ≡ true) ⊎ (eqb c b ≡ false) → (s.lo ≤ b) × (b < s.hi)
              go (inl x) = let j : c ≡ b = eqb-true c b x in (omega (arith, lo, j), omega (arith, hi, j))
              go (inr x) =
                  let n : c ≢ b = λ j. clash (ap (λ (i : ℕ). eqb i b) j ∙ eqb_self b) x in
                  let i = p.within b k (λ j. m (mark_other b k n ∙ j)) in
                  (omega (arith, lo, i.0), omega (arith, hi, i.1))
