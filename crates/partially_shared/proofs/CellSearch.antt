-- The faces of a cell, in turn.
use Prim.Native.Nat.{ℕ, suc, ◌+◌, ◌-◌, ◌≤◌, ◌<◌}
use mathlib.Core.Path.{◌≡◌, refl, sym, ap, ap₂, ◌∙◌, subst}
use mathlib.Core.Logic.{⊎_elim}
use mathlib.Core.List.{List, [], ◌∷◌, ◌++◌, append-nil}
use native.Mathlib.Omega.{arith}
use Rattle.std.specs.Prelude.{Some}
use lib.ListN.{get_or, get_or-replicate}
use Rattle.laws.specs.Lists.{each, up_from}
use Rattle.laws.proofs.ListLaws.{each_append, up_from_snoc}
use Rattle.laws.proofs.Stores.{get_or-region}
use Rattle.std.proofs.lemmas.Bool.{cases_lt}
use Rattle.findings.specs.Findings.{Rules}
use Rattle.index.specs.Faces.{input}
use Rattle.seek.specs.Steps.{Hidden}
use Rattle.seek.proofs.Condition.{not_later, own_cell}
use Rattle.layout.specs.declared.Layout.{Layout}
use Rattle.layout.specs.Tables.{first_of, Faced, Standing}
use Rattle.partially_shared.specs.declared.Range.{Range}
use Rattle.partially_shared.specs.Listing.{ListedIf}
use Rattle.partially_shared.specs.Hits.{face_hits, cell_hits, hit_of, Marked, MarkedMore, Searching, Beside}
use Rattle.partially_shared.proofs.Searched.{beside_then, searching_on, input_on, searches}

-- the face pairs of the faces from a on, before f
abbrev pub hits_to : Rules → Layout → List ℕ → ℕ → ℕ → List (ℕ × ℕ)
hits_to R l t a f = each (face_hits R l t) (up_from a (f - a))

-- the faces before f are done
pub record Facing (R : Rules) (l : Layout) (a : ℕ) (w v : List ℕ) (s : Range) (f : ℕ) : Type 0 where
  pub beside : Beside l.at.found l w v
  pub marked : Marked l (input l.at w) (hits_to R l (input l.at w) a f) v s
  pub high : s.hi ≤ l.at.cell_count
  pub search : Searching l v

-- a mark of a standing slice is zero
pub mark_zero : (l : Layout) (w : List ℕ) (b : ℕ) → Standing l w → b < l.at.cell_count → get_or w (l.marks + b) 0 ≡ 0
mark_zero l w b s h =
    sym (get_or-region l.marks l.at.cell_count w b 0 h)
    ∙ ap (λ (k : List ℕ). get_or k b 0) s.unmarked
    ∙ get_or-replicate l.at.cell_count b 0 0 h

-- no face is done
pub facing_start : (R : Rules) (l : Layout) (w : List ℕ) (s : Range) (a : ℕ) → Standing l w → s.hi ≡ 0 → s.listed ≡ Some 0 → Facing R l a w w s a
unfolding hit_of
facing_start R l w s a st h n = record {
  beside = record { before = refl; behind = refl; long = refl };
  marked = subst (λ (H : List (ℕ × ℕ)). Marked l (input l.at w) H w s) none record {
    marks = λ b k. mark_zero l w b st k;
    within = λ b k z. absurd (z (mark_zero l w b st k));
    listed = subst (ListedIf l w) (sym n) (omega arith, record { known = λ b k. absurd k; there = λ b k z. absurd (z (mark_zero l w b st k)) });
  };
  high = omega (arith, h);
  search = searches l w st;
}
  where
    none : [] ≡ hits_to R l (input l.at w) a a
    none = let z : 0 ≡ a - a = omega arith in ap (λ (k : ℕ). each (face_hits R l (input l.at w)) (up_from a k)) z

-- one more
pub facing_next : (R : Rules) (l : Layout) (a : ℕ) (w v u : List ℕ) (s q : Range) (f : ℕ) → Searching l w → a ≤ f → Facing R l a w v s f
    → MarkedMore l (input l.at v) (face_hits R l (input l.at v) f) v u s q → Beside l.at.found l v u → q.hi ≤ l.at.cell_count → Facing R l a w u q (f + 1)
facing_next R l a w v u s q f search h p m b k = record {
  beside = beside_then l.at.found l w v u p.beside b;
  marked = subst (λ (H : List (ℕ × ℕ)). Marked l t H u q) (sym grows) (subst (λ (x : List ℕ). MarkedMore l x (face_hits R l x f) v u s q) (input_on l w v search p.beside) m (hits_to R l t a f) p.marked);
  high = k;
  search = searching_on l v u p.search b;
}
  where
    t : List ℕ
    t = input l.at w

    grows : hits_to R l t a (f + 1) ≡ hits_to R l t a f ++ face_hits R l t f
    grows =
        let z : f + 1 - a ≡ suc (f - a) = omega (arith, h) in
        let y : a + (f - a) ≡ f = omega (arith, h) in
        ap (λ (k : ℕ). each (face_hits R l t) (up_from a k)) z
        ∙ ap (each (face_hits R l t)) (up_from_snoc a (f - a))
        ∙ each_append (face_hits R l t) (up_from a (f - a)) ((a + (f - a)) ∷ [])
        ∙ ap (λ (k : ℕ). hits_to R l t a f ++ (face_hits R l t k ++ [])) y
        ∙ ap (λ (z : List (ℕ × ℕ)). hits_to R l t a f ++ z) (append-nil (face_hits R l t f))

-- all faces of the cell are done
pub facing_end : (R : Rules) (l : Layout) (w v : List ℕ) (s : Range) (c a f : ℕ) → a ≡ first_of l (input l.at w) c → f ≡ first_of l (input l.at w) (c + 1) → Facing R l a w v s f
    → Marked l (input l.at w) (cell_hits R l (input l.at w) c) v s
unfolding cell_hits
facing_end R l w v s c a f e g p =
    subst (λ (H : List (ℕ × ℕ)). Marked l (input l.at w) H v s) (ap₂ (λ (x y : ℕ). each (face_hits R l (input l.at w)) (up_from x (y - x))) e g) p.marked

-- no face before the next cell's first is a candidate of a face of the cell
pub hidden_cell : (l : Layout) (t : List ℕ) (c f end : ℕ) → Faced l t → c < l.at.cell_count → first_of l t c ≤ f → f < end → end ≡ first_of l t (c + 1) → Hidden l.at t f end
hidden_cell l t c f end faced low a b e h k =
    ⊎_elim
    (λ o. own_cell l.at t f h (faced.owned c f low a (omega (arith, b, e)) ∙ sym (faced.owned c h low (omega (arith, a, o)) (omega (arith, k, e)))))
    (λ o. not_later l.at t f h o)
    (cases_lt f h)
