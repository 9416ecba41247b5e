-- Order 1 of document 02: a loose node keeps its own number.
use Prim.Native.Nat.{ℕ, ◌<◌, ◌≤◌}
use mathlib.Core.Path.{◌≡◌, refl, ap, ◌∙◌}
use mathlib.Core.Logic.{◌⊎◌, inl, inr}
use mathlib.Core.Bool.{Bool, true, false, cond, ◌||◌}
use mathlib.Core.List.{List, [], ◌∷◌, ◌++◌}
use native.Mathlib.Nat.{zero-add}
use native.Mathlib.Omega.{arith}
use borrow.Author.Tests.{eqb-false}
use lib.Dec.{eqb}
use lib.ListN.{length, get_or, set, drop, get_or-eq_default, get_or-append}
use lib.Seq.{get_or-set_other}
use lib.Ieee.{Float, eq}
use Rattle.laws.specs.Lists.{only_if, any, elem, sort, up_from}
use Rattle.std.proofs.lemmas.Bool.{cases_Bool, cases_lt, or_parts}
use Rattle.laws.proofs.ListLaws.{any_append, length-up_from, get_or-up_from, get_or_any}
use Rattle.laws.proofs.Members.{elem-sort}
use Rattle.std.specs.Prelude.{Ok}
use Rattle.laws.proofs.Tables.{answered_done}
use Rattle.floats.specs.Floats.{zero64}
use Rattle.geometry.specs.Coordinates.{node_count}
use Rattle.mesh.specs.Model.{Model, cells_of}
use Rattle.snap.specs.Weld.{before_of, far_of, near_of, takes, groups, least, give, spread, welded, welded_by}
use Rattle.welding.specs.Used.{used_nodes, welded_used, welds_of}
use Rattle.welding.specs.Welding.{weld_refusal, Welding}
use Rattle.welding.proofs.Used.{length_welds}

module _ (a : ℕ) where
  -- what is no member of sorted nodes is none of a group
  out_cond : (b : Bool) (l m : List ℕ) → elem a l ≡ false → elem a m ≡ false → elem a (cond b l m) ≡ false
  out_cond true l m h k = h
  out_cond false l m h k = k

  out_append : (l m : List ℕ) → elem a l ≡ false → elem a m ≡ false → elem a (l ++ m) ≡ false
  out_append l m h k = any_append (eqb a) l m ∙ rw (h, k)

  out_one : (b : Bool) (x : ℕ) → eqb a x ≡ false → elem a (only_if b (x ∷ [])) ≡ false
  out_one true x h = rw h
  out_one false x h = refl

  module _ (c : List Float) (t : Float) where
    takes_out : (n : ℕ) (p : ℕ → Bool) (l : List ℕ) → elem a l ≡ false → elem a (takes c t n p l) ≡ false
    takes_out n p [] h = refl
    takes_out n p (x ∷ l) h =
        let s = or_parts (eqb a x) (elem a l) h in
        let r = takes_out n p l s.1 in
        out_cond (p x) (takes c t n p l) _ r (out_cond (far_of c t n x) [] _ refl (out_append (only_if (near_of c t n x) (x ∷ [])) (takes c t n p l) (out_one (near_of c t n x) x s.0) r))

    groups_out : (p : ℕ → Bool) (l : List ℕ) → elem a l ≡ false → any (elem a) (groups c t p l) ≡ false
    groups_out p [] h = refl
    groups_out p (x ∷ l) h = go (cases_Bool (p x)) (or_parts (eqb a x) (elem a l) h) (λ q. groups_out q l)
      where
        go : (p x ≡ true) ⊎ (p x ≡ false) → (eqb a x ≡ false) × (elem a l ≡ false) → ((q : ℕ → Bool) → elem a l ≡ false → any (elem a) (groups c t q l) ≡ false) → any (elem a) (groups c t p (x ∷ l)) ≡ false
        go (inl s) q ih = rw s (ih p q.1)
        go (inr s) q ih = rw (s, q.0, takes_out x p l q.1) (ih (λ k. elem k (x ∷ takes c t x p l) || p k) q.1)

  -- nor does a group change its number
  give_out : (v d : ℕ) (g l : List ℕ) → elem a g ≡ false → get_or (give v g l) a d ≡ get_or l a d
  give_out v d [] l h = refl
  give_out v d (x ∷ g) l h = let s = or_parts (eqb a x) (elem a g) h in give_out v d g (set l x v) s.1 ∙ get_or-set_other l x a v d (eqb-false a x s.0)

  spread_out : (d : ℕ) (gs : List (List ℕ)) (l : List ℕ) → any (elem a) gs ≡ false → get_or (spread gs l) a d ≡ get_or l a d
  spread_out d [] l h = refl
  spread_out d (g ∷ gs) l h = let s = or_parts (elem a g) (any (elem a) gs) h in spread_out d gs (give (least g) g l) s.1 ∙ give_out (least g) d g l s.0

  itself : (n : ℕ) → get_or (up_from 0 n) a a ≡ a
  itself n = go (cases_lt a n)
    where
      go : (a < n) ⊎ (n ≤ a) → get_or (up_from 0 n) a a ≡ a
      go (inl h) = get_or-up_from 0 n a a h ∙ zero-add a
      go (inr h) = get_or-eq_default (up_from 0 n) a (omega (arith, length-up_from 0 n))

  welded_out : (c : List Float) (t : Float) (n : ℕ) (l : List ℕ) → elem a l ≡ false → welded_by (welded c t n l) a ≡ a
  unfolding welded
  welded_out c t n l h = go (eq t zero64)
    where
      go : (b : Bool) → get_or (cond b (up_from 0 n) (spread (groups c t (λ k. false) (sort (before_of c) l)) (up_from 0 n))) a a ≡ a
      go true = itself n
      go false = spread_out a (groups c t (λ k. false) (sort (before_of c) l)) (up_from 0 n) (groups_out c t (λ k. false) (sort (before_of c) l) (elem-sort (before_of c) a l ∙ h)) ∙ itself n

-- a node that no cell names keeps its own number
pub loose_stays : (m : Model) (a : ℕ) → elem a (used_nodes (cells_of m)) ≡ false → welded_by (welds_of m) a ≡ a
unfolding welded_used
loose_stays m a h = welded_out a m.coords m.tolerance (node_count m.coords) (used_nodes (cells_of m)) h

-- so it does in the map that welding fills
pub loose_in_map : (m : Model) (map map' scratch scratch' : List ℕ) (a : ℕ) → Welding m map map' scratch scratch' (Ok tt) → elem a (used_nodes (cells_of m)) ≡ false
    → a < node_count m.coords → get_or map' a 0 ≡ a
loose_in_map m map map' scratch scratch' a p h k =
    let e = (answered_done (weld_refusal m map scratch) tt tt p.answered).0 in
    let long : a < length (welds_of m) = omega (arith, length_welds m.coords m.tolerance (cells_of m)) in
    let filled : map' ≡ welds_of m ++ drop (length (welds_of m)) map = p.memory.map_is ∙ rw e in
    ap (λ (l : List ℕ). get_or l a 0) filled ∙ get_or-append (welds_of m) (drop (length (welds_of m)) map) 0 a long ∙ get_or_any (welds_of m) a 0 a long
    ∙ loose_stays m a h
