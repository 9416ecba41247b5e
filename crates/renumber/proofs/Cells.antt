-- Cells whose words go along: their rings, bow-ties and repeated nodes go along.
use Prim.Native.Nat.{ℕ, ◌-◌, ◌≤◌, ◌<◌}
use mathlib.Core.Path.{◌≡◌, refl, sym, ap, ap₂, ◌∙◌, subst}
use mathlib.Core.Logic.{◌⊎◌, inl, inr}
use mathlib.Core.Bool.{Bool, true, false, not, cond, ◌&&◌, ◌||◌, and-true}
use mathlib.Core.List.{List, [], ◌∷◌, map}
use native.Mathlib.Omega.{arith}
use borrow.Author.Tests.{leb-false, eqb-true, eqb-false, ne_eqb, not-true, not-false}
use lib.Dec.{leb, ltb, eqb}
use lib.ListN.{length, get_or}
use lib.Ieee.{Float}
use Rattle.laws.specs.Lists.{any}
use Rattle.laws.specs.Merging.{AllBelow}
use Rattle.std.proofs.lemmas.Bool.{cases_Bool, or_parts}
use Rattle.geometry.specs.declared.Point.{Point}
use Rattle.geometry.specs.Points.{point_at, points_of, centre_of, midpoint_of}
use Rattle.area.specs.AreaTest.{area_of, is_spans}
use Rattle.bow_tie.specs.BowTie.{bow_tie_of}
use Rattle.mesh.specs.Model.{Raw, TET4, HEX8, WEDGE6, PHED, cells_from}
use Rattle.mesh.specs.Rings.{separator, nodes_in, tet_rings, hex_rings, wedge_rings, at, onto, runs, rings_of}
use Rattle.mesh.specs.Acceptance.{node_off}
use Rattle.mesh.proofs.Accepts.{cell_wrong}
use Rattle.findings.specs.Rules.{pair_le, pair_of, repeat_at, repeats_of, bow_of, rules_with}
use Rattle.snap.specs.Weld.{welded_by}
use Rattle.renumber.proofs.Alike.{Alike, empty, link, length_alike, take_alike, drop_alike, last_alike, get_or_alike, map_alike, map_same, walk_alike, any_alike, keep-into, keep_alike, distinct_alike, with_none, alike_imp}
use Rattle.renumber.proofs.Numbers.{eqb_agree, ltb_agree}
use Rattle.renumber.proofs.Findings.{Both, RulesAlike}

-- ---- words

-- a separator and a separator, or two nodes that go along
abbrev pub Word : (ℕ → ℕ → Type 0) → ℕ → ℕ → Type 0
Word E w v = ((w ≡ separator) × (v ≡ separator)) ⊎ E w v

-- two cells whose words go along, the first of them accepted among n nodes
pub record RawAlike (n : ℕ) (E : ℕ → ℕ → Type 0) (a b : Raw) : Type 0 where
  pub kind : a.kind ≡ b.kind
  pub words : Alike (Word E) a.words b.words
  pub right : cell_wrong n a ≡ false

module _ (n : ℕ) (E : ℕ → ℕ → Type 0) (mono : (a b x y : ℕ) → E a x → E b y → leb a b ≡ leb x y) (few : n ≤ separator)
    (apart : (a x : ℕ) → E a x → (a < separator) × (x < separator)) where
  -- both are separators or neither
  separators : (w v : ℕ) → Word E w v → eqb w separator ≡ eqb v separator
  separators w v (inl e) = ap (λ k. eqb k separator) (e.0 ∙ sym e.1)
  separators w v (inr e) = ne_eqb w separator (λ q. omega (arith, (apart w v e).0)) ∙ sym (ne_eqb v separator (λ q. omega (arith, (apart w v e).1)))

  -- a word that is no separator
  node : (w v : ℕ) → Word E w v → eqb w separator ≡ false → E w v
  node w v (inl e) s = absurd (eqb-false w separator s e.0)
  node w v (inr e) s = e

  -- the nodes among words
  pub nodes_alike : {ws vs : List ℕ} → Alike (Word E) ws vs → Alike E (nodes_in ws) (nodes_in vs)
  nodes_alike g =
      keep-into (λ w. not (eqb w separator)) (λ w. not (eqb w separator)) (λ w v e. ap not (separators w v e))
      (λ w v e t. node w v e (not-true (eqb w separator) t)) g

  -- words of a cell that is no PHED are nodes
  plain : (k : ℕ) → eqb k PHED ≡ false → {ws vs : List ℕ} → any (node_off n k) ws ≡ false → Alike (Word E) ws vs → Alike E ws vs
  plain k s {ws} {vs} off g = alike_imp (λ w v e. node w v e.0 (ne_eqb w separator (λ q. omega (arith, low w e.1)))) (with_none (node_off n k) off g)
    where
      low : (w : ℕ) → node_off n k w ≡ false → w < n
      low w o = leb-false n w (sym (and-true (leb n w)) ∙ (rw s at o))

  -- ---- rings

  onto_alike : {w v : ℕ} → E w v → {rs ss : List (List ℕ)} → Alike (Alike E) rs ss → Alike (Alike E) (onto w rs) (onto v ss)
  onto_alike e empty = link (link e empty) empty
  onto_alike e (link g r) = link (link e g) r

  pub runs_alike : {ws vs : List ℕ} → Alike (Word E) ws vs → Alike (Alike E) (runs ws) (runs vs)
  runs_alike empty = link empty empty
  runs_alike (link {a = w} {b = v} {l = ws} {m = vs} e r) =
      subst (λ (t : Bool). Alike (Alike E) (cond (eqb w separator) ([] ∷ runs ws) (onto w (runs ws))) (cond t ([] ∷ runs vs) (onto v (runs vs))))
      (separators w v e) (go (cases_Bool (eqb w separator)) (runs_alike r))
    where
      go : (eqb w separator ≡ true) ⊎ (eqb w separator ≡ false) → Alike (Alike E) (runs ws) (runs vs)
          → Alike (Alike E) (cond (eqb w separator) ([] ∷ runs ws) (onto w (runs ws))) (cond (eqb w separator) ([] ∷ runs vs) (onto v (runs vs)))
      go (inl s) h = rw s (link empty h)
      go (inr s) h = rw s (onto_alike (node w v e s) h)

  -- all places of these rings are below k
  abbrev Places : ℕ → List (List ℕ) → Type 0
  Places k [] = Unit {0}
  Places k (r ∷ rs) = AllBelow k r × Places k rs

  ring_at : {ws vs : List ℕ} → Alike E ws vs → (r : List ℕ) → AllBelow (length ws) r → Alike E (map (λ i. get_or ws i 0) r) (map (λ i. get_or vs i 0) r)
  ring_at g [] h = empty
  ring_at g (i ∷ r) h = link (get_or_alike g i 0 0 h.0) (ring_at g r h.1)

  at_alike : {ws vs : List ℕ} → Alike E ws vs → (rs : List (List ℕ)) → Places (length ws) rs → Alike (Alike E) (at ws rs) (at vs rs)
  at_alike g [] h = empty
  at_alike g (r ∷ rs) h = link (ring_at g r h.0) (at_alike g rs h.1)

  -- the rings of a cell with so many words
  fixed : (k size : ℕ) → eqb k PHED ≡ false → (rs : List (List ℕ)) → Places size rs → (ws vs : List ℕ) → Alike (Word E) ws vs
      → (not (eqb (length ws) size) || any (node_off n k) ws) ≡ false → Alike (Alike E) (at ws rs) (at vs rs)
  fixed k size s rs h ws vs g wrong =
      let p = or_parts (not (eqb (length ws) size)) (any (node_off n k) ws) wrong in
      let len : length ws ≡ size = eqb-true (length ws) size (not-false (eqb (length ws) size) p.0) in
      at_alike (plain k s p.1 g) rs (subst (λ (j : ℕ). Places j rs) (sym len) h)

  -- the rings of words of a kind
  abbrev cell : ℕ → List ℕ → Raw
  cell k ws = record { kind = k; words = ws }

  rings_of_lem : (k : ℕ) (ws vs : List ℕ) → Alike (Word E) ws vs → cell_wrong n (cell k ws) ≡ false → Alike (Alike E) (rings_of (cell k ws)) (rings_of (cell k vs))
  unfolding rings_of cell_wrong
  rings_of_lem k ws vs g wrong = go (cases_Bool (eqb k TET4)) (cases_Bool (eqb k HEX8)) (cases_Bool (eqb k WEDGE6)) (cases_Bool (eqb k PHED))
    where
      Ringed : ℕ → Type 0
      Ringed j = cell_wrong n (cell j ws) ≡ false → Alike (Alike E) (rings_of (cell j ws)) (rings_of (cell j vs))

      go : (eqb k TET4 ≡ true) ⊎ (eqb k TET4 ≡ false) → (eqb k HEX8 ≡ true) ⊎ (eqb k HEX8 ≡ false)
          → (eqb k WEDGE6 ≡ true) ⊎ (eqb k WEDGE6 ≡ false) → (eqb k PHED ≡ true) ⊎ (eqb k PHED ≡ false)
          → Alike (Alike E) (rings_of (cell k ws)) (rings_of (cell k vs))
      go (inl a) b c d = subst (λ (j : ℕ). Ringed j) (sym (eqb-true k TET4 a)) (λ w. fixed 1 4 refl tet_rings (omega arith) ws vs g w) wrong
      go (inr a) (inl b) c d = subst (λ (j : ℕ). Ringed j) (sym (eqb-true k HEX8 b)) (λ w. fixed 2 8 refl hex_rings (omega arith) ws vs g w) wrong
      go (inr a) (inr b) (inl c) d = subst (λ (j : ℕ). Ringed j) (sym (eqb-true k WEDGE6 c)) (λ w. fixed 3 6 refl wedge_rings (omega arith) ws vs g w) wrong
      go (inr a) (inr b) (inr c) (inl d) =
          subst (λ (j : ℕ). Ringed j) (sym (eqb-true k PHED d))
          (λ w. keep_alike (λ r. leb 3 (length r)) (λ r. leb 3 (length r)) (λ r s e. ap (leb 3) (length_alike e)) (runs_alike g)) wrong
      go (inr a) (inr b) (inr c) (inr d) = rw (a, b, c, d) empty

  pub rings_alike : (a b : Raw) → RawAlike n E a b → Alike (Alike E) (rings_of a) (rings_of b)
  rings_alike a b h =
      subst (λ (j : ℕ). Alike (Alike E) (rings_of a) (rings_of (cell j b.words))) h.kind
      (rings_of_lem a.kind a.words b.words h.words h.right)

  -- ---- repeated nodes

  pair_le_agree : (p q u v : ℕ × ℕ) → Both E p u → Both E q v → pair_le p q ≡ pair_le u v
  pair_le_agree p q u v e f =
      λ i. ltb_agree E mono p.0 q.0 u.0 v.0 e.0 f.0 i
      || (eqb_agree E mono p.0 q.0 u.0 v.0 e.0 f.0 i && mono p.1 q.1 u.1 v.1 e.1 f.1 i)

  pair_alike : (a b x y : ℕ) → E a x → E b y → Both E (pair_of a b) (pair_of x y)
  pair_alike a b x y e f = subst (λ (t : Bool). Both E (pair_of a b) (cond t (x, y) (y, x))) (ltb_agree E mono a b x y e f) (go (ltb a b))
    where
      go : (t : Bool) → Both E (cond t (a, b) (b, a)) (cond t (x, y) (y, x))
      go true = (e, f)
      go false = (f, e)

  module _ (weld weld' : ℕ → ℕ) (same : (a x : ℕ) → E a x → E (weld a) (weld' x)) where
    repeat_at_alike : (p p' : List ℕ) (a x : ℕ) → Alike E p p' → E a x → Alike (Both E) (repeat_at weld p a) (repeat_at weld' p' x)
    repeat_at_alike p p' a x g e =
        map_alike (pair_of a) (pair_of x) (λ b y f. pair_alike a b x y e f)
        (keep_alike (λ b. not (eqb b a)) (λ y. not (eqb y x)) (λ b y f. ap not (eqb_agree E mono b a y x f e))
        (last_alike (keep_alike (λ b. eqb (weld b) (weld a)) (λ y. eqb (weld' y) (weld' x))
        (λ b y f. eqb_agree E mono (weld b) (weld a) (weld' y) (weld' x) (same b y f) (same a x e)) g)))

    repeats_alike : {ws vs : List ℕ} → Alike (Word E) ws vs → Alike (Both E) (repeats_of weld ws) (repeats_of weld' vs)
    unfolding repeats_of
    repeats_alike g =
        distinct_alike pair_le pair_le pair_le_agree
        (walk_alike (λ before a after. repeat_at weld before a) (λ before x after. repeat_at weld' before x)
        (λ p p' a x q q' u e v. repeat_at_alike p p' a x u e) (nodes_alike g) empty)

  -- ---- the rules of two models

  module _ (c d : List Float) (tol : Float) (point : (a x : ℕ) → E a x → point_at c a ≡ point_at d x) (welds welds' : List ℕ)
      (same : (a x : ℕ) → E a x → E (welded_by welds a) (welded_by welds' x)) where
    points_same : {l m : List ℕ} → Alike E l m → points_of c l ≡ points_of d m
    points_same g = map_same (point_at c) (point_at d) point g

    bow_same : (a b : Raw) → RawAlike n E a b → bow_of c tol (welded_by welds) a ≡ bow_of d tol (welded_by welds') b
    unfolding bow_of
    bow_same a b h =
        any_alike (λ r. bow_tie_of tol (points_of c (map (welded_by welds) r))) (λ r. bow_tie_of tol (points_of d (map (welded_by welds') r)))
        (λ r s g. ap (bow_tie_of tol) (points_same (map_alike (welded_by welds) (welded_by welds') same g))) (rings_alike a b h)

    pub rules_alike : RulesAlike E (RawAlike n E) (rules_with c tol welds) (rules_with d tol welds')
    unfolding rules_with
    rules_alike =
        record {
          rings = rings_alike;
          bow = bow_same;
          spans = λ l m g. ap (λ (ps : List Point). is_spans (area_of tol ps)) (points_same g);
          repeats = λ a b h. repeats_alike (welded_by welds) (welded_by welds') same h.words;
          centre = λ l m g. ap centre_of (points_same g);
          middle = λ a b x y e f. ap₂ midpoint_of (point a x e) (point b y f);
        }

  -- ---- the cells of two models

  abbrev Read : Raw → Raw → Type 0
  Read a b = (a.kind ≡ b.kind) × Alike (Word E) a.words b.words

  cells_from_lem : (at : ℕ) (ks es : List ℕ) {ws vs : List ℕ} → Alike (Word E) ws vs → Alike Read (cells_from at ks es ws) (cells_from at ks es vs)
  cells_from_lem at [] es g = empty
  cells_from_lem at (k ∷ ks) [] g = empty
  cells_from_lem at (k ∷ ks) (e ∷ es) g = link (refl, take_alike (e - at) g) (cells_from_lem e ks es (drop_alike (e - at) g))

  pub cells_alike : (at : ℕ) (ks es : List ℕ) {ws vs : List ℕ} → any (cell_wrong n) (cells_from at ks es ws) ≡ false → Alike (Word E) ws vs
      → Alike (RawAlike n E) (cells_from at ks es ws) (cells_from at ks es vs)
  cells_alike at ks es right g =
      alike_imp (λ a b h. record { kind = h.0.0; words = h.0.1; right = h.1 }) (with_none (cell_wrong n) right (cells_from_lem at ks es g))
