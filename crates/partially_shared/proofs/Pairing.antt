-- The marks tell the partly shared pairs of the definition.
use Prim.Native.Nat.{ℕ, ◌+◌, ◌-◌, ◌≤◌, ◌<◌}
use mathlib.Core.Path.{◌≡◌, refl, sym, ap, ap₂, ◌∙◌}
use mathlib.Core.Logic.{◌⊎◌, inl, inr}
use mathlib.Core.Bool.{Bool, true, false, not, ◌&&◌}
use mathlib.Core.List.{List, [], ◌∷◌, ◌++◌, map, map-map}
use native.Mathlib.Omega.{arith}
use borrow.Author.Tests.{leb-true, ltb-true, eqb-true, lt-ltb, le-leb, ne_eqb}
use lib.Dec.{leb, ltb, eqb}
use Rattle.laws.specs.Lists.{only_if, first, each, keep, elem, up_from}
use Rattle.laws.proofs.Tests.{both_ways, eqb_self}
use Rattle.std.proofs.lemmas.Bool.{and_parts, cases_Bool}
use Rattle.laws.proofs.ListLaws.{each_append, each_ext, each_map, map_each, map-only_if, keep-map, each_agree}
use Rattle.laws.proofs.Ascending.{asc_ext, asc_keep, asc_up_from, elem-keep, elem-up_from}
use Rattle.mesh.specs.Rings.{Face, node_set}
use Rattle.findings.specs.Findings.{Rules, meeting, meets, common as ringCommon, sharing as ringSharing}
use Rattle.index.specs.Faces.{cell_of, bow_of, nodes_of}
use Rattle.seek.specs.Candidates.{common, sharing, shares, candidates}
use Rattle.layout.specs.declared.Layout.{Layout}
use Rattle.layout.specs.Tables.{ring_row, face_row, first_of, faces_of_cell, Faced}
use Rattle.layout.specs.ByCell.{pair_found, pair_cells}
use Rattle.layout.proofs.Owning.{first_mono, cell_range}
use Rattle.partially_shared.specs.Hits.{spans_at, passing, face_hits, cell_hits, hit_of}

-- ---- lists

each-each : {A B C : Type 0} (f : B → List C) (g : A → List B) (l : List A) → each f (each g l) ≡ each (λ x. each f (g x)) l
each-each f g [] = refl
each-each f g (x ∷ l) = each_append f (g x) (each g l) ∙ ap (λ r. each f (g x) ++ r) (each-each f g l)

each_nil : {A B : Type 0} (l : List A) → each {B = B} (λ x. []) l ≡ []
each_nil [] = refl
each_nil (x ∷ l) = each_nil l

first_map : {A B : Type 0} (h : A → B) (l : List A) → first (map h l) ≡ map h (first l)
first_map h [] = refl
first_map h (x ∷ l) = refl

-- pairs with f of those that pass
keep_pairs : {A B : Type 0} (q : A → Bool) (h : A → B) (l : List A) → each (λ g. only_if (q g) (h g ∷ [])) l ≡ map h (keep q l)
keep_pairs q h l = sym (map_each h (λ g. only_if (q g) (g ∷ [])) l ∙ each_ext (λ g. map-only_if h (q g) (g ∷ [])) l)

-- ---- the faces of b that meet face f

module _ (R : Rules) (l : Layout) (t : List ℕ) (F : Faced l t) where
  abbrev meets_at : ℕ → ℕ → Bool
  meets_at f g = meets R.spans (ring_row l t f) (ring_row l t g)

  abbrev plain : ℕ → Bool
  plain c = not (bow_of l.at t c)

  abbrev faces_from : ℕ → List ℕ
  faces_from c = up_from (first_of l t c) (first_of l t (c + 1) - first_of l t c)

  -- the condition over node sets is that over rings
  rings_meet : (r s : List ℕ) → (sharing (node_set r) (node_set s) && R.spans (common (node_set r) (node_set s))) ≡ meets R.spans r s
  unfolding meets ringSharing ringCommon sharing common
  rings_meet r s = refl

  meets_is : (f g : ℕ) → f < l.at.faces → g < l.at.faces → (sharing (nodes_of l.at t f) (nodes_of l.at t g) && spans_at R l t f g) ≡ meets_at f g
  unfolding spans_at
  meets_is f g a b =
      ap₂ (λ (x y : List ℕ). sharing x y && R.spans (common x y)) (F.noded f a) (F.noded g b) ∙ rings_meet (ring_row l t f) (ring_row l t g)

  pub common_is : (f g : ℕ) → f < l.at.faces → g < l.at.faces → common (nodes_of l.at t f) (nodes_of l.at t g) ≡ ringCommon (ring_row l t f) (ring_row l t g)
  unfolding ringCommon common
  common_is f g a b = ap₂ (λ (x y : List ℕ). keep (λ n. elem n y) x) (F.noded f a) (F.noded g b)

  module _ (c b : ℕ) (low : c < b) (top : b < l.at.cell_count) where
    abbrev both : Bool
    both = plain c && plain b

    -- for face f of c
    module _ (f : ℕ) (from : first_of l t c ≤ f) (to : f < first_of l t (c + 1)) where
      f_cell : cell_of l.at t f ≡ c
      f_cell = F.owned c f (omega (arith, low, top)) from to

      f_low : f < l.at.faces
      f_low =
          let k : c + 1 + (l.at.cell_count - (c + 1)) ≡ l.at.cell_count = omega (arith, low, top) in
          let q = ap (first_of l t) k ∙ F.first_last in
          omega (arith, to, first_mono l t F (l.at.cell_count - (c + 1)) (c + 1) (omega (arith, k)), q)

      -- g passes the search, and is of b
      abbrev sought : ℕ → Bool
      sought g = eqb (cell_of l.at t g) b && (spans_at R l t f g && shares l.at t f g)

      -- g meets f, and no cell is a bow-tie
      abbrev wanted : ℕ → Bool
      wanted g = both && meets_at f g

      -- a face of b comes after f and is of another cell
      b_face : (g : ℕ) → first_of l t b ≤ g → g < first_of l t (b + 1) → (f < g) × (g < l.at.faces) × (cell_of l.at t g ≡ b)
      b_face g p q =
          let j : c + 1 + (b - (c + 1)) ≡ b = omega (arith, low) in
          let x = ap (first_of l t) j in
          let k : b + 1 + (l.at.cell_count - (b + 1)) ≡ l.at.cell_count = omega (arith, top) in
          let y = ap (first_of l t) k ∙ F.first_last in (
            omega (arith, to, first_mono l t F (b - (c + 1)) (c + 1) (omega (arith, j, top)), x, p),
            omega (arith, q, first_mono l t F (l.at.cell_count - (b + 1)) (b + 1) (omega (arith, k)), y),
            F.owned b g top p q,
          )

      -- there the two tests agree
      agree : (g : ℕ) → first_of l t b ≤ g → g < first_of l t (b + 1) → sought g ≡ wanted g
      unfolding shares
      agree g p q =
          let h = b_face g p q in
          let e1 : eqb (cell_of l.at t g) b ≡ true = ap (λ (x : ℕ). eqb x b) h.2 ∙ eqb_self b in
          let e2 : ltb f g ≡ true = lt-ltb f g h.0 in
          let e3 : eqb (cell_of l.at t f) (cell_of l.at t g) ≡ false = ap₂ eqb f_cell h.2 ∙ ne_eqb c b (λ z. absurd (omega (arith, z, low))) in
          rw (e1, e2, e3, f_cell, h.2) (bools (spans_at R l t f g) (plain c) (plain b) (sharing (nodes_of l.at t f) (nodes_of l.at t g)) ∙ ap (λ (x : Bool). both && x) (meets_is f g f_low h.1))
        where
          bools : (s x y z : Bool) → (s && (x && y && z)) ≡ ((x && y) && (z && s))
          bools true true true true = refl
          bools true true true false = refl
          bools true true false true = refl
          bools true true false false = refl
          bools true false y z = refl
          bools false true true true = refl
          bools false true true false = refl
          bools false true false z = refl
          bools false false y z = refl

      -- a number is among the faces of b
      in_b_lem : (g : ℕ) → elem g (faces_from b) ≡ true → (first_of l t b ≤ g) × (g < first_of l t (b + 1))
      in_b_lem g e =
          let p = and_parts (leb (first_of l t b) g) (ltb g (first_of l t b + (first_of l t (b + 1) - first_of l t b))) (sym (elem-up_from g (first_of l t b) (first_of l t (b + 1) - first_of l t b)) ∙ e) in
          (leb-true (first_of l t b) g p.0, omega (arith, ltb-true g (first_of l t b + (first_of l t (b + 1) - first_of l t b)) p.1, leb-true (first_of l t b) g p.0))

      b_in : (g : ℕ) → first_of l t b ≤ g → g < first_of l t (b + 1) → elem g (faces_from b) ≡ true
      b_in g p q =
          elem-up_from g (first_of l t b) (first_of l t (b + 1) - first_of l t b)
          ∙ ap₂ (λ (x y : Bool). x && y) (le-leb (first_of l t b) g p) (lt-ltb g (first_of l t b + (first_of l t (b + 1) - first_of l t b)) (omega (arith, p, q)))

      abbrev in_b : ℕ → Bool
      in_b g = eqb (cell_of l.at t g) b

      -- what the search gives of b is what meets f there
      row_same : keep in_b (keep (spans_at R l t f) (candidates l.at t f)) ≡ keep wanted (faces_from b)
      unfolding candidates
      row_same = asc_ext (keep in_b (keep (spans_at R l t f) (keep (shares l.at t f) all))) (keep wanted (faces_from b))
          (asc_keep in_b (keep (spans_at R l t f) (keep (shares l.at t f) all)) (asc_keep (spans_at R l t f) (keep (shares l.at t f) all) (asc_keep (shares l.at t f) all (asc_up_from 0 l.at.faces))))
          (asc_keep wanted (faces_from b) (asc_up_from (first_of l t b) (first_of l t (b + 1) - first_of l t b)))
          (λ g. left g ∙ both_ways (in_b g && (spans_at R l t f g && (shares l.at t f g && elem g all))) (wanted g && elem g (faces_from b)) (to_b g) (from_b g) ∙ sym (elem-keep g wanted (faces_from b)))
        where
          all : List ℕ
          all = up_from 0 l.at.faces

          left : (g : ℕ) → elem g (keep in_b (keep (spans_at R l t f) (keep (shares l.at t f) all))) ≡ (in_b g && (spans_at R l t f g && (shares l.at t f g && elem g all)))
          left g =
              elem-keep g in_b (keep (spans_at R l t f) (keep (shares l.at t f) all))
              ∙ ap (λ (x : Bool). in_b g && x) (elem-keep g (spans_at R l t f) (keep (shares l.at t f) all) ∙ ap (λ (x : Bool). spans_at R l t f g && x) (elem-keep g (shares l.at t f) all))

          to_b : (g : ℕ) → (in_b g && (spans_at R l t f g && (shares l.at t f g && elem g all))) ≡ true → (wanted g && elem g (faces_from b)) ≡ true
          to_b g e =
              let p = and_parts (in_b g) (spans_at R l t f g && (shares l.at t f g && elem g all)) e in
              let q = and_parts (spans_at R l t f g) (shares l.at t f g && elem g all) p.1 in
              let r = and_parts (shares l.at t f g) (elem g all) q.1 in
              let is : cell_of l.at t g ≡ b = eqb-true (cell_of l.at t g) b p.0 in
              let few = ltb-true g (0 + l.at.faces) (and_parts (leb 0 g) (ltb g (0 + l.at.faces)) (sym (elem-up_from g 0 l.at.faces) ∙ r.1)).1 in
              let range = cell_range l t F g (omega (arith, few)) in
              let lo : first_of l t b ≤ g = omega (arith, range.0, ap (first_of l t) is) in
              let hi : g < first_of l t (b + 1) = omega (arith, range.1, ap (λ (x : ℕ). first_of l t (x + 1)) is) in
              let s : sought g ≡ true = ap₂ (λ (x y : Bool). x && y) p.0 (ap₂ (λ (x y : Bool). x && y) q.0 r.0) in
              ap₂ (λ (x y : Bool). x && y) (sym (agree g lo hi) ∙ s) (b_in g lo hi)

          from_b : (g : ℕ) → (wanted g && elem g (faces_from b)) ≡ true → (in_b g && (spans_at R l t f g && (shares l.at t f g && elem g all))) ≡ true
          from_b g e =
              let p = and_parts (wanted g) (elem g (faces_from b)) e in
              let range = in_b_lem g p.1 in
              let s = agree g range.0 range.1 ∙ p.0 in
              let q = and_parts (in_b g) (spans_at R l t f g && shares l.at t f g) s in
              let r = and_parts (spans_at R l t f g) (shares l.at t f g) q.1 in
              let few = (b_face g range.0 range.1).1 in
              let i : elem g all ≡ true = elem-up_from g 0 l.at.faces ∙ ap₂ (λ (x y : Bool). x && y) (le-leb 0 g (omega arith)) (lt-ltb g (0 + l.at.faces) (omega (arith, few))) in
              ap₂ (λ (x y : Bool). x && y) q.0 (ap₂ (λ (x y : Bool). x && y) r.0 (ap₂ (λ (x y : Bool). x && y) r.1 i))

    -- the face pairs of c and b that meet, by numbers
    abbrev meet_nums : List (ℕ × ℕ)
    meet_nums = each (λ f. map (λ g. (f, g)) (keep (meets_at f) (faces_from b))) (faces_from c)

    -- the pairs that the search gives of b are these, where no cell is a bow-tie
    pub hit_b : hit_of l t b (cell_hits R l t c) ≡ only_if both (first meet_nums)
    unfolding hit_of cell_hits face_hits passing
    hit_b = ap first (each-each (λ (h : ℕ × ℕ). only_if (eqb (cell_of l.at t h.1) b) (h ∷ [])) (face_hits R l t) (faces_from c) ∙ each_agree one two (first_of l t c) (first_of l t (c + 1) - first_of l t c) row) ∙ ends (cases_Bool both)
      where
        one : ℕ → List (ℕ × ℕ)
        one f = keep (λ (h : ℕ × ℕ). eqb (cell_of l.at t h.1) b) (map (λ g. (f, g)) (keep (spans_at R l t f) (candidates l.at t f)))

        two : ℕ → List (ℕ × ℕ)
        two f = map (λ g. (f, g)) (keep (λ g. both && meets_at f g) (faces_from b))

        row : (f : ℕ) → first_of l t c ≤ f → f < first_of l t c + (first_of l t (c + 1) - first_of l t c) → one f ≡ two f
        row f p q =
            keep-map (λ (h : ℕ × ℕ). eqb (cell_of l.at t h.1) b) (λ g. (f, g)) (keep (spans_at R l t f) (candidates l.at t f))
            ∙ ap (map (λ g. (f, g))) (row_same f p (omega (arith, p, q)))

        ends : (both ≡ true) ⊎ (both ≡ false) → first (each two (faces_from c)) ≡ only_if both (first meet_nums)
        ends (inl e) =
            ap (λ (x : Bool). first (each (λ f. map (λ g. (f, g)) (keep (λ g. x && meets_at f g) (faces_from b))) (faces_from c))) e
            ∙ sym (ap (λ (x : Bool). only_if x (first meet_nums)) e)
        ends (inr e) =
            ap (λ (x : Bool). first (each (λ f. map (λ g. (f, g)) (keep (λ g. x && meets_at f g) (faces_from b))) (faces_from c))) e
            ∙ ap first (each_ext (λ f. ap (map (λ g. (f, g))) (each_nil (faces_from b))) (faces_from c) ∙ each_nil (faces_from c))
            ∙ sym (ap (λ (x : Bool). only_if x (first meet_nums)) e)

    -- the faces of two numbers
    abbrev both_rows : ℕ × ℕ → Face × Face
    both_rows h = (face_row l t h.0, face_row l t h.1)

    -- the face pairs that meet, as faces
    rows : meeting R (map (face_row l t) (faces_from c)) (map (face_row l t) (faces_from b)) ≡ map both_rows meet_nums
    unfolding meeting face_row
    rows =
        each_map (λ (f : Face). each (λ (g : Face). only_if (meets R.spans f.ring g.ring) ((f, g) ∷ [])) (map (face_row l t) (faces_from b))) (face_row l t) (faces_from c)
        ∙ each_ext (λ f. each_map (λ (g : Face). only_if (meets R.spans (ring_row l t f) g.ring) ((face_row l t f, g) ∷ [])) (face_row l t) (faces_from b)
        ∙ keep_pairs (meets_at f) (λ g. (face_row l t f, face_row l t g)) (faces_from b) ∙ sym (map-map both_rows (λ g. (f, g)) (keep (meets_at f) (faces_from b)))) (faces_from c)
        ∙ sym (map_each both_rows (λ f. map (λ g. (f, g)) (keep (meets_at f) (faces_from b))) (faces_from c))

    -- the pairs of the definition are those that the search gives
    pub pairs_b : pair_cells R l t c b ≡ map (λ (h : ℕ × ℕ). pair_found c b (both_rows h)) (hit_of l t b (cell_hits R l t c))
    unfolding pair_cells faces_of_cell
    pairs_b =
        ap (λ (x : List (Face × Face)). only_if both (map (pair_found c b) (first x))) rows
        ∙ ap (λ (x : List (Face × Face)). only_if both (map (pair_found c b) x)) (first_map both_rows meet_nums)
        ∙ ap (only_if both) (map-map (pair_found c b) both_rows (first meet_nums))
        ∙ sym (map-only_if (λ (h : ℕ × ℕ). pair_found c b (both_rows h)) both (first meet_nums))
        ∙ ap (map (λ (h : ℕ × ℕ). pair_found c b (both_rows h))) (sym hit_b)
