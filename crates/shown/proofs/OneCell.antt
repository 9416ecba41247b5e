-- What the tables tell of one cell, kind by kind, is what the definitions say of it.
use Prim.Native.Nat.{ℕ, ◌+◌, ◌-◌, ◌<◌}
use mathlib.Core.Path.{◌≡◌, sym, ap, ap₂, ◌∙◌}
use mathlib.Core.Bool.{Bool, not, ◌&&◌}
use mathlib.Core.List.{List, [], ◌∷◌, ◌++◌, map}
use native.Mathlib.Nat.{zero-add}
use native.Mathlib.Omega.{arith}
use lib.ListN.{length, get_or, take, drop, length-append, length-map, get_or-map}
use Rattle.laws.specs.Lists.{only_if, first, each, up_from}
use Rattle.laws.proofs.ListLaws.{length-up_from, get_or-up_from, each_agree}
use Rattle.mesh.specs.Model.{Model, Raw, cells_of}
use Rattle.mesh.specs.Rings.{Cell, Face, rings_of, faces_of, faces}
use Rattle.snap.specs.Weld.{welded_by}
use Rattle.findings.specs.Findings.{bowtie, repeated, over_at, meeting, partly_of, pair_at, kind1, kind2, kind3, kind4}
use Rattle.findings.specs.Rules.{repeats_of, rules_with, rules_of, cells_in}
use Rattle.findings.specs.Compared.{none}
use Rattle.index.specs.Faces.{bow_of}
use Rattle.layout.specs.declared.Layout.{Layout}
use Rattle.layout.specs.Tables.{first_of, face_row, faces_at, faces_of_cell}
use Rattle.layout.specs.ByCell.{plain_rules, bow_cell, over_face, over_cell, pair_found, pair_cells, partly_cell, repeat_cell}
use Rattle.layout.specs.Shown.{Shows}
use Rattle.shown.proofs.Parts.{map_agree, map_part, walk_part, each-drop}
use Rattle.shown.proofs.Numbered.{cells_long, num_in, raw_in, faces_before, faces_more, faces_around}

module _ (l : Layout) (t : List ℕ) where
  -- as many faces as the layout says
  faces_long : length (faces_at l t) ≡ l.at.faces
  unfolding faces_at
  faces_long = length-map (up_from 0 l.at.faces) (face_row l t) ∙ length-up_from 0 l.at.faces

  -- face g is the one at place g
  face_at_lem : (g : ℕ) → g < l.at.faces → face_row l t g ≡ get_or (faces_at l t) g (face_row l t 0)
  unfolding faces_at
  face_at_lem g h =
      ap (face_row l t) (sym (get_or-up_from 0 l.at.faces g 0 h ∙ zero-add g)) ∙ sym (get_or-map (face_row l t) (up_from 0 l.at.faces) g 0)

module _ (m : Model) (l : Layout) (t : List ℕ) (S : Shows m l t) (d : Cell) where
  -- the faces of the cells before cell c
  abbrev before : ℕ → List Face
  before c = faces rings_of (take c (cells_in m))

  -- its own faces
  abbrev own : ℕ → List Face
  own c = faces_of rings_of (get_or (cells_in m) c d)

  -- the faces of the cells after it
  abbrev after : ℕ → List Face
  after c = faces rings_of (drop (c + 1) (cells_in m))

  module _ (c : ℕ) (h : c < l.at.cell_count) where
    -- c is a cell of the model
    in_model : c < length (cells_of m)
    in_model = omega (arith, h, S.cells)

    -- its first face comes right after those of the cells before
    first_is : first_of l t c ≡ length (before c)
    first_is = S.firsts c (omega (arith, in_model)) ∙ sym (faces_before m c)

    -- up to the next cell's first there are as many faces as it has
    size_is : first_of l t (c + 1) - first_of l t c ≡ length (own c)
    size_is = omega (arith, first_is, S.firsts (c + 1) (omega (arith, in_model)), faces_before m (c + 1), faces_more m c d in_model)

    -- all faces, with its own between the others
    around : faces_at l t ≡ before c ++ (own c ++ after c)
    around = S.faces ∙ faces_around m c d in_model

    -- a face of c is a face
    face_in : (g : ℕ) → g < length (before c) + length (own c) → g < l.at.faces
    face_in g o =
        omega (arith, o, faces_long l t, ap length around, length-append (before c) (own c ++ after c), length-append (own c) (after c))

    -- the faces that the tables give c are its own
    faces_shown : faces_of_cell l t c ≡ own c
    unfolding faces_of_cell
    faces_shown =
        ap₂ (λ (i n : ℕ). map (face_row l t) (up_from i n)) first_is size_is
        ∙ map_agree (face_row l t) (λ g. get_or (before c ++ (own c ++ after c)) g (face_row l t 0)) (length (before c)) (length (own c))
        (λ g a b. face_at_lem l t g (face_in g b) ∙ ap (λ (fs : List Face). get_or fs g (face_row l t 0)) around)
        ∙ map_part (before c) (own c) (after c) (face_row l t 0)

    -- the tables mark c a bow-tie where the rules do
    bow_shown : bow_of l.at t c ≡ (rules_of m).bow (get_or (cells_in m) c d).raw
    bow_shown = S.bows c in_model ∙ ap (rules_of m).bow (sym (raw_in m c d in_model))

    -- kind 1 of cell c: the tables tell what the definition says
    pub bow_cell_lem : bow_cell l t c ≡ kind1 (rules_of m) (take c (cells_in m)) (get_or (cells_in m) c d) (drop (c + 1) (cells_in m))
    unfolding bow_cell kind1
    bow_cell_lem = ap₂ (λ (b : Bool) (n : ℕ). only_if b (bowtie n ∷ [])) bow_shown (sym (num_in m c d in_model))

    -- kind 2 of cell c: the tables tell what the definition says
    pub over_cell_lem : over_cell l t c ≡ kind2 (rules_of m) (take c (cells_in m)) (get_or (cells_in m) c d) (drop (c + 1) (cells_in m))
    unfolding over_cell over_face kind2 rules_of rules_with
    over_cell_lem =
        let W = before c ++ (own c ++ after c) in
        let e = face_row l t 0 in
        ap₂ (λ (i n : ℕ). each (over_face l t) (up_from i n)) first_is size_is
        ∙ each_agree (over_face l t) (λ g. over_at (take g W) (get_or W g e) (drop (g + 1) W)) (length (before c)) (length (own c))
        (λ g a b. ap (λ (f : Face). over_at (take g (faces_at l t)) f (drop (g + 1) (faces_at l t))) (face_at_lem l t g (face_in g b))
        ∙ ap (λ (fs : List Face). over_at (take g fs) (get_or fs g e) (drop (g + 1) fs)) around)
        ∙ sym (walk_part over_at (before c) (own c) (after c) e)

    -- kind 4 of cell c: the tables tell what the definition says
    pub repeat_cell_lem : repeat_cell l t c (get_or (cells_of m) c none).words ≡ kind4 (rules_of m) (take c (cells_in m)) (get_or (cells_in m) c d) (drop (c + 1) (cells_in m))
    unfolding repeat_cell kind4 rules_of rules_with
    repeat_cell_lem =
        ap (λ (ws : List ℕ). map (λ (p : ℕ × ℕ). repeated c p.0 p.1) (repeats_of (welded_by ws) (get_or (cells_of m) c none).words)) S.welds
        ∙ ap₂ (λ (n : ℕ) (r : Raw). map (λ (p : ℕ × ℕ). repeated n p.0 p.1) ((rules_of m).repeats r)) (sym (num_in m c d in_model)) (sym (raw_in m c d in_model))

  -- the pair of two cells: the tables tell what the definition says
  pair_shown : (c b : ℕ) → c < l.at.cell_count → b < l.at.cell_count
      → pair_cells (plain_rules m.coords m.tolerance) l t c b ≡ pair_at (rules_of m) (get_or (cells_in m) c d) (get_or (cells_in m) b d)
  unfolding pair_cells pair_at partly_of meeting rules_of rules_with
  pair_shown c b h k =
      let P = plain_rules m.coords m.tolerance in
      let R = rules_of m in
      let x = R.bow (get_or (cells_in m) c d).raw in
      let y = R.bow (get_or (cells_in m) b d).raw in
      ap₂ (λ (p q : Bool). only_if (not p && not q) (map (pair_found c b) (first (meeting P (faces_of_cell l t c) (faces_of_cell l t b))))) (bow_shown c h) (bow_shown b k)
      ∙ ap₂ (λ (fs gs : List Face). only_if (not x && not y) (map (pair_found c b) (first (meeting R fs gs)))) (faces_shown c h) (faces_shown b k)
      ∙ ap₂ (λ (i j : ℕ). only_if (not x && not y) (map (pair_found i j) (first (meeting R (own c) (own b))))) (sym (num_in m c d (in_model c h))) (sym (num_in m b d (in_model b k)))

  -- kind 3 of cell c: the tables tell what the definition says
  pub partly_cell_lem : (c : ℕ) → c < l.at.cell_count
      → partly_cell (plain_rules m.coords m.tolerance) l t c ≡ kind3 (rules_of m) (take c (cells_in m)) (get_or (cells_in m) c d) (drop (c + 1) (cells_in m))
  unfolding partly_cell kind3
  partly_cell_lem c h =
      let long : l.at.cell_count ≡ length (cells_in m) = S.cells ∙ sym (cells_long m) in
      let one = get_or (cells_in m) c d in
      each_agree (pair_cells (plain_rules m.coords m.tolerance) l t c) (λ b. pair_at (rules_of m) one (get_or (cells_in m) b d)) (c + 1) (l.at.cell_count - (c + 1))
      (λ b p q. pair_shown c b h (omega (arith, h, q)))
      ∙ ap (λ (n : ℕ). each (λ b. pair_at (rules_of m) one (get_or (cells_in m) b d)) (up_from (c + 1) (n - (c + 1)))) long
      ∙ sym (each-drop (pair_at (rules_of m) one) (cells_in m) (c + 1) d (omega (arith, h, long)))
