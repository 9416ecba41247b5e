-- For internal contracts: the findings whose first cell is c, read off the tables.
use Rattle.std.specs.Prelude.{ℕ, ◌+◌, ◌-◌, Bool, not, cond, ◌&&◌, List, [], ◌∷◌, map, take, drop, Float}
use Rattle.laws.specs.Lists.{only_if, any, first, each, up_from}
use Rattle.laws.specs.Merging.{region}
use Rattle.geometry.specs.Points.{points_of}
use Rattle.bow_tie.specs.BowTie.{bow_tie_of}
use Rattle.mesh.specs.Rings.{Face}
use Rattle.snap.specs.Weld.{welded_by}
use Rattle.findings.specs.Findings.{Rules, Finding, bowtie, partly, repeated, over_at, common, meeting}
use Rattle.findings.specs.Rules.{repeats_of, rules_with}
use Rattle.index.specs.Faces.{bow_of}
use Rattle.layout.specs.declared.Layout.{Layout}
use Rattle.layout.specs.Tables.{ring_row, first_of, face_row, faces_at, faces_of_cell}

-- the rules that look at no welded number: area and centres
abbrev pub plain_rules : List Float → Float → Rules
plain_rules c tol = rules_with c tol []

-- some ring of cell c, in welded numbers, meets itself
unfoldable pub ring_bow : List Float → Float → Layout → List ℕ → ℕ → Bool
ring_bow c tol l t g = bow_tie_of tol (points_of c (map (welded_by (region l.weld l.at.nodes t)) (ring_row l t g)))

unfoldable pub cell_bow : List Float → Float → Layout → List ℕ → ℕ → Bool
cell_bow c tol l t i = any (ring_bow c tol l t) (up_from (first_of l t i) (first_of l t (i + 1) - first_of l t i))

-- 1 for a bow-tie, 0 for none
abbrev pub bit : Bool → ℕ
bit b = cond b 1 0

-- 1, bow-tie
unfoldable pub bow_cell : Layout → List ℕ → ℕ → List Finding
bow_cell l t c = only_if (bow_of l.at t c) (bowtie c ∷ [])

-- 2, overfull: of face g, and of the faces of c
unfoldable pub over_face : Layout → List ℕ → ℕ → List Finding
over_face l t g = over_at (take g (faces_at l t)) (face_row l t g) (drop (g + 1) (faces_at l t))

unfoldable pub over_cell : Layout → List ℕ → ℕ → List Finding
over_cell l t c = each (over_face l t) (up_from (first_of l t c) (first_of l t (c + 1) - first_of l t c))

-- 3, partly shared: of two faces, of c and b, and of c and all later cells
abbrev pub pair_found : ℕ → ℕ → Face × Face → Finding
pair_found c b p = partly c b p.0.num p.1.num (common p.0.ring p.1.ring)

unfoldable pub pair_cells : Rules → Layout → List ℕ → ℕ → ℕ → List Finding
pair_cells R l t c b =
    only_if (not (bow_of l.at t c) && not (bow_of l.at t b))
    (map (pair_found c b) (first (meeting R (faces_of_cell l t c) (faces_of_cell l t b))))

unfoldable pub partly_cell : Rules → Layout → List ℕ → ℕ → List Finding
partly_cell R l t c = each (pair_cells R l t c) (up_from (c + 1) (l.at.cell_count - (c + 1)))

-- 4, repeated, of a cell with these words
unfoldable pub repeat_cell : Layout → List ℕ → ℕ → List ℕ → List Finding
repeat_cell l t c words =
    map (λ (p : ℕ × ℕ). repeated c p.0 p.1) (repeats_of (welded_by (region l.weld l.at.nodes t)) words)
