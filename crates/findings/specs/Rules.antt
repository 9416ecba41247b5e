-- The rules of a model: bow-tie, area, repeated nodes and centres, under a welded map.
use Rattle.std.specs.Prelude.{ℕ, Bool, not, cond, ◌&&◌, ◌||◌, List, [], map, leb, ltb, eqb, Float}
use Rattle.laws.specs.Lists.{any, last, walk, keep, distinct}
use Rattle.geometry.specs.Points.{midpoint_of, point_at, points_of, centre_of}
use Rattle.area.specs.AreaTest.{area_of, is_spans}
use Rattle.bow_tie.specs.BowTie.{bow_tie_of}
use Rattle.mesh.specs.Model.{Model, Raw, cells_of}
use Rattle.mesh.specs.Rings.{Cell, nodes_in, rings_of, numbered}
use Rattle.snap.specs.Weld.{welded_by}
use Rattle.welding.specs.Used.{welds_of}
use Rattle.findings.specs.Findings.{Rules, Finding, full}

-- ---- repeated nodes of a cell

-- by the first, then by the second
abbrev pub pair_le : ℕ × ℕ → ℕ × ℕ → Bool
pair_le p q = ltb p.0 q.0 || (eqb p.0 q.0 && leb p.1 q.1)

-- two nodes, the smaller first
abbrev pub pair_of : ℕ → ℕ → ℕ × ℕ
pair_of a b = cond (ltb a b) (a, b) (b, a)

-- node n with the last earlier one of the same welded number, if unlike
abbrev pub repeat_at : (ℕ → ℕ) → List ℕ → ℕ → List (ℕ × ℕ)
repeat_at weld before n = map (pair_of n) (keep (λ p. not (eqb p n)) (last (keep (λ p. eqb (weld p) (weld n)) before)))

-- in the words, separators skipped; each pair once, by nodes
unfoldable pub repeats_of : (ℕ → ℕ) → List ℕ → List (ℕ × ℕ)
repeats_of weld ws = distinct pair_le (walk (λ before n after. repeat_at weld before n) [] (nodes_in ws))

-- ---- bow-ties

-- some welded ring of a cell meets `face_self_intersects`
unfoldable pub bow_of : List Float → Float → (ℕ → ℕ) → Raw → Bool
bow_of c tol weld cell = any (λ r. bow_tie_of tol (points_of c (map weld r))) (rings_of cell)

-- ---- a model's rules and its full list

-- under a map that gives each node its welded number
unfoldable pub rules_with : List Float → Float → List ℕ → Rules
rules_with c tol welds =
    record {
      rings = rings_of;
      bow = bow_of c tol (welded_by welds);
      spans = λ ns. is_spans (area_of tol (points_of c ns));
      repeats = λ cell. repeats_of (welded_by welds) cell.words;
      centre = λ ns. centre_of (points_of c ns);
      middle = λ a b. midpoint_of (point_at c a) (point_at c b);
    }

-- under the model's welded map
unfoldable pub rules_of : Model → Rules
rules_of m = rules_with m.coords m.tolerance (welds_of m)

-- the model's cells with their numbers
unfoldable pub cells_in : Model → List Cell
cells_in m = numbered rings_of (cells_of m)

unfoldable pub full_of : Model → List Finding
full_of m = full (rules_of m) m.flags (cells_in m)
