-- The area test, `common_nodes_span_area`: do nodes span an area?
use Rattle.std.specs.Prelude.{ℕ, suc, Bool, true, not, cond, ◌&&◌, ◌||◌, List, [], ◌∷◌, map, eqb, leb, ltb, length, Float}
use Rattle.std.specs.Float.{binary64}
use Rattle.std.specs.Float.Ieee.{mul, lt, le}
use Rattle.laws.specs.Lists.{any, first, keep, fold}
use Rattle.laws.specs.Limits.{ring_limit}
use Rattle.laws.specs.Refusals.{Answer, refusal, answer}
use Rattle.floats.specs.Floats.{zero64, larger_of}
use Rattle.geometry.specs.Points.{point_sub, point_cross, length_of, points_of}
use Rattle.geometry.specs.Scale.{scale_of, eps_of}
use Rattle.geometry.specs.Coordinates.{node_count, count_off, tolerance_off, coordinates_off}
use Rattle.geometry.specs.declared.Point.{Point}
use Rattle.area.specs.declared.Area.{Area}
use Rattle.area.specs.declared.Area.TheVariants.{TooFew, Together, NoDirection, Thin, Spans}

-- ---- differences from the first point

abbrev pub differences_of : List Point → List Point
differences_of [] = []
differences_of (o ∷ ps) = map (λ p. point_sub p o) ps

-- extent: the largest root of d · d
abbrev pub extent_of : List Point → Float
extent_of ds = fold (λ m d. larger_of m (length_of d)) zero64 ds

-- direction: the first difference with root > eps, alone; nothing where there is none
abbrev pub direction_of : Float → List Point → List Point
direction_of eps ds = first (keep (λ d. lt eps (length_of d)) ds)

-- some |direction × d| > bound
abbrev pub thick_of : Float → Point → List Point → Bool
thick_of bound dir ds = any (λ d. lt bound (length_of (point_cross dir d))) ds

-- ---- the answer

abbrev pub along_of : Float → List Point → List Point → Area
along_of bound ds [] = NoDirection
along_of bound ds (dir ∷ rest) = cond (thick_of bound dir ds) Spans Thin

unfoldable pub spread_of : Float → List Point → Area
spread_of eps ds = cond (le (extent_of ds) eps) Together (along_of (mul binary64 eps (extent_of ds)) ds (direction_of eps ds))

unfoldable pub area_of : Float → List Point → Area
area_of tol ps = cond (ltb (length ps) 3) TooFew (spread_of (eps_of tol (scale_of ps)) (differences_of ps))

-- ours: a number for each answer that document 01 names
abbrev pub area_number : Area → ℕ
area_number TooFew = 0
area_number Together = 1
area_number NoDirection = 2
area_number Thin = 3
area_number Spans = 4

-- the answer is "spans"
abbrev pub is_spans : Area → Bool
is_spans a = eqb (area_number a) 4

-- ---- the public operation

-- strictly ascending from a number on
abbrev pub ascends_from : ℕ → List ℕ → Bool
ascends_from n [] = true
ascends_from n (k ∷ ks) = leb n k && ascends_from (suc k) ks

-- 12: not strictly ascending, or a number too large
abbrev pub list_off : ℕ → List ℕ → Bool
list_off n ks = not (ascends_from 0 ks) || any (λ k. leb n k) ks

abbrev pub area_table : List Float → List ℕ → Float → List (ℕ × Bool)
area_table c ks tol =
    (5, count_off (length c) || ltb ring_limit (length ks))
    ∷ (6, tolerance_off tol)
    ∷ (7, coordinates_off c)
    ∷ (12, list_off (node_count c) ks)
    ∷ []

unfoldable pub area_answer : List Float → List ℕ → Float → Answer Area
area_answer c ks tol = answer (refusal (area_table c ks tol)) (area_of tol (points_of c ks))
