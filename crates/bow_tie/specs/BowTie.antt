-- A ring that meets itself: two of its edges, not neighbours, share a point.
use Rattle.std.specs.Prelude.{Bool, false, cond, ◌&&◌, List, ℕ, ◌+◌, ◌-◌, ◌%◌, eqb, ltb, length, get_or, Float}
use Rattle.laws.specs.Lists.{any, up_from}
use Rattle.geometry.specs.declared.Point.{Point}
use Rattle.geometry.specs.Points.{origin}
use Rattle.geometry.specs.Scale.{scale_of, eps_of}
use Rattle.bow_tie.specs.Edges.{edges_meet}

-- edge i of a ring runs from corner i to corner i + 1, the last one to corner 0
abbrev pub corner : List Point → ℕ → Point
corner ps i = get_or ps i origin

abbrev pub following : List Point → ℕ → Point
following ps i = corner ps ((i + 1) % length ps)

-- the first and the last of n edges are neighbours
abbrev pub first_and_last : ℕ → ℕ → ℕ → Bool
first_and_last n i j = eqb i 0 && eqb (j + 1) n

-- edges i and j, with i + 2 ≤ j, are not the first and the last, and share a point
unfoldable pub pair_meets : Float → List Point → ℕ → ℕ → Bool
pair_meets eps ps i j =
    cond (first_and_last (length ps) i j) false (edges_meet eps (corner ps i) (following ps i) (corner ps j) (following ps j))

-- edge i meets a later one
unfoldable pub later_meets : Float → List Point → ℕ → Bool
later_meets eps ps i = any (pair_meets eps ps i) (up_from (i + 2) (length ps - (i + 2)))

-- `face_self_intersects`
unfoldable pub bow_tie_of : Float → List Point → Bool
bow_tie_of tol ps =
    cond (ltb (length ps) 4) false (any (later_meets (eps_of tol (scale_of ps)) ps) (up_from 0 (length ps)))
