-- The reasons of refusals 5, 6 and 7 that look at coordinates and a tolerance: a model's, welding's and the area test's.
use Rattle.std.specs.Prelude.{ℕ, ◌*◌, ◌/◌, ◌%◌, Bool, not, ◌&&◌, ◌||◌, List, eqb, ltb, length, Float}
use Rattle.std.specs.Float.Ieee.{le}
use Rattle.laws.specs.Lists.{any}
use Rattle.laws.specs.Limits.{node_limit, coordinate_least, coordinate_most}
use Rattle.floats.specs.Floats.{zero64, is_finite}

-- so many nodes
abbrev pub node_count : List Float → ℕ
node_count c = length c / 3

-- 5: so many coordinates are over the node limit, or no multiple of three
abbrev pub count_off : ℕ → Bool
count_off n = ltb (3 * node_limit) n || not (eqb (n % 3) 0)

-- 6: not finite, or below zero (-0 passes)
abbrev pub tolerance_off : Float → Bool
tolerance_off t = not (is_finite t && le zero64 t)

-- 7: a coordinate that is not finite, or beyond the limit
abbrev pub coordinate_off : Float → Bool
coordinate_off x = not (le coordinate_least x && le x coordinate_most)

abbrev pub coordinates_off : List Float → Bool
coordinates_off c = any coordinate_off c
