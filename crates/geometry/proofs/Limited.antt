-- The tests of a tolerance and of coordinates, as the code makes them.
use mathlib.Core.Path.{◌≡◌, refl}
use mathlib.Core.Bool.{true, false, ◌&&◌}
use lib.Ieee.{Float, nan, inf, fin, binary64, of_bits, of_fields, odd, neg, lt, le, eq}
use Rattle.laws.specs.Limits.{coordinate_least, coordinate_most}
use Rattle.floats.specs.Floats.{zero64, is_finite}

-- the literals of the code are the limits
pub most_bits : of_bits binary64 4696837146684686336 ≡ coordinate_most
unfolding of_bits of_fields odd
most_bits = refl

-- and the lower one
pub least_bits : neg (of_bits binary64 4696837146684686336) ≡ coordinate_least
unfolding neg of_bits of_fields odd
least_bits = refl

-- below infinity and from 0: finite and from 0
pub finite_from : (t : Float) → (lt t (inf false) && le zero64 t) ≡ (is_finite t && le zero64 t)
unfolding lt le eq
finite_from nan = refl
finite_from (inf true) = refl
finite_from (inf false) = refl
finite_from (fin s m e) = refl
