-- The literals of the code are the definitions' constants.
use mathlib.Core.Path.{◌≡◌, refl}
use mathlib.Core.Bool.{false}
use lib.Ieee.{inf, binary64, of_bits, of_fields, odd}
use Rattle.floats.specs.Floats.{zero64, one64, two64}

-- 0.0
pub zero_bits : of_bits binary64 0 ≡ zero64
unfolding of_bits of_fields odd
zero_bits = refl

-- 1.0
pub one_bits : of_bits binary64 0x3ff0_0000_0000_0000 ≡ one64
unfolding of_bits of_fields odd
one_bits = refl

-- 2.0
pub two_bits : of_bits binary64 0x4000_0000_0000_0000 ≡ two64
unfolding of_bits of_fields odd
two_bits = refl

-- `f64::INFINITY`
pub infinity_bits : of_bits binary64 0x7ff0_0000_0000_0000 ≡ inf false
unfolding of_bits of_fields odd
infinity_bits = refl
