-- Small things on binary64: constants, tests, Rust's `abs` and `max`, bytes.
use Rattle.std.specs.Prelude.{ℕ, Bool, true, false, cond, ◌||◌, List, pos, Float}
use Rattle.std.specs.Float.{nan, inf, fin, binary64}
use Rattle.std.specs.Float.Ieee.{of_bits, to_bits, lt, is_nan}
use Rattle.laws.specs.Bytes.{number, bytes}

abbrev pub zero64 : Float
zero64 = fin false 0 (pos 0)

abbrev pub one64 : Float
one64 = fin false 1 (pos 0)

abbrev pub two64 : Float
two64 = fin false 1 (pos 1)

-- neither an infinity nor a NaN
abbrev pub is_finite : Float → Bool
is_finite nan = false
is_finite (inf s) = false
is_finite (fin s m e) = true

-- Rust's `abs`: the same size without the sign
unfoldable pub absolute_of : Float → Float
absolute_of nan = nan
absolute_of (inf s) = inf false
absolute_of (fin s m e) = fin false m e

-- Rust's `max`: b where a < b, else a, but where one is a NaN the other. Of two zeros with unlike signs Rust may give either; here it is a.
unfoldable pub larger_of : Float → Float → Float
larger_of a b = cond (is_nan a || lt a b) b a

-- the value of eight bytes; a NaN's pattern is read as the NaN
abbrev pub float_of : List ℕ → Float
float_of bs = of_bits binary64 (number bs)

-- the eight bytes of a value
abbrev pub float_bytes : Float → List ℕ
float_bytes x = bytes 8 (to_bits binary64 x)
