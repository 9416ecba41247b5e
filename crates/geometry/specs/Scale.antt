-- Scale and eps: the slack of every comparison between lengths.
use Rattle.std.specs.Prelude.{List, Float}
use Rattle.std.specs.Float.{binary64}
use Rattle.std.specs.Float.Ieee.{of_bits, mul}
use Rattle.laws.specs.Lists.{fold}
use Rattle.floats.specs.Floats.{one64, absolute_of, larger_of}
use Rattle.geometry.specs.declared.Point.{Point}

-- the largest of m and the sizes of p's coordinates
unfoldable pub largest_of : Float → Point → Float
largest_of m p = larger_of (larger_of (larger_of m (absolute_of p.x)) (absolute_of p.y)) (absolute_of p.z)

-- scale: the largest of 1 and all |coordinate|
abbrev pub scale_of : List Point → Float
scale_of ps = fold largest_of one64 ps

-- 64 * 2 ^ -52
abbrev pub grain : Float
grain = mul binary64 (of_bits binary64 0x4050_0000_0000_0000) (of_bits binary64 0x3cb0_0000_0000_0000)

-- eps: the larger of the tolerance and 64 * 2 ^ -52 * scale
unfoldable pub eps_of : Float → Float → Float
eps_of tol scale = larger_of tol (mul binary64 grain scale)
