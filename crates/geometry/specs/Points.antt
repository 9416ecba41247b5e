-- Points: every sum, product and quotient is rounded once, in the order written.
use Rattle.std.specs.Prelude.{ℕ, ◌*◌, ◌+◌, cond, List, map, eqb, pos, length, get_or, Float}
use Rattle.std.specs.Float.{binary64}
use Rattle.std.specs.Float.Ieee.{of_int, add, sub, mul, div}
use Rattle.laws.specs.Lists.{fold}
use Rattle.floats.specs.Floats.{zero64, one64, two64}
use Rattle.floats.specs.Root.{sqrt}
use Rattle.geometry.specs.declared.Point.{Point}

-- ---- one or two points

-- difference: a - b
unfoldable pub point_sub : Point → Point → Point
point_sub a b = record { x = sub binary64 a.x b.x; y = sub binary64 a.y b.y; z = sub binary64 a.z b.z }

-- sum: a + b
unfoldable pub point_add : Point → Point → Point
point_add a b = record { x = add binary64 a.x b.x; y = add binary64 a.y b.y; z = add binary64 a.z b.z }

-- a * s
unfoldable pub point_scale : Point → Float → Point
point_scale a s = record { x = mul binary64 a.x s; y = mul binary64 a.y s; z = mul binary64 a.z s }

-- dot: (a.x * b.x + a.y * b.y) + a.z * b.z
unfoldable pub point_dot : Point → Point → Float
point_dot a b =
    add binary64 (add binary64 (mul binary64 a.x b.x) (mul binary64 a.y b.y)) (mul binary64 a.z b.z)

-- a * b - c * d
abbrev pub minor : Float → Float → Float → Float → Float
minor a b c d = sub binary64 (mul binary64 a b) (mul binary64 c d)

-- cross: a × b
unfoldable pub point_cross : Point → Point → Point
point_cross a b =
    record { x = minor a.y b.z a.z b.y; y = minor a.z b.x a.x b.z; z = minor a.x b.y a.y b.x }

-- the root of a · a
unfoldable pub length_of : Point → Float
length_of a = sqrt (point_dot a a)

-- (a + b) / 2
abbrev pub half : Float → Float → Float
half a b = div binary64 (add binary64 a b) two64

-- `midpoint`
unfoldable pub midpoint_of : Point → Point → Point
midpoint_of a b = record { x = half a.x b.x; y = half a.y b.y; z = half a.z b.z }

-- ---- the points of nodes

abbrev pub origin : Point
origin = record { x = zero64; y = zero64; z = zero64 }

-- coordinate i; 0 past the end, so that nodes are ordered whatever their numbers
abbrev pub coordinate : List Float → ℕ → Float
coordinate c i = get_or c i zero64

-- `point3`: the point of node k among the coordinates, three a node
unfoldable pub point_at : List Float → ℕ → Point
point_at c k = record { x = coordinate c (k * 3); y = coordinate c (k * 3 + 1); z = coordinate c (k * 3 + 2) }

abbrev pub points_of : List Float → List ℕ → List Point
points_of c ks = map (point_at c) ks

-- ---- the centre of points, `key_centroid`: their sum in order from 0, times 1 / n (1 / 1 where there is none)

-- 1 / n
unfoldable pub share : ℕ → Float
share n = div binary64 one64 (of_int binary64 (pos (cond (eqb n 0) 1 n)))

unfoldable pub centre_of : List Point → Point
centre_of ps = point_scale (fold point_add origin ps) (share (length ps))
