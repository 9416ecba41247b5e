-- The meeting of two edges, a - b and c - d, within eps.
use Rattle.std.specs.Prelude.{Bool, false, cond, ◌&&◌, ◌||◌, Float}
use Rattle.std.specs.Float.{binary64}
use Rattle.std.specs.Float.Ieee.{of_bits, neg, add, sub, mul, div, lt, le}
use Rattle.floats.specs.Floats.{zero64, one64, larger_of}
use Rattle.geometry.specs.declared.Point.{Point}
use Rattle.bow_tie.specs.declared.Meeting.{Meeting}
use Rattle.bow_tie.specs.declared.Meeting.TheVariants.{Parallel, Crossing, None}
use Rattle.geometry.specs.Points.{point_sub, point_add, point_scale, point_dot, point_cross, length_of}
use Rattle.geometry.specs.Scale.{grain}

-- 10 ^ -12, rounded
abbrev pub tiny : Float
tiny = of_bits binary64 0x3d71_9799_812d_ea11

-- Rust's `MIN_POSITIVE`: the least positive normal number, 2 ^ -1022
abbrev pub min_positive : Float
min_positive = of_bits binary64 0x10_0000_0000_0000

-- from - slack to 1 + slack
abbrev pub reaches : Float → Float → Float → Bool
reaches slack lo hi = le (neg slack) hi && le lo (add binary64 one64 slack)

-- where p lies along d from a, 0 at a and 1 at a + d; dd is d · d
unfoldable pub place_of : Point → Point → Float → Point → Float
place_of a d dd p = div binary64 (point_dot (point_sub p a) d) dd

abbrev pub span_of : Float → Float → Meeting
span_of s t = cond (le s t) (Parallel s t) (Parallel t s)

-- Parallel edges: none where c is farther than eps from the line of a and d1, and otherwise the span of c and d along a - b.
unfoldable pub parallel_of : Float → Point → Point → Float → Point → Point → Meeting
parallel_of eps a d1 a11 c d =
    let n = point_cross d1 (point_sub a c) in
    cond (lt (mul binary64 eps eps) (div binary64 (point_dot n n) a11)) None (span_of (place_of a d1 a11 c) (place_of a d1 a11 d))

-- Edges that are not parallel: the places s on a - b and t on c - d that are closest, none where one is off its edge.
unfoldable pub crossing_of : Float → Float → Meeting
crossing_of s t = cond (reaches tiny s s && reaches tiny t t) (Crossing s t) None

unfoldable pub meeting_of : Float → Point → Point → Point → Point → Meeting
meeting_of eps a b c d =
    let d1 = point_sub b a in
    let d2 = point_sub d c in
    let r = point_sub a c in
    let a11 = point_dot d1 d1 in
    let a22 = point_dot d2 d2 in
    let a12 = point_dot d1 d2 in
    let b1 = point_dot d1 r in
    let b2 = point_dot d2 r in
    let denom = sub binary64 (mul binary64 a11 a22) (mul binary64 a12 a12) in
    cond (le a11 zero64 || le a22 zero64) None
    (cond (le denom (mul binary64 (mul binary64 grain a11) a22)) (parallel_of eps a d1 a11 c d)
    (crossing_of (div binary64 (sub binary64 (mul binary64 a12 b2) (mul binary64 a22 b1)) denom)
    (div binary64 (sub binary64 (mul binary64 a11 b2) (mul binary64 a12 b1)) denom)))

-- the slack of a span along a - b: eps as a part of the edge's length
unfoldable pub slack_of : Float → Point → Point → Float
slack_of eps a b = div binary64 eps (larger_of (length_of (point_sub b a)) min_positive)

-- the point at s on the edge from a to b
unfoldable pub on_edge : Point → Point → Float → Point
on_edge a b s = point_add a (point_scale (point_sub b a) s)

-- p and q are within eps of each other
unfoldable pub near : Float → Point → Point → Bool
near eps p q = le (point_dot (point_sub p q) (point_sub p q)) (mul binary64 eps eps)

-- The edges share a point: a span reaches a - b, or the closest points are within eps.
abbrev pub touch_of : Float → Point → Point → Point → Point → Meeting → Bool
touch_of eps a b c d (Parallel lo hi) = reaches (slack_of eps a b) lo hi
touch_of eps a b c d (Crossing s t) = near eps (on_edge a b s) (on_edge c d t)
touch_of eps a b c d None = false

-- `segments_intersect3`
unfoldable pub edges_meet : Float → Point → Point → Point → Point → Bool
edges_meet eps a b c d = touch_of eps a b c d (meeting_of eps a b c d)
