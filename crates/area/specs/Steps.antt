-- For internal contracts only: differences from a point, and their largest d · d.
use Rattle.std.specs.Prelude.{List, map, Float}
use Rattle.laws.specs.Lists.{fold}
use Rattle.floats.specs.Floats.{zero64, larger_of}
use Rattle.geometry.specs.declared.Point.{Point}
use Rattle.geometry.specs.Points.{point_sub, point_dot}

abbrev pub away_from : Point → List Point → List Point
away_from o ps = map (λ p. point_sub p o) ps

-- the largest of m and each d · d
abbrev pub most_from : Float → List Point → Float
most_from m ds = fold (λ x d. larger_of x (point_dot d d)) m ds

abbrev pub most_of : List Point → Float
most_of ds = most_from zero64 ds
