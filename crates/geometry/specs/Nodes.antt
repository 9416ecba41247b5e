-- The points of nodes that stand with their coordinates.
use Rattle.std.specs.Prelude.{List}
use Rattle.geometry.specs.declared.Point.{Point}
use Rattle.geometry.specs.declared.nodes.Nodes.{Nodes}
use Rattle.geometry.specs.Points.{points_of}

-- one a node
abbrev pub points_in : Nodes → List Point
points_in n = points_of n.coords.now n.nodes.now
