use mathlib.Core.Path.{◌≡◌}
use lib.ListN.{drop}
use Rattle.laws.specs.Lists.{fold}
use Rattle.geometry.specs.Points.{points_of, point_add, origin}
use Rattle.geometry.proofs.key_centroid.Given as goal

abbrev pub invariant-loop-node : goal.invariant-loop-node
invariant-loop-node l = fold point_add l.s (points_of l.coords (drop l.node-index l.nodes)) ≡ fold point_add origin (points_of l.coords l.nodes)
