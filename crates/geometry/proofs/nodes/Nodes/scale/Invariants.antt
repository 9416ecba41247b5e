use mathlib.Core.Path.{◌≡◌}
use lib.ListN.{drop}
use Rattle.laws.specs.Lists.{fold}
use Rattle.geometry.specs.Points.{points_of}
use Rattle.geometry.specs.Nodes.{points_in}
use Rattle.geometry.specs.Scale.{largest_of, scale_of}
use Rattle.geometry.proofs.nodes.Nodes.scale.Given as goal

abbrev pub invariant-loop-node : goal.invariant-loop-node
invariant-loop-node l = fold largest_of l.m (points_of l.self.coords.now (drop l.node-index l.self.nodes.now)) ≡ scale_of (points_in l.self)
