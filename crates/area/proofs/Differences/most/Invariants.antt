use mathlib.Core.Path.{◌≡◌}
use lib.ListN.{drop}
use Rattle.geometry.specs.Points.{points_of}
use Rattle.geometry.specs.Nodes.{points_in}
use Rattle.area.specs.Steps.{away_from}
use Rattle.area.specs.Steps.{most_from, most_of}
use Rattle.area.proofs.Differences.most.Given as goal

abbrev pub invariant-loop-node : goal.invariant-loop-node
invariant-loop-node l = most_from l.m (away_from l.self.from (points_of l.self.rest.coords.now (drop l.node-index l.self.rest.nodes.now))) ≡ most_of (away_from l.self.from (points_in l.self.rest))
