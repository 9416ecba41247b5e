use mathlib.Core.Path.{◌≡◌}
use lib.ListN.{drop}
use Rattle.area.specs.AreaTest.{list_off}
use Rattle.area.proofs.Refused.{off_from}
use Rattle.area.proofs.list_off.Given as goal

abbrev pub invariant-loop-node : goal.invariant-loop-node
invariant-loop-node l = off_from l.n l.next (drop l.node-index l.nodes) ≡ list_off l.n l.nodes
