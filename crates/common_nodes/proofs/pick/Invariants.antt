use mathlib.Core.Path.{◌≡◌}
use lib.ListN.{take}
use Rattle.seek.specs.Candidates.{common}
use Rattle.common_nodes.proofs.pick.Given as goal

abbrev pub invariant-loop-v : goal.invariant-loop-v
invariant-loop-v l = l.own.items ≡ common (take l.v-index l.words) l.others
