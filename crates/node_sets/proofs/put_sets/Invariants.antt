use lib.ListN.{take}
use Rattle.node_sets.proofs.Remaining.{Left}
use Rattle.node_sets.proofs.put_sets.Given as goal

abbrev pub invariant-loop-g : goal.invariant-loop-g
invariant-loop-g l = Left l.l (take l.l.at.bows l.fn.work) l.initial.starts l.initial.sets l.g l.k l.starts l.sets
