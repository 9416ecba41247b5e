use mathlib.Core.Path.{◌≡◌}
use lib.ListN.{take}
use lib.Seq.{sets}
use Rattle.node_sets.specs.Sets.{keys_of}
use Rattle.node_sets.proofs.put_keys.Given as goal

abbrev pub invariant-loop-g : goal.invariant-loop-g
invariant-loop-g l = l.keys ≡ sets l.initial.keys 0 (keys_of l.l (take l.l.at.bows l.fn.work) l.g)
