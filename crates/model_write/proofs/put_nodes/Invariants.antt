use Prim.Native.Nat.{◌*◌}
use mathlib.Core.Path.{◌≡◌}
use lib.ListN.{drop}
use lib.Seq.{sets}
use Rattle.laws.specs.Lists.{each}
use Rattle.model_write.proofs.Passes.{record_of_node}
use Rattle.model_write.proofs.put_nodes.Given as goal

abbrev pub invariant-loop-i : goal.invariant-loop-i
invariant-loop-i l = sets l.out (32 * l.i) (each record_of_node (drop l.i l.nodes)) ≡ sets l.initial.out 0 (each record_of_node l.nodes)
