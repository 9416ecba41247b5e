use Prim.Native.Nat.{◌*◌}
use mathlib.Core.Path.{◌≡◌}
use lib.ListN.{drop}
use lib.Seq.{sets}
use Rattle.model_read.specs.Steps.{node_coords}
use Rattle.model_read.proofs.filling.fill_nodes.Given as goal

abbrev pub invariant-loop-i : goal.invariant-loop-i
invariant-loop-i l = sets l.coords (3 * l.i) (node_coords (drop l.i l.nodes)) ≡ sets l.initial.coords 0 (node_coords l.nodes)
