use Prim.Native.Nat.{◌+◌, ◌*◌, ◌≤◌}
use Rattle.laws.specs.Lists.{each, up_from}
use Rattle.index.specs.Faces.{input}
use Rattle.layout.specs.ByCell.{over_cell}
use Rattle.layout.specs.Kept.{KeptAny}
use Rattle.all_cells.proofs.keep_overs.Given as goal

abbrev pub invariant-loop-c : goal.invariant-loop-c
invariant-loop-c l = record {
  kept : KeptAny l.cx.coords.now (each (over_cell l.cx.layout (input l.cx.layout.at l.work)) (up_from 0 l.c)) l.initial.sink l.sink;
  few : l.sink.count ≤ l.initial.sink.count + 262144 * l.c;
}
