use Prim.Native.Nat.{◌+◌, ◌≤◌}
use Rattle.laws.specs.Lists.{each, up_from}
use Rattle.layout.specs.Views.{faced_in}
use Rattle.layout.specs.ByCell.{bow_cell}
use Rattle.all_cells.specs.Cells.{KeptEver}
use Rattle.all_cells.proofs.keep_bows.Given as goal

abbrev pub invariant-loop-c : goal.invariant-loop-c
invariant-loop-c l = record {
  kept : KeptEver (each (bow_cell l.t.layout.now (faced_in l.t)) (up_from 0 l.c)) l.initial.sink l.sink;
  few : l.sink.count ≤ l.initial.sink.count + l.c;
}
