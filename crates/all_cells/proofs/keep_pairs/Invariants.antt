use Prim.Native.Nat.{◌+◌, ◌*◌, ◌≤◌}
use Rattle.laws.specs.Lists.{each, up_from}
use Rattle.index.specs.Faces.{input}
use Rattle.seek.specs.Candidates.{by_nodes, Tallied}
use Rattle.layout.specs.Tables.{first_of, Still}
use Rattle.layout.specs.ByCell.{plain_rules, partly_cell}
use Rattle.records.specs.Keeping.{Kept}
use Rattle.all_cells.proofs.keep_pairs.Given as goal

abbrev pub invariant-loop-c : goal.invariant-loop-c
invariant-loop-c l = record {
  kept : Kept (plain_rules l.cx.coords.now l.cx.tolerance) (each (partly_cell (plain_rules l.cx.coords.now l.cx.tolerance) l.cx.layout (input l.cx.layout.at l.initial.work)) (up_from 0 l.c)) l.initial.sink l.sink;
  few : l.sink.count ≤ l.initial.sink.count + 262144 * l.c;
  still : Still l.cx.layout l.initial.work l.work;
  tallied : Tallied (by_nodes l.way) (first_of l.cx.layout (input l.cx.layout.at l.initial.work) l.c) l.tally;
}
