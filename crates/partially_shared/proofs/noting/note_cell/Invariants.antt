use Prim.Native.Nat.{◌-◌}
use Rattle.seek.specs.Candidates.{by_nodes, TalliedMore}
use Rattle.layout.specs.ByCell.{plain_rules}
use Rattle.partially_shared.proofs.CellSearch.{Facing}
use Rattle.partially_shared.proofs.noting.note_cell.Given as goal

abbrev pub invariant-loop-f : goal.invariant-loop-f
invariant-loop-f l = record {
  facing : Facing (plain_rules l.cx.coords.now l.cx.tolerance) l.cx.layout l.faces.start l.initial.work l.work l.s.range l.f;
  tallied : TalliedMore (by_nodes l.way) (l.f - l.faces.start) l.initial.s.tally l.s.tally;
}
