use Rattle.layout.specs.ByCell.{plain_rules}
use Rattle.partially_shared.proofs.Searched.{Noting}
use Rattle.partially_shared.proofs.noting.note_found.Given as goal

abbrev pub invariant-loop-i : goal.invariant-loop-i
invariant-loop-i l = Noting (plain_rules l.cx.coords.now l.cx.tolerance) l.cx.layout l.f l.initial.work l.initial.s l.work l.s l.i
