use Rattle.partially_shared.proofs.InOrder.{Visiting}
use Rattle.partially_shared.proofs.keep_sorted.Given as goal

abbrev pub invariant-loop-i : goal.invariant-loop-i
invariant-loop-i l = Visiting l.cx.coords.now l.cx.layout l.initial.work l.c l.count l.initial.sink l.work l.sink l.next l.i
