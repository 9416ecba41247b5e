use Prim.Native.Nat.{◌-◌, ◌≤◌}
use Rattle.index.specs.Faces.{input}
use Rattle.partially_shared.proofs.Cleared.{Telling}
use Rattle.partially_shared.proofs.keep_range.Given as goal

abbrev pub invariant-loop-b : goal.invariant-loop-b
invariant-loop-b l = record {
  telling : Telling l.cx.coords.now l.cx.layout (input l.cx.layout.at l.initial.work) l.initial.work l.c l.fn.r.lo l.initial.sink l.work l.sink l.b;
  within : l.b - l.fn.r.lo ≤ l.fn.r.hi - l.fn.r.lo;
}
