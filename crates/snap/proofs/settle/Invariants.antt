use mathlib.Core.Path.{◌≡◌}
use lib.ListN.{drop}
use lib.Seq.{sets}
use Rattle.snap.specs.Steps.{numbers}
use Rattle.snap.proofs.settle.Given as goal

abbrev pub invariant-loop-i : goal.invariant-loop-i
invariant-loop-i l = (drop l.i l.marks ≡ drop l.i l.initial.marks) × (sets l.marks l.i (numbers l.i (drop l.i l.initial.marks)) ≡ numbers 0 l.initial.marks)
