use Prim.Native.Nat.{◌-◌}
use mathlib.Core.Path.{◌≡◌}
use lib.ListN.{length}
use lib.Seq.{sets}
use Rattle.laws.specs.Lists.{up_from}
use Rattle.snap.proofs.number.Given as goal

abbrev pub invariant-loop-i : goal.invariant-loop-i
invariant-loop-i l = sets l.part l.i (up_from l.i (length l.initial.part - l.i)) ≡ up_from 0 (length l.initial.part)
