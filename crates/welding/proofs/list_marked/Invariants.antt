use Prim.Native.Nat.{◌≤◌}
use mathlib.Core.Path.{◌≡◌}
use lib.ListN.{length}
use lib.Seq.{sets}
use Rattle.laws.specs.Lists.{keep, up_from}
use Rattle.snap.specs.Steps.{marked}
use Rattle.welding.proofs.list_marked.Given as goal

abbrev pub invariant-loop-i : goal.invariant-loop-i
invariant-loop-i l = (l.last ≡ length (keep (marked l.k l.initial.work) (up_from 0 l.i))) × (l.work ≡ sets l.initial.work 0 (keep (marked l.k l.initial.work) (up_from 0 l.i))) × (l.last ≤ l.i)
