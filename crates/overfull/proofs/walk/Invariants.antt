use Prim.Native.Nat.{◌≤◌}
use mathlib.Core.Path.{◌≡◌}
use lib.ListN.{drop}
use Rattle.laws.specs.Lists.{keep}
use Rattle.layout.specs.Views.{faced_in}
use Rattle.overfull.specs.Alike.{same_as, start, tallied}
use Rattle.overfull.proofs.walk.Given as goal

abbrev pub invariant-loop-h : goal.invariant-loop-h
invariant-loop-h l = record {
  few : l.s.count ≤ l.h-index;
  tallied_on : tallied l.g (keep (same_as l.t.layout.now (faced_in l.t) l.g) (drop l.h-index l.faces)) l.s
      ≡ tallied l.g (keep (same_as l.t.layout.now (faced_in l.t) l.g) l.faces) start;
}
