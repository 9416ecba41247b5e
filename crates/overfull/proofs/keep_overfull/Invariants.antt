use Prim.Native.Nat.{◌+◌, ◌-◌, ◌≤◌}
use mathlib.Core.Path.{◌≡◌}
use Rattle.laws.specs.Lists.{each, up_from}
use Rattle.index.specs.Faces.{input}
use Rattle.layout.specs.Tables.{first_of}
use Rattle.layout.specs.ByCell.{over_face}
use Rattle.layout.specs.Kept.{KeptAny}
use Rattle.overfull.proofs.keep_overfull.Given as goal

abbrev pub invariant-loop-g : goal.invariant-loop-g
invariant-loop-g l =
    let t = input l.cx.layout.at l.work in
    let s = first_of l.cx.layout t l.c in record {
      from : s ≤ l.g-iterator.start;
      end : l.g-iterator.end ≡ first_of l.cx.layout t (l.c + 1);
      order : l.g-iterator.start ≤ l.g-iterator.end;
      few : l.sink.count ≤ l.initial.sink.count + (l.g-iterator.start - s);
      kept : KeptAny l.cx.coords.now (each (over_face l.cx.layout t) (up_from s (l.g-iterator.start - s))) l.initial.sink l.sink;
    }
