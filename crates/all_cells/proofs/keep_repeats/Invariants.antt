use Prim.Native.Nat.{◌+◌, ◌*◌, ◌≤◌}
use Rattle.laws.specs.Lists.{each, up_from}
use Rattle.index.specs.Faces.{input}
use Rattle.mesh.specs.Model.{cells_from}
use Rattle.mesh.specs.Lent.{raw_rest}
use Rattle.layout.specs.Tables.{Still}
use Rattle.layout.specs.Kept.{KeptAny}
use Rattle.all_cells.specs.Cells.{repeat_in}
use Rattle.all_cells.proofs.Words.{LeftAt}
use Rattle.all_cells.proofs.keep_repeats.Given as goal

abbrev pub invariant-loop-c : goal.invariant-loop-c
invariant-loop-c l =
    let c = l.c-iterator.count in record {
      kept : KeptAny l.cx.coords.now (each (repeat_in l.cx.layout (input l.cx.layout.at l.initial.work) l.model.kinds.now l.model.ends.now l.model.words.now) (up_from 0 c)) l.initial.sink l.sink;
      few : l.sink.count ≤ l.initial.sink.count + 1048576 * c;
      still : Still l.cx.layout l.initial.work l.work;
      left : LeftAt (cells_from 0 l.model.kinds.now l.model.ends.now l.model.words.now) (raw_rest l.c-iterator.iter) c;
    }
