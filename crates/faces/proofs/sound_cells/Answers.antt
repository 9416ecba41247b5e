use native.Mathlib.Omega.{arith}
use mathlib.Core.Path.{ap}
use lib.ListN.{length}
use Rattle.mesh.proofs.CellWords.{count_cells, all_words}
use Rattle.faces.proofs.Standing.{none_ill}
use Rattle.faces.proofs.sound_cells.Goals as goal

pub invariant_of-result : goal.invariant_of-result
invariant_of-result c =
    let s = c.requires in
    let a = c.args in
    record {
      well = none_ill _ s.well;
      few = omega (arith, s.few, count_cells 0 a.kinds.now a.ends.now a.words.now s.paired);
      small = omega (arith, s.small, ap length (all_words a.kinds.now a.ends.now a.words.now s.paired s.order));
    }
