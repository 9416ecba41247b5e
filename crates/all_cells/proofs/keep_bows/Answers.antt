-- `all_cells::keep_bows` meets its contract.
use mathlib.Core.Path.{◌≡◌}
use native.Mathlib.Omega.{arith}
use Rattle.layout.specs.Views.{faced_in}
use Rattle.layout.specs.ByCell.{bow_cell}
use Rattle.records.proofs.Keeping.{kept_none}
use Rattle.all_cells.proofs.Passing.{pass_next, pass_end}
use Rattle.all_cells.proofs.keep_bows.Goals as goal

pub loop-c-init : goal.loop-c-init
loop-c-init c = record { kept = λ R. kept_none R c.args.sink.now; few = omega arith }

pub keep_bow-requires : goal.keep_bow-requires
keep_bow-requires c = record { c_bound = (omega arith, omega arith); few = omega (arith, c.loop-c.invariant.few) }

pub loop-c-preserved : goal.loop-c-preserved
loop-c-preserved c =
    let a = c.args in
    let o = c.loop-c in
    let y = c.keep_bow.ensures in
    record {
      kept = λ R. pass_next R (bow_cell a.t.now.layout.now (faced_in a.t.now)) o.c a.sink.now o.sink _ (o.invariant.kept R) (y.kept_ever R);
      few = omega (arith, o.invariant.few, y.upper_bound);
    }

pub returns : goal.returns
returns c =
    let a = c.args in
    let o = c.loop-c in
    let done : o.c ≡ a.t.now.layout.now.at.cell_count = omega arith in
    record {
      kept_ever = λ R. pass_end R (bow_cell a.t.now.layout.now (faced_in a.t.now)) o.c a.t.now.layout.now.at.cell_count a.sink.now o.sink done (o.invariant.kept R);
      upper_bound = omega (arith, o.invariant.few, done, c.requires.cell_count_bound);
    }
