-- `all_cells::keep_overs` meets its contract.
use mathlib.Core.Path.{◌≡◌}
use native.Mathlib.Omega.{arith}
use Rattle.index.specs.Faces.{input}
use Rattle.layout.specs.ByCell.{plain_rules, over_cell}
use Rattle.records.proofs.Keeping.{kept_none}
use Rattle.all_cells.proofs.Passing.{pass_next, pass_end}
use Rattle.all_cells.proofs.keep_overs.Goals as goal

pub loop-c-init : goal.loop-c-init
loop-c-init c = record { kept = λ tol. kept_none (plain_rules c.args.cx.now.coords.now tol) c.args.sink.now; few = omega arith }

pub keep_overfull-requires : goal.keep_overfull-requires
keep_overfull-requires c = record {
  standing = c.requires.standing;
  c_bound = (omega arith, c.requires.keyed);
  few = omega (arith, c.loop-c.invariant.few, c.requires.standing.spaced.few_cells);
}

pub loop-c-preserved : goal.loop-c-preserved
loop-c-preserved c =
    let a = c.args in
    let o = c.loop-c in
    let y = c.keep_overfull.ensures in
    record {
      kept = λ tol. pass_next (plain_rules a.cx.now.coords.now tol) (over_cell a.cx.now.layout (input a.cx.now.layout.at a.work.now)) o.c a.sink.now o.sink _ (o.invariant.kept tol) (y.kept_any tol);
      few = omega (arith, o.invariant.few, y.upper_bound);
    }

pub returns : goal.returns
returns c =
    let a = c.args in
    let o = c.loop-c in
    let done : o.c ≡ a.cx.now.layout.at.cell_count = omega arith in
    record {
      kept_any = λ tol. pass_end (plain_rules a.cx.now.coords.now tol) (over_cell a.cx.now.layout (input a.cx.now.layout.at a.work.now)) o.c a.cx.now.layout.at.cell_count a.sink.now o.sink done (o.invariant.kept tol);
      upper_bound = omega (arith, o.invariant.few, done, c.requires.standing.spaced.few_cells);
    }
