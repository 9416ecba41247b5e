-- `capi::reports::lenoshale_run` meets its contract: too short, or the output.
use native.Mathlib.Omega.{arith}
use Rattle.capi.proofs.ReportExports.{run_short, run_done}
use Rattle.capi.proofs.reports.lenoshale_run.Goals as goal

pub returns-then-out-lt65600 : goal.returns-then-out-lt65600
returns-then-out-lt65600 c =
    let a = c.args in
    run_short a.input.now a.out.now a.size.now _ c.refused.ensures (omega (arith, c.if-out-lt65600.true))

pub returns : goal.returns
returns c =
    let a = c.args in
    let k = c.run-n in
    run_done a.input.now a.out.now a.size.now _ _ (omega (arith, c.if-out-lt65600.false)) k.ensures.0 k.ensures.1
