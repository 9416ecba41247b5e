-- `capi::reports::lenoshale_report` meets its contract: too short, or the text.
use mathlib.Core.Logic.{inl, inr}
use native.Mathlib.Omega.{arith}
use Rattle.capi.proofs.ReportExports.{report_short, report_done}
use Rattle.capi.proofs.reports.lenoshale_report.Goals as goal

pub returns-then-findings-k : goal.returns-then-findings-k
returns-then-findings-k c =
    let a = c.args in
    report_short a.findings.now a.total a.kept a.out.now a.size.now _ c.refused.ensures (inl (omega (arith, c.if-findings-k.true)))

pub returns-then-out-lt64 : goal.returns-then-out-lt64
returns-then-out-lt64 c =
    let a = c.args in
    report_short a.findings.now a.total a.kept a.out.now a.size.now _ c.refused-then-out-lt64.ensures (inr (omega (arith, c.if-out-lt64.true)))

pub returns-then-out-k : goal.returns-then-out-k
returns-then-out-k c =
    let a = c.args in
    report_short a.findings.now a.total a.kept a.out.now a.size.now _ c.refused-then-out-k.ensures (inr (omega (arith, c.if-out-k.true, c.if-out-lt64.false)))

pub returns : goal.returns
returns c =
    let a = c.args in
    let k = c.put_report-n in
    report_done a.findings.now a.total a.kept a.out.now a.size.now _ _ (omega (arith, c.if-findings-k.false)) (omega (arith, c.if-out-k.false, c.if-out-lt64.false)) k.ensures.0 k.ensures.1
