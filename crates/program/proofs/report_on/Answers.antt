-- `program::report_on` meets its contract: what the check leaves in the lent memory, and the text of its answer.
use mathlib.Core.Path.{subst}
use native.Mathlib.Omega.{arith}
use Rattle.std.specs.Prelude.{Result}
use Rattle.laws.specs.Refusals.{refused, done}
use Rattle.refusals.specs.declared.Refusal.{Refusal}
use Rattle.refusals.specs.Told.{number, told_by}
use Rattle.mesh.specs.Lent.{lent}
use Rattle.findings.specs.Check.{Checking}
use Rattle.conformance.specs.declared.Checked.{Checked}
use Rattle.program.proofs.Answers.{keeps_of, reporting}
use Rattle.program.proofs.report_on.Goals as goal

pub put_report-requires : goal.put_report-requires
put_report-requires c =
    let a = c.args in
    let m = lent a.model.now in
    let h = c.check in
    let t = c.in-Ok.c.totals in
    let checked : Checking m a.findings.now h.new.findings a.work.now h.new.work (done t) = subst (λ (r : Result Checked Refusal). Checking m a.findings.now h.new.findings a.work.now h.new.work (told_by (λ x. x.totals) r)) c.in-Ok.is h.ensures.checking in
    let k = keeps_of m a.findings.now h.new.findings a.work.now h.new.work t c.requires.finding_bytes checked in
    (k.0, omega (arith, k.1, c.requires.out_bytes))

pub returns-in-Err : goal.returns-in-Err
returns-in-Err c =
    let a = c.args in
    let m = lent a.model.now in
    let h = c.check in
    let q = c.requires in
    let p = c.put_refused in
    let e = c.in-Err.e in
    let checked : Checking m a.findings.now h.new.findings a.work.now h.new.work (refused (number e)) =
    subst (λ (r : Result Checked Refusal). Checking m a.findings.now h.new.findings a.work.now h.new.work (told_by (λ x. x.totals) r)) c.in-Err.is h.ensures.checking in
    reporting m a.findings.now h.new.findings a.work.now h.new.work q.finding_bytes q.work_words (refused (number e)) a.out.now p.new.out p.result checked p.ensures.0 (omega (arith, p.ensures.1, q.out_bytes))

pub returns-in-Ok : goal.returns-in-Ok
returns-in-Ok c =
    let a = c.args in
    let m = lent a.model.now in
    let h = c.check in
    let q = c.requires in
    let p = c.put_report in
    let t = c.in-Ok.c.totals in
    let checked : Checking m a.findings.now h.new.findings a.work.now h.new.work (done t) = subst (λ (r : Result Checked Refusal). Checking m a.findings.now h.new.findings a.work.now h.new.work (told_by (λ x. x.totals) r)) c.in-Ok.is h.ensures.checking in
    reporting m a.findings.now h.new.findings a.work.now h.new.work q.finding_bytes q.work_words (done t) a.out.now p.new.out p.result checked p.ensures.0 p.ensures.1
