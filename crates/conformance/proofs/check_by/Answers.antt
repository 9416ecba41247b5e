-- `conformance::check_by` meets its contract.
use Prim.Native.Nat.{◌*◌, ◌≤◌, ◌/◌, min}
use mathlib.Core.Path.{◌≡◌, sym, ap, ◌∙◌, subst}
use mathlib.Core.List.{◌++◌}
use native.Mathlib.Omega.{arith}
use lib.ListN.{length, drop}
use Rattle.std.specs.Prelude.{Ok, Err}
use Rattle.laws.proofs.Lent.{cleared_front}
use Rattle.refusals.specs.declared.Refusal.TheVariants.{Work}
use Rattle.refusals.proofs.Told.{number-positive, told_ok, told_err, err_passed}
use Rattle.mesh.specs.Model.{Model}
use Rattle.mesh.specs.Lent.{lent}
use Rattle.mesh.specs.Acceptance.{work_needed}
use Rattle.mesh.specs.declared.accepted.Accepted.{Accepted}
use Rattle.conformance.specs.Ways.{CheckingBy}
use Rattle.conformance.proofs.Answers.{row_model, row_work, row_none, checked_so}
use Rattle.conformance.proofs.Ways.{refused_by, checked_by}
use Rattle.conformance.proofs.check_by.Goals as goal

pub returns-in_err-m : goal.returns-in_err-m
returns-in_err-m c =
    let a = c.args in
    let m = lent a.model.now in
    let e = c.in_err-m.field-0.0 in
    let n = told_err {A = Accepted} (λ a. lent a.model) e _ _ c.in_err-m.ensures in
    rw (err_passed _ c.from_residual.ensures.1) (refused_by a.choice m a.findings.now a.work.now e (n ∙ sym (row_model m a.work.now (λ z. omega (arith, number-positive e, n, z)))))

pub returns-then-work-need : goal.returns-then-work-need
returns-then-work-need c =
    let a = c.args in
    let s = c.in_ok-m.m in
    let is = (told_ok {A = Accepted} (λ a. lent a.model) s _ _ c.in_ok-m.ensures).1 in
    subst (λ (x : Model). CheckingBy a.choice x a.findings.now a.findings.now a.work.now a.work.now (Err Work)) is
    (refused_by a.choice (lent s.model) a.findings.now a.work.now Work (sym (row_work (lent s.model) a.work.now s.accepted (omega (arith, c.work_needed-need.ensures, c.if-work-need.true)))))

pub returns : goal.returns
returns c =
    let a = c.args in
    let s = c.in_ok-m.m in
    let m = lent s.model in
    let is = (told_ok {A = Accepted} (λ a. lent a.model) s _ _ c.in_ok-m.ensures).1 in
    let w = a.work.now in
    let n = c.work_needed-need.result in
    let need : n ≡ work_needed m = c.work_needed-need.ensures in
    let enough : n ≤ length w = omega (arith, c.if-work-need.false) in
    let y = c.find-found in
    let left = cleared_front w y.new.work c.fill.new.self n (work_needed m) need enough y.auto.work (c.fill.ensures.after (λ y e. e)) in
    let none = row_none m w s.accepted (omega (arith, need, enough)) in
    let room = c.min-room in
    let cap : room.result ≡ min m.cap (length a.findings.now / 64) = c.min-room.ensures ∙ ap (λ (x : Model). min x.cap (length a.findings.now / 64)) (sym is) in
    let found = y.new.findings in
    subst (λ (x : Model). CheckingBy a.choice x a.findings.now (found ++ drop (64 * room.result) a.findings.now) w (c.fill.new.self ++ drop n (y.new.work ++ drop n w)) (Ok (record { totals = record { total = y.result.findings; kept = c.min.result }; tally = y.result.tally }))) is
    (checked_by a.choice m a.findings.now (found ++ drop (64 * room.result) a.findings.now) w (c.fill.new.self ++ drop n (y.new.work ++ drop n w)) _ none
    (checked_so m a.findings.now found w room.result y.result.findings c.min.result none cap y.ensures.found c.min.ensures
    (c.fill.new.self ++ drop n (y.new.work ++ drop n w)) left)
    y.ensures.tallied)
