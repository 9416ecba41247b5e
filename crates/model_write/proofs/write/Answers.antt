use mathlib.Core.Path.{sym, ◌∙◌, subst}
use native.Mathlib.Omega.{arith}
use Rattle.refusals.proofs.Told.{number-positive, told_ok, told_err, err_passed}
use Rattle.mesh.specs.Lent.{lent}
use Rattle.mesh.specs.Model.{Model}
use Rattle.mesh.specs.declared.accepted.Accepted.{Accepted}
use Rattle.model_file.specs.Writing.{Writing}
use Rattle.model_write.proofs.Answering.{refused_model, writing_refused}
use Rattle.model_write.proofs.write.Goals as goal

pub returns-in_err-accepted : goal.returns-in_err-accepted
returns-in_err-accepted c =
    let m = lent c.args.model.now in
    let o = c.args.out.now in
    let h = c.held.ensures in
    let e = c.in_err-accepted.field-0.0 in
    let n = told_err {A = Accepted} {B = Model} (λ a. lent a.model) e _ m c.in_err-accepted.ensures in
    rw (err_passed _ c.from_residual.ensures.1) (writing_refused m o (record { coords = h.0; tolerance = h.1; cap = h.2 }) e (refused_model m o (λ z. omega (arith, number-positive e, n, z)) ∙ sym n))

pub returns : goal.returns
returns c =
    let z = told_ok {A = Accepted} {B = Model} (λ a. lent a.model) c.in_ok-accepted.accepted _ _ c.in_ok-accepted.ensures in
    subst (λ (m : Model). Writing m c.args.out.now c.write_accepted.new.out c.write_accepted.result) z.1 c.write_accepted.ensures
