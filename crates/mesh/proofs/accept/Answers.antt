use mathlib.Core.Path.{sym, ◌∙◌}
use native.Mathlib.Omega.{arith}
use borrow.Author.Tests.{ltb-true, ltb-false}
use Rattle.refusals.specs.declared.Refusal.TheVariants.{Flags}
use Rattle.refusals.proofs.Told.{number-positive, told_ok, told_err, err_told, err_passed}
use Rattle.mesh.specs.Model.{Model}
use Rattle.mesh.specs.Lent.{lent}
use Rattle.mesh.specs.declared.CellTally.{CellTally}
use Rattle.mesh.specs.declared.accepted.Accepted.{Accepted}
use Rattle.mesh.proofs.ModelTable.{mesh_first, flags_off, no_row}
use Rattle.mesh.proofs.accept.Goals as goal

pub returns-in_err-t : goal.returns-in_err-t
returns-in_err-t c =
    let m = lent c.args.model.now in
    let e = c.in_err-t.field-0.0 in
    let n = told_err {A = CellTally} {B = Unit {0}} _ e _ _ c.in_err-t.ensures.answered in
    rw (err_passed _ c.from_residual.ensures.1) (err_told {A = Accepted} {B = Model} (λ a. lent a.model) e _ m (n ∙ sym (mesh_first m (λ z. omega (arith, number-positive e, n, z)))))

pub returns-then-unknown : goal.returns-then-unknown
returns-then-unknown c =
    let m = lent c.args.model.now in
    let z = told_ok {A = CellTally} {B = Unit {0}} _ c.in_ok-t.t _ _ c.in_ok-t.ensures.answered in
    err_told {A = Accepted} {B = Model} (λ a. lent a.model) Flags _ m (sym (flags_off m z.0 (ltb-true _ _ (sym c.unknown.ensures ∙ c.if-unknown.true))))

pub invariant_of-result : goal.invariant_of-result
invariant_of-result c =
    let m = lent c.args.model.now in
    let z = told_ok {A = CellTally} {B = Unit {0}} _ c.in_ok-t.t _ _ c.in_ok-t.ensures.answered in
    record { accepted = no_row m z.0 (ltb-false _ _ (sym c.unknown.ensures ∙ c.if-unknown.false)); tallied = c.in_ok-t.ensures.tallied }

pub returns : goal.returns
returns c =
    let m = lent c.args.model.now in
    let z = told_ok {A = CellTally} {B = Unit {0}} _ c.in_ok-t.t _ _ c.in_ok-t.ensures.answered in
    rw (no_row m z.0 (ltb-false _ _ (sym c.unknown.ensures ∙ c.if-unknown.false)))
