-- `candidates::face_candidates` meets its contract.
use Prim.Native.Nat.{◌≤◌, ◌<◌}
use mathlib.Core.Path.{◌≡◌, refl, sym, ◌∙◌, subst}
use mathlib.Core.List.{◌++◌}
use native.Mathlib.Omega.{arith}
use lib.ListN.{length, drop}
use lib.Seq.{length-take-le}
use Rattle.std.specs.Prelude.{Ok, Err}
use Rattle.laws.proofs.Lent.{cleared_front}
use Rattle.refusals.specs.declared.Refusal.TheVariants.{Work, Number}
use Rattle.refusals.proofs.Told.{number-positive, told_ok, told_err, err_passed}
use Rattle.mesh.specs.Model.{Model}
use Rattle.mesh.specs.Lent.{lent}
use Rattle.mesh.specs.Acceptance.{faces_in, work_needed}
use Rattle.mesh.specs.declared.accepted.Accepted.{Accepted}
use Rattle.seek.specs.Candidates.{by_nodes}
use Rattle.seek.proofs.Tallies.{tallied_as, tallied_then, tallied_zero}
use Rattle.candidates.specs.Seeking.{Seeking}
use Rattle.candidates.proofs.Answers.{row_model, row_work, row_face, row_none, refused_so, sought_so}
use Rattle.candidates.proofs.face_candidates.Goals as goal

pub returns-in_err-m : goal.returns-in_err-m
returns-in_err-m c =
    let a = c.args in
    let m = lent a.model.now in
    let e = c.in_err-m.field-0.0 in
    let n = told_err {A = Accepted} (λ a. lent a.model) e _ _ c.in_err-m.ensures in
    rw (err_passed _ c.from_residual.ensures.1) (refused_so m a.face a.work.now (by_nodes a.way) a.found.now e (n ∙ sym (row_model m a.face a.work.now (λ z. omega (arith, number-positive e, n, z)))))

pub returns-then-work-need : goal.returns-then-work-need
returns-then-work-need c =
    let a = c.args in
    let s = c.in_ok-m.m in
    let m = lent s.model in
    let is = (told_ok {A = Accepted} (λ a. lent a.model) s _ _ c.in_ok-m.ensures).1 in
    subst (λ (x : Model). Seeking (by_nodes a.way) x a.face a.found.now a.found.now a.work.now a.work.now (Err Work)) is
    (refused_so m a.face a.work.now (by_nodes a.way) a.found.now Work (sym (row_work m a.face a.work.now s.accepted (omega (arith, c.work_needed-need.ensures, c.if-work-need.true)))))

pub returns-then-m-face : goal.returns-then-m-face
returns-then-m-face c =
    let a = c.args in
    let s = c.in_ok-m.m in
    let m = lent s.model in
    let is = (told_ok {A = Accepted} (λ a. lent a.model) s _ _ c.in_ok-m.ensures).1 in
    let enough : work_needed m ≤ length a.work.now = omega (arith, c.work_needed-need.ensures, c.if-work-need.false) in
    let beyond : length (faces_in m) ≤ a.face = omega (arith, s.tallied.faces, c.if-m-face.true) in
    subst (λ (x : Model). Seeking (by_nodes a.way) x a.face a.found.now a.found.now a.work.now a.work.now (Err Number)) is
    (refused_so m a.face a.work.now (by_nodes a.way) a.found.now Number (sym (row_face m a.face a.work.now s.accepted enough beyond)))

pub seek_into-searched-requires : goal.seek_into-searched-requires
seek_into-searched-requires c =
    let a = c.args in
    let s = c.in_ok-m.m in
    let n = c.work_needed-need.result in
    let enough : n ≤ length a.work.now = omega (arith, c.if-work-need.false) in
    record {
      room = omega (arith, c.work_needed-need.ensures, length-take-le n a.work.now enough);
      face_in_bounds = omega (arith, s.tallied.faces, c.if-m-face.false);
    }

pub returns : goal.returns
returns c =
    let a = c.args in
    let s = c.in_ok-m.m in
    let m = lent s.model in
    let is = (told_ok {A = Accepted} (λ a. lent a.model) s _ _ c.in_ok-m.ensures).1 in
    let w = a.work.now in
    let n = c.work_needed-need.result in
    let need : n ≡ work_needed m = c.work_needed-need.ensures in
    let enough : n ≤ length w = omega (arith, c.if-work-need.false) in
    let within : a.face < length (faces_in m) = omega (arith, s.tallied.faces, c.if-m-face.false) in
    let y = c.seek_into-searched in
    let left = cleared_front w y.new.work c.fill.new.self n (work_needed m) need enough y.auto.work (c.fill.ensures.after (λ y e. e)) in
    let u = c.default in
    let t = c.tallied.result in
    let one = tallied_as {n = 1} {t = u.result} {r = t} y.ensures.result_value.2 refl c.tallied.ensures in
    let none = tallied_zero (by_nodes a.way) {n = 0} refl u.result u.ensures.0 u.ensures.1 in
    subst (λ (x : Model). Seeking (by_nodes a.way) x a.face a.found.now y.new.found w (c.fill.new.self ++ drop n (y.new.work ++ drop n w)) (Ok (record { count = y.result.count; tally = t }))) is
    (sought_so m a.face w (by_nodes a.way) a.found.now y.new.found (c.fill.new.self ++ drop n (y.new.work ++ drop n w)) y.result.count t
    (row_none m a.face w s.accepted (omega (arith, need, enough)) within) y.ensures.result_value.0 y.ensures.found_after
    left
    (tallied_then (by_nodes a.way) 0 1 1 _ u.result t refl none one))
