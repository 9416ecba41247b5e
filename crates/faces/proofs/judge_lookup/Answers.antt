use native.Mathlib.Omega.{arith}
use Rattle.refusals.proofs.Told.{err_passed}
use Rattle.mesh.specs.Lent.{lent}
use Rattle.faces.proofs.Lookups.{judged_model, judged_raw, judged_welded, judged_face, judged_none}
use Rattle.faces.proofs.judge_lookup.Goals as goal

pub returns-in_err-m-clause-told : goal.returns-in_err-m-clause-told
returns-in_err-m-clause-told c =
    let a = c.args in
    rw (err_passed _ c.from_residual.ensures.1) (judged_model (lent a.model.now) a.raw.now a.welded.now a.face c.in_err-m.field-0.0 c.in_err-m.ensures)

pub returns-then-raw-m-clause-told : goal.returns-then-raw-m-clause-told
returns-then-raw-m-clause-told c =
    let a = c.args in
    judged_raw (lent a.model.now) a.raw.now a.welded.now a.face c.in_ok-m.m c.in_ok-m.ensures c.if-raw-m.true

pub returns-then-welded-m-clause-told : goal.returns-then-welded-m-clause-told
returns-then-welded-m-clause-told c =
    let a = c.args in
    judged_welded (lent a.model.now) a.raw.now a.welded.now a.face c.in_ok-m.m c.in_ok-m.ensures (omega arith) c.if-welded-m.true

pub returns-then-m-face-clause-told : goal.returns-then-m-face-clause-told
returns-then-m-face-clause-told c =
    let a = c.args in
    judged_face (lent a.model.now) a.raw.now a.welded.now a.face c.in_ok-m.m c.in_ok-m.ensures (omega arith) (omega arith) (omega arith)

pub returns-clause-told : goal.returns-clause-told
returns-clause-told c =
    let a = c.args in
    judged_none (lent a.model.now) a.raw.now a.welded.now a.face c.in_ok-m.m c.in_ok-m.ensures (omega arith) (omega arith) (omega arith)
