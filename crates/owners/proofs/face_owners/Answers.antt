use native.Mathlib.Omega.{arith}
use borrow.Author.Rules.{rules}
use Rattle.refusals.proofs.Told.{err_passed}
use Rattle.mesh.specs.Lent.{lent}
use Rattle.mesh.specs.Model.{cells_of}
use Rattle.faces.proofs.Rings.{few_faces}
use Rattle.owners.proofs.Passing.{held_few}
use Rattle.owners.proofs.Owning.{refused_model, refused_face, face_there, answered}
use Rattle.owners.proofs.face_owners.Goals as goal

pub returns-in_err-m : goal.returns-in_err-m
returns-in_err-m c =
    let a = c.args in
    rw (err_passed _ c.from_residual.ensures.1) (refused_model (lent a.model.now) a.face a.owners.now c.in_err-m.field-0.0 c.in_err-m.ensures)

pub returns-then-m-face : goal.returns-then-m-face
returns-then-m-face c =
    let a = c.args in
    refused_face (lent a.model.now) a.face a.owners.now c.in_ok-m.m c.in_ok-m.ensures c.if-m-face.true

pub key_of-key-requires : goal.key_of-key-requires
key_of-key-requires c =
    let a = c.args in
    face_there (lent a.model.now) a.face a.owners.now c.in_ok-m.m c.in_ok-m.ensures c.if-m-face.false

pub note_cells-requires : goal.note_cells-requires
note_cells-requires c =
    let m = c.in_ok-m.m in
    omega (arith, few_faces (lent m.model) m.faces m.ring_words m.tallied)

pub overflow_cast-result : goal.overflow_cast-result
overflow_cast-result c =
    let m = c.in_ok-m.m in
    omega (arith, few_faces (lent m.model) m.faces m.ring_words m.tallied, c.note_cells.ensures.put.0, held_few c.key_of-key.result.now 0 (cells_of (lent m.model)))

pub returns : goal.returns
returns c =
    let a = c.args in
    let q = answered (lent a.model.now) a.face a.owners.now c.in_ok-m.m c.in_ok-m.ensures c.if-m-face.false _ _ _ c.key_of-key.ensures.0 c.note_cells.ensures.put in
    search rules
