use native.Mathlib.Omega.{arith}
use Rattle.mesh.specs.Lent.{lent}
use Rattle.mesh.specs.Model.{cells_of}
use Rattle.mesh.specs.Rings.{rings_of}
use Rattle.mesh.specs.CellsRest.{cell_raw, cells_rest}
use Rattle.mesh.specs.Kinds.{kind_number}
use Rattle.faces.proofs.Bounds.{rings_few}
use Rattle.owners.specs.Holding.{holders}
use Rattle.owners.proofs.Passing.{held_few, held_next, noting_next}
use Rattle.owners.proofs.Holders.note_cells.Goals as goal

pub note_cell-requires : goal.note_cell-requires
note_cell-requires c =
    let a = c.args in
    let x = c.in-Some.cell in
    omega (arith, c.requires, c.loop-number.invariant.putting.place, held_few a.self.now.key.now 0 (cells_of (lent a.model.now.model)), rings_few (kind_number x.kind) x.words.now x.well, x.small)

pub loop-number-preserved : goal.loop-number-preserved
loop-number-preserved c =
    let s = c.in-Some.ensures.steps in
    let is = held_next c.args.self.now.key.now c.in-Some.number _ _ (cell_raw c.in-Some.cell) (cells_rest c.next.new.self.iter) _ s.0 s.1 s.2 in
    noting_next c.loop-number.invariant (λ key. holders key c.in-Some.number (rings_of (cell_raw c.in-Some.cell))) _ _ is c.note_cell.ensures
