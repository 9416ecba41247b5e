use Prim.Native.Nat.{◌+◌, ◌≤◌}
use native.Mathlib.Omega.{arith}
use lib.ListN.{length, replicate, length-replicate}
use Rattle.mesh.specs.Lent.{lent}
use Rattle.mesh.specs.Model.{cells_of}
use Rattle.mesh.specs.CellsRest.{cell_raw, cells_rest}
use Rattle.rings.proofs.Putting.{putting_room, putting_next}
use Rattle.tables.proofs.Passing.{owners_length, owners_next}
use Rattle.tables.proofs.put_owners.Goals as goal

pub put_copies-k-requires : goal.put_copies-k-requires
put_copies-k-requires c =
    let s = c.in-Some.ensures.steps in
    let l = c.loop-number in
    let n = c.tally.result.faces in
    let is = owners_next c.in-Some.number _ _ n (cell_raw c.in-Some.cell) (cells_rest c.next.new.self.iter) _ s.0 s.1 s.2 c.tally.ensures.faces.0 in
    let h : l.k + length (replicate n c.in-Some.number) ≤ length l.work = putting_room l.invariant _ _ is (omega (arith, owners_length 0 (cells_of (lent c.args.model.now.model)), c.requires)) l.auto.work in
    omega (arith, h, length-replicate n c.in-Some.number)

pub loop-number-preserved : goal.loop-number-preserved
loop-number-preserved c =
    let s = c.in-Some.ensures.steps in
    let is = owners_next c.in-Some.number _ _ c.tally.result.faces (cell_raw c.in-Some.cell) (cells_rest c.next.new.self.iter) _ s.0 s.1 s.2 c.tally.ensures.faces.0 in
    putting_next c.loop-number.invariant _ _ is _ _ c.put_copies-k.ensures
