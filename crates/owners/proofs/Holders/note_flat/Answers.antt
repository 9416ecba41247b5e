use Prim.Native.Nat.{ℕ, ◌+◌, ◌<◌}
use mathlib.Core.Path.{◌≡◌, subst}
use mathlib.Core.List.{List, [], ◌++◌}
use native.Mathlib.Numerals.{add-one}
use native.Mathlib.Omega.{arith}
use lib.ListN.{length, get_or, drop}
use lib.Seq.{drop-cons}
use Rattle.mesh.specs.Rings.{rings_of}
use Rattle.mesh.specs.CellsRest.{cell_raw}
use Rattle.owners.specs.Holding.{holder, holders}
use Rattle.owners.specs.Noted.{Noted}
use Rattle.owners.proofs.Loading.{span_end, span_is}
use Rattle.owners.proofs.Passing.{holders_few, noting_next}
use Rattle.owners.proofs.Holders.note_flat.Goals as goal

pub offset_bounds-flat-s : goal.offset_bounds-flat-s
offset_bounds-flat-s c =
    let rs = rings_of (cell_raw c.args.cell.now) in
    omega (arith, c.requires.0, span_end rs c.loop-j.j (omega (arith, c.tally-j-end.ensures.faces.0)) _ c.cell_span-s.ensures.spot)

pub slice_bounds-note-end : goal.slice_bounds-note-end
slice_bounds-note-end c =
    let rs = rings_of (cell_raw c.args.cell.now) in
    omega (arith, c.requires.0, span_end rs c.loop-j.j (omega (arith, c.tally-j-end.ensures.faces.0)) _ c.cell_span-s.ensures.spot, c.put_cell.auto.out)

pub note-requires : goal.note-requires
note-requires c =
    let a = c.args in
    omega (arith, c.requires.1, c.loop-j.invariant.putting.place, holders_few a.self.now.key.now a.number (rings_of (cell_raw a.cell.now)))

pub loop-j-preserved : goal.loop-j-preserved
loop-j-preserved c =
    let a = c.args in
    let rs = rings_of (cell_raw a.cell.now) in
    let l = c.loop-j in
    let h : l.j < length rs = omega (arith, c.tally-j-end.ensures.faces.0) in
    let key = a.self.now.key.now in
    let is : holders key a.number (drop l.j rs) ≡ holder key a.number (get_or rs l.j []) ++ holders key a.number (drop (l.j + 1) rs) = rw (drop-cons rs l.j [] h, add-one l.j) in
    let q = subst (λ (r : List ℕ). Noted (holder l.self.key.now a.number r) l.self c.note.new.self) (span_is rs l.j h _ c.cell_span-s.ensures.spot _ _ (omega (arith, c.requires.0)) c.put_cell.ensures.1) c.note.ensures in
    noting_next l.invariant (λ k. holder k a.number (get_or rs l.j [])) _ _ is q
