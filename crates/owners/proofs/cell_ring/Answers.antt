use Prim.Native.Nat.{ℕ}
use mathlib.Core.Path.{◌≡◌, sym, ap, ◌∙◌}
use mathlib.Core.List.{List, []}
use native.Mathlib.Omega.{arith}
use lib.ListN.{length, get_or}
use Rattle.mesh.specs.Kinds.{kind_number}
use Rattle.mesh.specs.Rings.{rings_of, phed_rings}
use Rattle.mesh.specs.CellsRest.{cell_raw}
use Rattle.mesh.specs.PhedRest.{phed_rest}
use Rattle.mesh.proofs.ByKind.{phed_is}
use Rattle.faces.proofs.Bounds.{fixed_total}
use Rattle.owners.proofs.Loading.{phed_there, phed_is_lem, no_phed, span_end, span_is}
use Rattle.owners.proofs.cell_ring.Goals as goal

pub unwrap-requires : goal.unwrap-requires
unwrap-requires c =
    let x = c.args.cell.now in
    let e : phed_rest c.new.result ≡ rings_of (cell_raw x) = ap phed_rings c.new.ensures ∙ sym (phed_is _ x.words.now (ap kind_number c.in-Phed.is)) in
    phed_there c.new.result c.nth.new.self c.args.face c.nth.result c.nth.ensures.ran (omega (arith, c.requires, ap length e))

pub returns-in-Phed : goal.returns-in-Phed
returns-in-Phed c =
    let x = c.args.cell.now in
    let e : phed_rest c.new.result ≡ rings_of (cell_raw x) = ap phed_rings c.new.ensures ∙ sym (phed_is _ x.words.now (ap kind_number c.in-Phed.is)) in
    phed_is_lem c.new.result c.nth.new.self c.args.face c.nth.result c.nth.ensures.ran (omega (arith, c.requires, ap length e)) _ c.unwrap.ensures
    ∙ ap (λ (rs : List (List ℕ)). get_or rs c.args.face []) e

pub put_cell-requires : goal.put_cell-requires
put_cell-requires c =
    let x = c.args.cell.now in
    omega (arith, fixed_total (kind_number x.kind) x.words.now x.well (no_phed x.kind c.in_default.not-Phed))

pub offset_bounds-room-s : goal.offset_bounds-room-s
offset_bounds-room-s c =
    let x = c.args.cell.now in
    omega (arith, fixed_total (kind_number x.kind) x.words.now x.well (no_phed x.kind c.in_default.not-Phed), span_end (rings_of (cell_raw x)) c.args.face c.requires _ c.cell_span-s.ensures.spot)

pub slice_bounds-result-end : goal.slice_bounds-result-end
slice_bounds-result-end c =
    let x = c.args.cell.now in
    omega (arith, fixed_total (kind_number x.kind) x.words.now x.well (no_phed x.kind c.in_default.not-Phed), span_end (rings_of (cell_raw x)) c.args.face c.requires _ c.cell_span-s.ensures.spot)

pub returns-in_default : goal.returns-in_default
returns-in_default c =
    let x = c.args.cell.now in
    span_is (rings_of (cell_raw x)) c.args.face c.requires _ c.cell_span-s.ensures.spot c.args.room.now _
    (omega (arith, fixed_total (kind_number x.kind) x.words.now x.well (no_phed x.kind c.in_default.not-Phed)))
    c.put_cell.ensures.1
