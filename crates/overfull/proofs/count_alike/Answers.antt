-- `overfull::count_alike` meets its contract: the list of the node that was picked holds all faces with the key (Listing).
use Prim.Native.Nat.{ℕ}
use mathlib.Core.Path.{ap, ◌∙◌}
use mathlib.Core.List.{List}
use native.Mathlib.Omega.{arith}
use Rattle.overfull.specs.Alike.{start, tallied}
use Rattle.overfull.proofs.Listing.{indexed_by, face, has_key, list_low, ends_in_lem, listed, all_alike}
use Rattle.overfull.proofs.count_alike.Goals as goal

pub new-ix-requires : goal.new-ix-requires
new-ix-requires c =
    let r = c.requires in
    indexed_by c.args.t.now.layout.now c.args.by c.args.t.now.work.now r.standing r.g_lt_faces.1 c.args.g r.g_lt_faces.0

pub rarest-v-requires : goal.rarest-v-requires
rarest-v-requires c =
    let a = c.args in
    let r = c.requires in
    let i = c.new-ix in (
      face a.t.now.layout.now a.by a.t.now.work.now r.standing r.g_lt_faces.1 a.g r.g_lt_faces.0 i.result i.ensures,
      has_key a.t.now.layout.now a.by a.t.now.work.now r.standing r.g_lt_faces.1 a.g r.g_lt_faces.0 i.result i.ensures,
    )

pub list-requires : goal.list-requires
list-requires c =
    let a = c.args in
    let r = c.requires in
    let i = c.new-ix in
    let v = c.rarest-v in
    list_low a.t.now.layout.now a.by a.t.now.work.now r.standing r.g_lt_faces.1 a.g r.g_lt_faces.0 i.result i.ensures v.result v.ensures

pub walk-requires : goal.walk-requires
walk-requires c =
    let a = c.args in
    let r = c.requires in
    let i = c.new-ix in
    let v = c.rarest-v in
    listed a.t.now.layout.now a.by a.t.now.work.now r.standing r.g_lt_faces.1 a.g r.g_lt_faces.0 i.result i.ensures v.result v.ensures _ _ c.list.ensures

pub returns : goal.returns
returns c =
    let a = c.args in
    let r = c.requires in
    let i = c.new-ix in
    let v = c.rarest-v in
    c.walk.ensures ∙ ap (λ (w : List ℕ). tallied a.g w start) (all_alike a.t.now.layout.now a.by a.t.now.work.now r.standing r.g_lt_faces.1 a.g r.g_lt_faces.0 i.result i.ensures v.result v.ensures _ _ c.list.ensures)

pub offset_bounds-t-list : goal.offset_bounds-t-list
offset_bounds-t-list c =
    let a = c.args in
    let r = c.requires in
    let i = c.new-ix in
    let v = c.rarest-v in
    omega (arith, ends_in_lem a.t.now.layout.now a.by a.t.now.work.now r.standing r.g_lt_faces.1 a.g r.g_lt_faces.0 i.result i.ensures v.result v.ensures _ _ c.list.ensures, c.well_formed)

pub slice_bounds-walk-end : goal.slice_bounds-walk-end
slice_bounds-walk-end c =
    let a = c.args in
    let r = c.requires in
    let i = c.new-ix in
    let v = c.rarest-v in
    omega (arith, ends_in_lem a.t.now.layout.now a.by a.t.now.work.now r.standing r.g_lt_faces.1 a.g r.g_lt_faces.0 i.result i.ensures v.result v.ensures _ _ c.list.ensures)
