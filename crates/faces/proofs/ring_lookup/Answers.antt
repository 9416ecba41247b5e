use mathlib.Core.Path.{ap}
use native.Mathlib.Omega.{arith}
use lib.ListN.{length}
use Rattle.mesh.specs.Lent.{lent}
use Rattle.mesh.specs.declared.RingList.TheVariants.{Raw, Welded}
use Rattle.faces.proofs.Rings.{left_rings, left_span}
use Rattle.faces.proofs.Lookups.{part_face, part_within, part_none, part_is_lem}
use Rattle.faces.proofs.ring_lookup.Goals as goal

pub returns-in_default : goal.returns-in_default
returns-in_default c =
    let a = c.args in
    part_none (lent a.model.now) a.raw.now a.welded.now a.which a.face c.in_default.field-0 c.in_default.ensures.told

pub find_ring-s-requires : goal.find_ring-s-requires
find_ring-s-requires c =
    let a = c.args in
    omega (
      arith,
      part_face (lent a.model.now) a.raw.now a.welded.now a.face c.in-Ok.m c.in-Ok.ensures.told c.in-Ok.ensures.same,
      ap length (left_rings c.cells.result (lent c.in-Ok.m.model) c.cells.ensures),
    )

pub slice_bounds-result-end-in-Raw : goal.slice_bounds-result-end-in-Raw
slice_bounds-result-end-in-Raw c =
    let a = c.args in
    omega (arith, part_within (lent a.model.now) a.raw.now a.welded.now a.face c.in-Ok.m c.in-Ok.ensures.told c.in-Ok.ensures.same _ (left_span c.cells.result (lent c.in-Ok.m.model) a.face _ c.cells.ensures c.find_ring-s.ensures.0))

pub slice_bounds-result-end-in-Welded : goal.slice_bounds-result-end-in-Welded
slice_bounds-result-end-in-Welded c =
    let a = c.args in
    omega (arith, part_within (lent a.model.now) a.raw.now a.welded.now a.face c.in-Ok.m c.in-Ok.ensures.told c.in-Ok.ensures.same _ (left_span c.cells.result (lent c.in-Ok.m.model) a.face _ c.cells.ensures c.find_ring-s.ensures.0))

pub returns-in-Raw : goal.returns-in-Raw
returns-in-Raw c =
    let a = c.args in
    rw c.in-Raw.is (part_is_lem (lent a.model.now) a.raw.now a.welded.now a.face c.in-Ok.m c.in-Ok.ensures.told c.in-Ok.ensures.same _ (left_span c.cells.result (lent c.in-Ok.m.model) a.face _ c.cells.ensures c.find_ring-s.ensures.0) Raw)

pub returns-in-Welded : goal.returns-in-Welded
returns-in-Welded c =
    let a = c.args in
    rw c.in-Welded.is (part_is_lem (lent a.model.now) a.raw.now a.welded.now a.face c.in-Ok.m c.in-Ok.ensures.told c.in-Ok.ensures.same _ (left_span c.cells.result (lent c.in-Ok.m.model) a.face _ c.cells.ensures c.find_ring-s.ensures.0) Welded)
