-- `capi::face_rings::lenoshale_ring_lookup` meets its contract: the refusal, or where the ring lies.
use mathlib.Core.Path.{ap}
use native.Mathlib.Omega.{arith}
use lib.ListN.{length}
use Rattle.mesh.specs.Model.{model_of}
use Rattle.mesh.specs.Lent.{lent}
use Rattle.faces.proofs.Rings.{left_rings, left_span}
use Rattle.faces.proofs.Lookups.{part_face}
use Rattle.capi.proofs.RingExports.{lookup_done}
use Rattle.capi.proofs.face_rings.lenoshale_ring_lookup.Goals as goal

pub find_ring-s-requires : goal.find_ring-s-requires
find_ring-s-requires c =
    let a = c.args in
    let m = model_of a.coords.now a.kinds.now a.ends.now a.words.now a.tolerance a.flags 0 in
    omega (
      arith,
      part_face m a.raw.now a.welded.now a.face c.in-Ok.m c.in-Ok.ensures.told c.in-Ok.ensures.same,
      ap length (left_rings c.cells.result (lent c.in-Ok.m.model) c.cells.ensures),
    )

pub returns-in-Ok : goal.returns-in-Ok
returns-in-Ok c =
    let a = c.args in
    let m = model_of a.coords.now a.kinds.now a.ends.now a.words.now a.tolerance a.flags 0 in
    lookup_done m a.raw.now a.welded.now a.face a.start.now a.size.now c.in-Ok.m c.in-Ok.ensures.told c.in-Ok.ensures.same _
    (left_span c.cells.result (lent c.in-Ok.m.model) a.face _ c.cells.ensures c.find_ring-s.ensures.0)
