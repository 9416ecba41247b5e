-- `bow_cells::Polygons::ring_meets` meets its contract: the ring in welded numbers is loaded, and tested.
use mathlib.Core.Path.{refl, ◌∙◌}
use Rattle.bow_cells.proofs.Reading.{loaded, asked, answered}
use Rattle.bow_cells.proofs.polygons.Polygons.ring_meets.Goals as goal

pub face_self_intersects-requires : goal.face_self_intersects-requires
face_self_intersects-requires c =
    let p = c.args.self.now in
    let r = p.rings in
    asked r.layout.now r.work.now r.ringed c.args.g c.requires _ c.ring-face.ensures p.coords.now p.fits _ (loaded r.layout.now r.work.now r.ringed c.args.g c.requires _ c.ring-face.ensures _ _ refl c.put_welded.ensures)

pub returns : goal.returns
returns c =
    let p = c.args.self.now in
    let r = p.rings in
    c.face_self_intersects.ensures
    ∙ answered r.layout.now r.work.now r.ringed c.args.g c.requires _ c.ring-face.ensures p.coords.now p.tolerance _ (loaded r.layout.now r.work.now r.ringed c.args.g c.requires _ c.ring-face.ensures _ _ refl c.put_welded.ensures)
