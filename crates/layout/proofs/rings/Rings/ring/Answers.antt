-- `layout::Rings::ring` meets its contract: the words between the two bounds are the ring.
use native.Mathlib.Omega.{arith}
use Rattle.layout.specs.Tables.{ring_row}
use Rattle.layout.proofs.Reading.{row_there}
use Rattle.layout.proofs.rings.Rings.ring.Goals as goal

pub returns : goal.returns
unfolding ring_row
returns c =
    let v = c.args.self.now in
    let l = v.layout.now in
    let rise = v.ringed.rising c.args.g c.requires in
    row_there l.rows l.rings l.at.bows c.args.g _ _ v.work.now c.row.ensures.0 c.row-2.ensures.0 (omega (arith, rise, c.row.ensures.0, c.row-2.ensures.0)) (omega (arith, c.row-2.ensures.1, v.ringed.rings_at))
