-- `layout::Tables::key` meets its contract: the words between the two bounds are the key.
use native.Mathlib.Omega.{arith}
use Rattle.layout.specs.Tables.{key_row}
use Rattle.layout.proofs.Reading.{row_there}
use Rattle.layout.proofs.tables.Tables.key.Goals as goal

pub returns : goal.returns
unfolding key_row
returns c =
    let v = c.args.self.now in
    let l = v.layout.now in
    let rise = v.faced.rising c.args.g c.requires in
    row_there l.rows l.keys l.at.offsets c.args.g _ _ v.work.now c.row.ensures.0 c.row-2.ensures.0 (omega (arith, rise, c.row.ensures.0, c.row-2.ensures.0)) (omega (arith, c.row-2.ensures.1, v.faced.keys_at))
