-- `indexes::index_faces` meets its contract. The tables stand after either index (Standing).
use mathlib.Core.Path.{◌∙◌}
use Rattle.indexes.proofs.Standing.{indexed_input, stands, second_input, stands_on}
use Rattle.indexes.proofs.index_faces.Goals as goal

pub index_keys-by-requires-clause-indexed : goal.index_keys-by-requires-clause-indexed
index_keys-by-requires-clause-indexed c =
    let x = c.prepare-way in
    (stands c.args.l c.args.work.now c.requires x.new.work x.ensures.work_after).indexed

pub returns-clause-standing : goal.returns-clause-standing
returns-clause-standing c =
    let l = c.args.l in
    let x = c.prepare-way in
    let y = c.index_keys-by in
    let s = stands l c.args.work.now c.requires x.new.work x.ensures.work_after in
    let same = y.ensures.work_unchanged in
    (stands_on l x.new.work y.new.work s same.0 same.1 same.2, y.ensures.keyed)

pub returns-clause-work_unchanged : goal.returns-clause-work_unchanged
returns-clause-work_unchanged c =
    let l = c.args.l in
    let w = c.args.work.now in
    let x = c.prepare-way in
    let y = c.index_keys-by in
    let s = stands l w c.requires x.new.work x.ensures.work_after in
    let same = y.ensures.work_unchanged in
    second_input l x.new.work y.new.work s same.0 same.1 same.2 ∙ indexed_input l w c.requires x.new.work x.ensures.work_after
