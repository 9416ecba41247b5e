use Rattle.mesh.specs.Lent.{lent}
use Rattle.faces.specs.Spans.{rings_in}
use Rattle.faces.proofs.Rings.{few_words}
use Rattle.tables.proofs.Rows.{rows_ask, rows_put}
use Rattle.tables.proofs.put_rows.Goals as goal

pub run_up-requires : goal.run_up-requires
run_up-requires c =
    let a = c.args in
    let m = a.model.now in
    rows_ask (rings_in (lent m.model)) (few_words (lent m.model) m.faces m.ring_words m.tallied) a.work.now _ a.at _ c.requires c.put_lengths-end.ensures

pub returns : goal.returns
returns c =
    let a = c.args in
    let m = a.model.now in
    rows_put (rings_in (lent m.model)) (few_words (lent m.model) m.faces m.ring_words m.tallied) a.work.now _ a.at _ c.requires c.put_lengths-end.ensures _ c.run_up.ensures
