use Rattle.model_read.proofs.WordStores.{word_next}
use Rattle.model_read.proofs.filling.put_some.Goals as goal

pub loop-i-preserved : goal.loop-i-preserved
loop-i-preserved g c =
    let a = c.args in
    let l = c.loop-i in
    word_next a.words.now l.words a.at a.j l.i a.r.now c.word_at.result c.word_at.ensures l.invariant
