use mathlib.Core.Path.{◌∙◌}
use native.Mathlib.Omega.{arith}
use Rattle.model_write.proofs.Putting.{words_more}
use Rattle.model_write.proofs.put_some.Goals as goal

pub loop-i-preserved : goal.loop-i-preserved
loop-i-preserved g c =
    let a = c.args in
    let l = c.loop-i in
    c.put.ensures ∙ words_more a.r.now l.r a.words.now a.j l.i _ (omega arith) c.low_bits.ensures l.invariant
