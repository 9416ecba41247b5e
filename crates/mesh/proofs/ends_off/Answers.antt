use native.Mathlib.Omega.{arith}
use Rattle.mesh.proofs.Ends.{ends_down, ends_on, ends_over}
use mathlib.Core.Path.{sym, ◌∙◌}
use Rattle.mesh.proofs.ends_off.Goals as goal

pub returns-then-e-at : goal.returns-then-e-at
returns-then-e-at c =
    let l = c.loop-end in
    sym (sym l.invariant ∙ ends_down l.at c.args.n c.args.ends.now l.end-index (omega arith) c.if-e-at.true)

pub loop-end-preserved : goal.loop-end-preserved
loop-end-preserved c =
    let l = c.loop-end in
    sym (ends_on l.at c.args.n c.args.ends.now l.end-index (omega arith) c.if-e-at.false) ∙ l.invariant

pub returns : goal.returns
returns c =
    let l = c.loop-end in
    sym (ends_over l.at c.args.n c.args.ends.now l.end-index (omega arith)) ∙ l.invariant
