use native.Mathlib.Omega.{arith}
use Rattle.model_read.proofs.LeadingNodes.{leading_one, leading_none}
use Rattle.model_read.proofs.judging.leading_nodes.Goals as goal

pub returns-then-get-ne78 : goal.returns-then-get-ne78
returns-then-get-ne78 c =
    let z = leading_none c.args.records.now c.loop-n.n c.get.result c.loop-n-test.true c.get.ensures c.if-get-ne78.true in
    record { counted = omega (arith, c.loop-n.invariant); inside = omega arith }

pub loop-n-preserved : goal.loop-n-preserved
loop-n-preserved c =
    let z = leading_one c.args.records.now c.loop-n.n c.get.result c.loop-n-test.true c.get.ensures c.if-get-ne78.false in
    omega (arith, c.loop-n.invariant)
