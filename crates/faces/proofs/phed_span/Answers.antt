use mathlib.Core.Path.{refl}
use native.Mathlib.Omega.{arith}
use Rattle.faces.proofs.Polyhedra.{running_start, run_fits, running_short, running_on, running_found, running_more}
use Rattle.faces.proofs.phed_span.Goals as goal

pub loop-at-init : goal.loop-at-init
loop-at-init c = running_start c.args.words.now c.args.face

pub loop-at-smaller-then-n-lt3 : goal.loop-at-smaller-then-n-lt3
loop-at-smaller-then-n-lt3 c = omega (arith, c.loop-at-test.true)

pub loop-at-preserved-then-n-lt3 : goal.loop-at-preserved-then-n-lt3
loop-at-preserved-then-n-lt3 c = running_short c.loop-at.invariant _ c.run_length-n.ensures c.loop-at-test.true (omega arith)

pub overflow_add-result : goal.overflow_add-result
overflow_add-result c = omega (arith, run_fits c.loop-at.invariant _ c.run_length-n.ensures c.loop-at-test.true, c.loop-at.invariant.small)

pub returns-then-left-eq0 : goal.returns-then-left-eq0
returns-then-left-eq0 c =
    running_found c.loop-at.invariant _ c.run_length-n.ensures c.loop-at-test.true (omega arith) (omega arith) _ refl refl refl

pub overflow_add-start : goal.overflow_add-start
overflow_add-start c = omega (arith, run_fits c.loop-at.invariant _ c.run_length-n.ensures c.loop-at-test.true, c.loop-at.invariant.small)

pub overflow_add-at-in-loop-at : goal.overflow_add-at-in-loop-at
overflow_add-at-in-loop-at c = omega (arith, run_fits c.loop-at.invariant _ c.run_length-n.ensures c.loop-at-test.true)

pub overflow_add-at-in-loop-at-2 : goal.overflow_add-at-in-loop-at-2
overflow_add-at-in-loop-at-2 c = omega (arith, run_fits c.loop-at.invariant _ c.run_length-n.ensures c.loop-at-test.true)

pub loop-at-smaller : goal.loop-at-smaller
loop-at-smaller c = omega (arith, c.loop-at-test.true)

pub loop-at-preserved : goal.loop-at-preserved
loop-at-preserved c = running_on c.loop-at.invariant _ c.run_length-n.ensures c.loop-at-test.true (omega arith) (omega arith)

pub unreachable-requires : goal.unreachable-requires
unreachable-requires c = running_more c.loop-at.invariant c.requires (omega arith)
