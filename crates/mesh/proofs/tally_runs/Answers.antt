use native.Mathlib.Omega.{arith}
use mathlib.Core.Path.{refl, ap, ◌∙◌}
use Rattle.mesh.specs.Rings.{phed_rings}
use Rattle.mesh.specs.PhedRest.{phed_rest}
use Rattle.mesh.proofs.RunTallies.{running_start, running_room, running_long, running_next, running_end}
use Rattle.mesh.proofs.tally_runs.Goals as goal

pub loop-ring-init : goal.loop-ring-init
loop-ring-init c =
    running_start c.args.words.now _ _ (ap phed_rest c.into_iter-ring-iterator.ensures.into_iter_gives ∙ ap phed_rings c.new-ring-items.ensures) refl refl

pub returns-then-ring-gt-RING_LIMIT : goal.returns-then-ring-gt-RING_LIMIT
returns-then-ring-gt-RING_LIMIT c = running_long c.loop-ring.invariant _ _ c.in-Some.ensures.steps c.if-ring-gt-RING_LIMIT.true

pub overflow_add-t : goal.overflow_add-t
overflow_add-t c = omega (arith, (running_room c.loop-ring.invariant _ _ c.in-Some.ensures.steps).0)

pub overflow_add-t-in-loop-ring : goal.overflow_add-t-in-loop-ring
overflow_add-t-in-loop-ring c = omega (arith, (running_room c.loop-ring.invariant _ _ c.in-Some.ensures.steps).1)

pub loop-ring-preserved : goal.loop-ring-preserved
loop-ring-preserved c = running_next c.loop-ring.invariant _ _ _ c.in-Some.ensures.steps c.if-ring-gt-RING_LIMIT.false refl refl

pub returns : goal.returns
returns c = running_end c.loop-ring.invariant c.in-None.ensures.steps.0
