use mathlib.Core.Path.{ap}
use Rattle.rings.proofs.Putting.{flat, putting_room, putting_next}
use Rattle.rings.proofs.put_phed.Goals as goal

pub put_words-k-requires : goal.put_words-k-requires
put_words-k-requires c = let l = c.loop-ring in putting_room l.invariant _ _ (ap flat c.in-Some.ensures.steps) c.requires l.auto.out

pub loop-ring-preserved : goal.loop-ring-preserved
loop-ring-preserved c = putting_next c.loop-ring.invariant _ _ (ap flat c.in-Some.ensures.steps) _ _ c.put_words-k.ensures
