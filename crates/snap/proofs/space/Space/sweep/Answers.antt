-- What is left to be swept, swept from here, is the whole sweep.
use Rattle.snap.proofs.Parts.{slice_to, nodes_rest}
use Rattle.snap.proofs.Between.{order_kept}
use native.Mathlib.Omega.{arith}
use Rattle.snap.proofs.space.Space.sweep.Goals as goal

pub lead-requires : goal.lead-requires
lead-requires c =
    let a = c.args in
    let p = c.requires in
    let v = c.loop-i.invariant in (
      omega arith,
      p.1,
      omega arith,
      omega arith,
      rw (slice_to a.g c.loop-i.i a.e c.loop-i.work a.work.now v.0.0 p.1) (nodes_rest _ a.o c.loop-i.i a.e a.work.now c.loop-i.auto.i p.4),
      order_kept a.self.now.coords.now a.g a.o c.loop-i.i a.e c.loop-i.work a.work.now v.0.0 p.1 c.loop-i.auto.i p.5,
    )
