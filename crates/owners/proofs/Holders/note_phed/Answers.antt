use mathlib.Core.Path.{ap}
use native.Mathlib.Omega.{arith}
use Rattle.mesh.specs.Rings.{phed_rings}
use Rattle.owners.specs.Holding.{holder, holders}
use Rattle.owners.proofs.Passing.{holders_few, noting_next}
use Rattle.owners.proofs.Holders.note_phed.Goals as goal

pub note-requires : goal.note-requires
note-requires c =
    let a = c.args in
    omega (arith, c.requires, c.loop-ring.invariant.putting.place, holders_few a.self.now.key.now a.number (phed_rings a.words.now))

pub loop-ring-preserved : goal.loop-ring-preserved
loop-ring-preserved c =
    let a = c.args in
    noting_next c.loop-ring.invariant (λ key. holder key a.number c.in-Some.ring.now) _ _ (ap (holders a.self.now.key.now a.number) c.in-Some.ensures.steps) c.note.ensures
