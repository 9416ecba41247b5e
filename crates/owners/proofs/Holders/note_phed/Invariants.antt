use Rattle.mesh.specs.Rings.{phed_rings}
use Rattle.mesh.specs.PhedRest.{phed_rest}
use Rattle.owners.specs.Holding.{holders}
use Rattle.owners.proofs.Passing.{Noting}
use Rattle.owners.proofs.Holders.note_phed.Given as goal

abbrev pub invariant-loop-ring : goal.invariant-loop-ring
invariant-loop-ring l =
    let key = l.initial.self.key.now in
    Noting l.initial.self l.self (holders key l.number (phed_rings l.words)) (holders key l.number (phed_rest l.ring-iterator))
