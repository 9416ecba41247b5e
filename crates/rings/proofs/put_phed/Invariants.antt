use Rattle.mesh.specs.Rings.{phed_rings}
use Rattle.mesh.specs.PhedRest.{phed_rest}
use Rattle.rings.proofs.Putting.{Putting, flat}
use Rattle.rings.proofs.put_phed.Given as goal

abbrev pub invariant-loop-ring : goal.invariant-loop-ring
invariant-loop-ring l = Putting l.initial.out l.out l.at l.k (flat (phed_rings l.words)) (flat (phed_rest l.ring-iterator))
