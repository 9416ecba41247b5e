use lib.ListN.{drop}
use Rattle.mesh.specs.Rings.{at}
use Rattle.rings.proofs.Putting.{Putting, flat}
use Rattle.rings.proofs.put_rings.Given as goal

abbrev pub invariant-loop-ring : goal.invariant-loop-ring
invariant-loop-ring g l = Putting l.initial.out l.out l.at l.k (flat (at l.words l.fn.table)) (flat (at l.words (drop l.ring-index l.fn.table)))
