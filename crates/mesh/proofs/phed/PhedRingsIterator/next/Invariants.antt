use lib.ListN.{length}
use mathlib.Core.Path.{◌≡◌}
use Rattle.mesh.specs.Rings.{phed_rings}
use Rattle.mesh.proofs.phed.PhedRingsIterator.next.Given as goal

abbrev pub invariant-loop-n : goal.invariant-loop-n
invariant-loop-n l = phed_rings l.self.words.now ≡ phed_rings l.initial.self.words.now

abbrev pub decreases-loop-n : goal.decreases-loop-n
decreases-loop-n l = length l.self.words.now
