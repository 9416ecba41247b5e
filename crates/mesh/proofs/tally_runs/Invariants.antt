use Rattle.mesh.specs.PhedRest.{phed_rest}
use Rattle.mesh.proofs.RunTallies.{Running}
use Rattle.mesh.proofs.tally_runs.Given as goal

abbrev pub invariant-loop-ring : goal.invariant-loop-ring
invariant-loop-ring l = Running l.words l.t (phed_rest l.ring-iterator)
