use Rattle.merge.specs.Runs.{Lowest}
use Rattle.merge.proofs.Runs.lowest.Given as goal

abbrev pub invariant-loop-i : goal.invariant-loop-i
invariant-loop-i l = Lowest l.i l.base l.self.from l.self.to l.d l.r
