use lib.ListN.{drop}
use Rattle.model_read.proofs.FillPass.{Filling}
use Rattle.model_read.proofs.filling.fill_all.Given as goal

abbrev pub invariant-loop-r : goal.invariant-loop-r
invariant-loop-r l = Filling l.records l.initial.kinds l.initial.ends l.initial.words l.kinds l.ends l.words l.p (drop l.r-index l.rest)
