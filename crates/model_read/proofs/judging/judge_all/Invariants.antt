use lib.ListN.{drop}
use Rattle.model_read.proofs.JudgePass.{Judging}
use Rattle.model_read.proofs.judging.judge_all.Given as goal

abbrev pub invariant-loop-r : goal.invariant-loop-r
invariant-loop-r l = Judging l.records l.stage l.p (drop l.r-index l.rest)
