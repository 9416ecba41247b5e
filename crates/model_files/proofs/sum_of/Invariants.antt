-- The sum stays below the number that it is taken by.
use Rattle.std.proofs.Common.{◌<◌}
use Rattle.model_files.proofs.sum_of.Given as goal

abbrev pub invariant-loop-x : goal.invariant-loop-x
invariant-loop-x l = l.sum < 4294967296
