-- `program::run` meets its contract: the arrays have the sizes that a run in lent lists needs.
use lib.ListN.{length}
use Rattle.floats.specs.Floats.{zero64}
use Rattle.program.proofs.Sizes.{array_lists, array_memory}
use Rattle.program.proofs.run.Goals as goal

pub run_in-requires : goal.run_in-requires
run_in-requires c = (array_lists zero64 0 0 0, array_memory 0 0 (length c.args.out.now) c.requires)
