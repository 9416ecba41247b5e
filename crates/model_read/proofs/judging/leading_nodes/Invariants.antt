use Prim.Native.Nat.{◌+◌}
use mathlib.Core.Path.{◌≡◌}
use lib.ListN.{drop}
use Rattle.model_read.specs.Steps.{leading}
use Rattle.model_read.proofs.judging.leading_nodes.Given as goal

abbrev pub invariant-loop-n : goal.invariant-loop-n
invariant-loop-n l = l.n + leading (drop l.n l.records) ≡ leading l.records
