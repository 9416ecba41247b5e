use mathlib.Core.Path.{◌≡◌}
use lib.ListN.{drop}
use Rattle.laws.specs.Lists.{elem}
use Rattle.common_nodes.proofs.has.Given as goal

abbrev pub invariant-loop-word : goal.invariant-loop-word
invariant-loop-word l = elem l.v (drop l.word-index l.words) ≡ elem l.v l.words
