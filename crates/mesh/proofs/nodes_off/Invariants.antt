use mathlib.Core.Path.{◌≡◌}
use mathlib.Core.Bool.{◌||◌}
use lib.ListN.{drop}
use Rattle.laws.specs.Lists.{any}
use Rattle.mesh.specs.Acceptance.{node_off}
use Rattle.mesh.specs.Kinds.{kind_number}
use Rattle.mesh.proofs.nodes_off.Given as goal

abbrev pub invariant-loop-word : goal.invariant-loop-word
invariant-loop-word l = (l.off || any (node_off l.nodes (kind_number l.kind)) (drop l.word-index l.words)) ≡ any (node_off l.nodes (kind_number l.kind)) l.words
