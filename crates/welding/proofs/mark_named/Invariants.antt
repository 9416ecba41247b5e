use mathlib.Core.Path.{◌≡◌}
use lib.ListN.{drop}
use Rattle.mesh.specs.Rings.{nodes_in}
use Rattle.snap.specs.Steps.{put_all}
use Rattle.welding.proofs.mark_named.Given as goal

abbrev pub invariant-loop-word : goal.invariant-loop-word
invariant-loop-word l = put_all l.k 1 (nodes_in (drop l.word-index l.words)) l.work ≡ put_all l.k 1 (nodes_in l.words) l.initial.work
