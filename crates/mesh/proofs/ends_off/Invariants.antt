use Rattle.mesh.specs.Acceptance.{ends_off}
use lib.ListN.{drop}
use mathlib.Core.Path.{◌≡◌}
use Rattle.mesh.proofs.ends_off.Given as goal

abbrev pub invariant-loop-end : goal.invariant-loop-end
invariant-loop-end l = ends_off l.at (drop l.end-index l.ends) l.n ≡ ends_off 0 l.ends l.n
