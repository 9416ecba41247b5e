use mathlib.Core.Path.{◌≡◌}
use mathlib.Core.Bool.{◌||◌}
use lib.ListN.{drop}
use Rattle.geometry.specs.Coordinates.{coordinates_off}
use Rattle.geometry.proofs.coordinates_off.Given as goal

abbrev pub invariant-loop-x : goal.invariant-loop-x
invariant-loop-x l = (l.off || coordinates_off (drop l.x-index l.coords)) ≡ coordinates_off l.coords
