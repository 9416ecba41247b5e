use mathlib.Core.Path.{◌≡◌}
use mathlib.Core.Bool.{true}
use Rattle.laws.specs.Lists.{elem}
use Rattle.index.specs.Read.{set_of}
use Rattle.overfull.proofs.rarest.Given as goal

abbrev pub invariant-loop-u : goal.invariant-loop-u
invariant-loop-u l = elem l.v (set_of l.ix l.g) ≡ true
