use mathlib.Core.Path.{◌≡◌}
use lib.ListN.{drop}
use Rattle.laws.specs.Lists.{eql}
use Rattle.ascending.proofs.equal.Given as goal

abbrev pub invariant-loop-i : goal.invariant-loop-i
invariant-loop-i l = eql l.a l.b ≡ eql (drop l.i l.a) (drop l.i l.b)
