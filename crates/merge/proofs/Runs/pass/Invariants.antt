use mathlib.Core.Path.{◌≡◌}
use mathlib.Core.List.{map}
use lib.ListN.{length}
use lib.Seq.{sets}
use Rattle.laws.specs.Lists.{keep, up_from}
use Rattle.merge.specs.Runs.{stands, next}
use Rattle.merge.proofs.Runs.pass.Given as goal

abbrev pub invariant-loop-i : goal.invariant-loop-i
invariant-loop-i l =
    (l.n ≡ length (keep (stands l.base l.initial.self.from l.initial.self.to l.g) (up_from 0 l.i)))
    × (l.self.from ≡ sets l.initial.self.from 0 (map (next l.base l.initial.self.from l.initial.self.to l.g) (up_from 0 l.i)))
    × (l.self.count ≡ l.initial.self.count) × (l.self.to ≡ l.initial.self.to)
