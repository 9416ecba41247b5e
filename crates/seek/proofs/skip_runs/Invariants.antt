use mathlib.Core.Path.{◌≡◌}
use Rattle.seek.proofs.Skipping.{Passing}
use Rattle.seek.proofs.skip_runs.Given as goal

abbrev pub invariant-loop-i : goal.invariant-loop-i
invariant-loop-i l = Passing l.end l.base l.initial.runs.from l.runs.from l.initial.runs.to l.i × (l.runs.count ≡ l.initial.runs.count) × (l.runs.to ≡ l.initial.runs.to)
