-- For internal contracts: how far a walk over nodes has come.
use Rattle.std.specs.Prelude.{ℕ}
use Rattle.snap.specs.declared.passing.Walk.{Walk}
use Rattle.snap.specs.Steps.{Reached}

-- r is the walk's first place, or the nodes from there to r are passed over
abbrev pub ReachedBy : Walk → ℕ → Type 0
ReachedBy w r = Reached w.coords.now w.limit w.a w.b w.from r w.work.now
