-- For internal contracts: findings kept, whatever the tolerance.
use Rattle.std.specs.Prelude.{List, Float}
use Rattle.findings.specs.Findings.{Finding}
use Rattle.records.specs.declared.Sink.{Sink}
use Rattle.records.specs.Keeping.{Kept}
use Rattle.layout.specs.ByCell.{plain_rules}

-- kept, whatever the tolerance: no record depends on it
abbrev pub KeptAny : List Float → List Finding → Sink → Sink → Type 0
KeptAny coords xs s s' = (tol : Float) → Kept (plain_rules coords tol) xs s s'
