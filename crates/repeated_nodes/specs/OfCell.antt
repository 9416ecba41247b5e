-- For internal contracts: the finding of repeated nodes.
use Rattle.std.specs.Prelude.{ℕ}
use Rattle.findings.specs.Findings.{Finding, repeated}

-- the finding of two nodes of cell c
abbrev pub of_cell : ℕ → ℕ × ℕ → Finding
of_cell c p = repeated c p.0 p.1
