-- For internal contracts: the parts of lent lists that reading filled.
use Rattle.std.specs.Prelude.{ℕ, ◌*◌, ◌≤◌}
use Rattle.model_file.specs.declared.Found.{Found}

-- lists of these lengths have room for what was found
abbrev pub Within : Found → ℕ → ℕ → ℕ → ℕ → Type 0
Within f coords kinds ends words = (3 * f.nodes ≤ coords) × (f.cells ≤ kinds) × (f.cells ≤ ends) × (f.words ≤ words)
