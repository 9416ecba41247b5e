-- For internal contracts: records one after the other, and the refusal of one record.
use Rattle.std.specs.Prelude.{ℕ, List, [], ◌∷◌}
use Rattle.laws.specs.Lists.{each}
use Rattle.laws.specs.Refusals.{refusal}
use Rattle.mesh.specs.Model.{cells_from}
use Rattle.model_file.specs.Records.{letter, misplaced, record_off}
use Rattle.model_file.specs.File.{cell_records, records_table}
use Rattle.model_file.specs.declared.Stage.{Stage}

-- records, one after the other
abbrev pub join : List (List ℕ) → List ℕ
join rs = each (λ r. r) rs

-- the records of the cells whose first word stands at a place
abbrev pub cells : ℕ → List ℕ → List ℕ → List ℕ → List (List ℕ)
cells at ks es ws = each cell_records (cells_from at ks es ws)

-- the refusal of records from a stage on
abbrev pub judge : Stage → List (List ℕ) → ℕ
judge s rs = refusal (records_table s rs)

-- the refusal of the first of them
abbrev pub record_refusal : Stage → List ℕ → ℕ
record_refusal s r = refusal ((2, misplaced s (letter r)) ∷ (3, record_off (letter r) r) ∷ [])
