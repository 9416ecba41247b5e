-- Text stored into a slice from a place on, and the records that a report tells of.
use Rattle.std.specs.Prelude.{ℕ, ◌+◌, ◌*◌, ◌≡◌, List, map, length}
use Rattle.std.proofs.lemmas.List.Edits.{sets}
use Rattle.laws.specs.Lists.{up_from}
use Rattle.findings.specs.Records.{Fields}
use Rattle.records.specs.Read.{fields_in}

-- the slice `before`, with a text from `at` on and all else as it was, is `after`; the text ends at `end`
abbrev pub Stored : List ℕ → ℕ → List ℕ → List ℕ → ℕ → Type 0
Stored before at text after end = (after ≡ sets before at text) × (end ≡ at + length text)

-- the fields of the first k records of 64 bytes
abbrev pub fields_kept : List ℕ → ℕ → List Fields
fields_kept f k = map (λ i. fields_in f (64 * i)) (up_from 0 k)
