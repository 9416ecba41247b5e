-- A slice with its index.
use Rattle.std.specs.Prelude.{ℕ, ◌<◌, List, ◌++◌}
use Rattle.std.proofs.lemmas.List.Edits.{sets}
use Rattle.index.specs.declared.Places.{Places}
use Rattle.index.specs.Faces.{input, offsets_of, index_of}
use Rattle.seek.specs.Candidates.{Ready}

-- the index built in it
abbrev pub with_index : Places → List ℕ → List ℕ
with_index p w = sets w p.offsets (offsets_of p (input p w) ++ index_of p (input p w))

-- any face can be searched
abbrev pub ReadyAll : Places → List ℕ → Type 0
ReadyAll p w = (k : ℕ) → k < p.faces → Ready p k w
