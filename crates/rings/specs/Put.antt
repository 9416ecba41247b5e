-- For internal contracts: words and rings that stand in a list.
use Rattle.std.specs.Prelude.{ℕ, ◌+◌, List, ◌≡◌, length}
use Rattle.std.proofs.lemmas.List.Edits.{sets}
use Rattle.laws.specs.Lists.{each}

-- words are put from place `at` on, as many as fit, and `end` is the place behind them
abbrev pub WordsPut : List ℕ → List ℕ → List ℕ → ℕ → ℕ → Type 0
WordsPut xs before after at end = (end ≡ at + length xs) × (after ≡ sets before at xs)

-- the same of rings, one after the other
abbrev pub RingsPut : List (List ℕ) → List ℕ → List ℕ → ℕ → ℕ → Type 0
RingsPut rs before after at end = WordsPut (each (λ r. r) rs) before after at end
