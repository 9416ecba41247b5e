-- For internal contracts: the words of a model's cells, and findings kept whatever the rules.
use Rattle.std.specs.Prelude.{ℕ, ◌<◌, false, List, ◌≡◌, length, get_or}
use Rattle.laws.specs.Merging.{AllBelow}
use Rattle.mesh.specs.Model.{cells_from}
use Rattle.mesh.specs.Acceptance.{ends_off}
use Rattle.findings.specs.Findings.{Rules, Finding}
use Rattle.findings.specs.Compared.{none}
use Rattle.records.specs.declared.Sink.{Sink}
use Rattle.records.specs.Keeping.{Kept}
use Rattle.mesh.specs.Rings.{nodes_in}
use Rattle.layout.specs.declared.Layout.{Layout}
use Rattle.layout.specs.ByCell.{repeat_cell}

-- the words of cell c
abbrev pub words_of_cell : List ℕ → List ℕ → List ℕ → ℕ → List ℕ
words_of_cell kinds ends words c = (get_or (cells_from 0 kinds ends words) c none).words

-- the cells of an accepted model: ends in order, and words that are nodes or separators
pub record CellsIn (l : Layout) (ks es ws : List ℕ) : Type 0 where
  pub counted : l.at.cell_count ≡ length ks
  pub paired : length ks ≡ length es
  pub order : ends_off 0 es (length ws) ≡ false
  pub words : l.words ≡ length ws
  pub known : (c : ℕ) → c < length ks → AllBelow l.at.nodes (nodes_in (words_of_cell ks es ws c))

-- the repeated nodes of cell c
abbrev pub repeat_in : Layout → List ℕ → List ℕ → List ℕ → List ℕ → ℕ → List Finding
repeat_in l t kinds ends words c = repeat_cell l t c (words_of_cell kinds ends words c)

-- kept, whatever the rules
abbrev pub KeptEver : List Finding → Sink → Sink → Type 0
KeptEver xs s s' = (R : Rules) → Kept R xs s s'
