-- For internal contracts: the findings of a model, kind by kind.
use Rattle.std.specs.Prelude.{ℕ, ◌/◌, List, [], ◌++◌, ◌≡◌, length, take}
use Rattle.std.proofs.lemmas.List.Edits.{sets}
use Rattle.laws.specs.Lists.{only_if, each, walk, up_from}
use Rattle.mesh.specs.Model.{Model, contains, BUTTERFLY}
use Rattle.mesh.specs.Acceptance.{model_refusal}
use Rattle.findings.specs.Findings.{Finding, kind2, kind3, kind4}
use Rattle.findings.specs.Rules.{rules_of, cells_in, full_of}
use Rattle.findings.specs.Records.{record_of}
use Rattle.records.specs.declared.Sink.{Sink}
use Rattle.records.specs.Keeping.{Kept}
use Rattle.layout.specs.declared.Layout.{Layout}
use Rattle.layout.specs.ByCell.{bow_cell}
use Rattle.layout.specs.Shown.{Built}

-- kinds 2, 3 and 4
unfoldable pub topology_of : Model → List Finding
topology_of m = walk (kind2 (rules_of m)) [] (cells_in m) ++ (walk (kind3 (rules_of m)) [] (cells_in m) ++ walk (kind4 (rules_of m)) [] (cells_in m))

-- kind 1, where the flags ask for it, as the tables tell it
unfoldable pub butterflies_in : ℕ → Layout → List ℕ → List Finding
butterflies_in flags l t = only_if (contains flags BUTTERFLY) (each (bow_cell l t) (up_from 0 l.at.cell_count))

-- kept as the records of m
abbrev pub KeptBy : Model → List Finding → Sink → Sink → Type 0
KeptBy m xs s s' = Kept (rules_of m) xs s s'

-- the findings of m are k; the records of the first are written over f, which becomes f', as many as it has room for
pub record FoundIn (m : Model) (f f' : List ℕ) (k : ℕ) : Type 0 where
  pub count : k ≡ length (full_of m)
  pub bytes : f' ≡ sets f 0 (each (record_of (rules_of m)) (take (length f / 64) (full_of m)))

-- an accepted model whose tables are built in w
pub record Ready (m : Model) (l : Layout) (w : List ℕ) : Type 0 where
  pub accepted : model_refusal m ≡ 0
  pub built : Built m l w
