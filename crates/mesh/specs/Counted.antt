-- For internal contracts: what a pass over cells judges and counts.
use Rattle.std.specs.Prelude.{ℕ, ◌<◌, List, ◌≡◌, length, Result, IfOk}
use Rattle.laws.specs.Lists.{each}
use Rattle.laws.specs.Refusals.{refusal, answer}
use Rattle.refusals.specs.Told.{told_by}
use Rattle.refusals.specs.declared.Refusal.{Refusal}
use Rattle.mesh.specs.Model.{Model, Raw}
use Rattle.mesh.specs.Rings.{rings_of}
use Rattle.mesh.specs.Acceptance.{cell_table, cells_table, mesh_table}
use Rattle.mesh.specs.Steps.{ring_total, CellTallied, Tallied}
use Rattle.mesh.specs.declared.CellTally.{CellTally}

-- the number alone of an answer that is told
abbrev pub refused_by : {A : Type 0} → Result A Refusal → ℕ → Type 0
refused_by r n = told_by (λ _. tt {0}) r ≡ answer n (tt {0})

-- a cell, among n nodes and after one of kind `before`
pub record CellCounted (n before : ℕ) (c : Raw) (r : Result CellTally Refusal) : Type 0 where
  pub answered : refused_by r (refusal (cell_table n before c))
  pub tallied : IfOk r (CellTallied c)

-- faces and ring words of cells
pub record CellsTallied (cs : List Raw) (t : CellTally) : Type 0 where
  pub faces : t.faces ≡ length (each rings_of cs)
  pub words : t.words ≡ ring_total (each rings_of cs)
  pub few : t.faces < 4294967296
  pub small : t.words < 4294967296

-- cells, among n nodes
pub record CellsCounted (n : ℕ) (cs : List Raw) (r : Result CellTally Refusal) : Type 0 where
  pub answered : refused_by r (refusal (cells_table n 0 cs))
  pub tallied : IfOk r (CellsTallied cs)

-- a model, whatever its flags
pub record MeshCounted (m : Model) (r : Result CellTally Refusal) : Type 0 where
  pub answered : refused_by r (refusal (mesh_table m))
  pub tallied : IfOk r (λ t. Tallied m t.faces t.words)
