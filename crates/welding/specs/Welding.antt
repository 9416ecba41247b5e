-- The welding operation: why it refuses, and what the map and the scratch memory hold afterwards.
use Rattle.std.specs.Prelude.{ℕ, ◌*◌, Bool, ◌||◌, List, [], ◌∷◌, ◌++◌, ◌≡◌, ltb, length, replicate, Result}
use Rattle.laws.specs.Refusals.{refusal, answer, filled}
use Rattle.refusals.specs.Told.{told}
use Rattle.refusals.specs.declared.Refusal.{Refusal}
use Rattle.geometry.specs.Coordinates.{node_count}
use Rattle.mesh.specs.Model.{Model}
use Rattle.mesh.specs.Acceptance.{mesh_table}
use Rattle.welding.specs.Used.{welds_of}

-- scratch: three words a node
abbrev pub scratch_needed : Model → ℕ
scratch_needed m = 3 * node_count m.coords

-- 5 to 9 as the check, then 4: the map or the scratch too short
abbrev pub weld_table : Model → ℕ → ℕ → List (ℕ × Bool)
weld_table m map scratch = mesh_table m ++ ((4, ltb map (node_count m.coords) || ltb scratch (scratch_needed m)) ∷ [])

abbrev pub weld_refusal : Model → List ℕ → List ℕ → ℕ
weld_refusal m map scratch = refusal (weld_table m (length map) (length scratch))

-- What welding leaves in lent memory: the map's first words are the welded numbers of all nodes, the scratch's first are zero.
pub record WeldMemory (m : Model) (map map' scratch scratch' : List ℕ) : Type 0 where
  pub map_is : map' ≡ filled (weld_refusal m map scratch) (welds_of m) map
  pub scratch_is : scratch' ≡ filled (weld_refusal m map scratch) (replicate (scratch_needed m) 0) scratch

-- Welding's promise: the answer, and lent memory.
pub record Welding (m : Model) (map map' scratch scratch' : List ℕ) (r : Result (Unit {0}) Refusal) : Type 0 where
  pub answered : told r ≡ answer (weld_refusal m map scratch) tt
  pub memory : WeldMemory m map map' scratch scratch'
