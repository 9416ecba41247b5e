-- Filling ring lists: why it refuses, and what the lists and the work hold afterwards.
use Rattle.std.specs.Prelude.{ℕ, Bool, ◌||◌, List, [], ◌∷◌, ◌++◌, map, ◌≡◌, ltb, length, replicate, Result}
use Rattle.laws.specs.Refusals.{refusal, answer, filled}
use Rattle.refusals.specs.Told.{told}
use Rattle.refusals.specs.declared.Refusal.{Refusal}
use Rattle.mesh.specs.Model.{Model}
use Rattle.mesh.specs.Rings.{ring_words}
use Rattle.mesh.specs.Acceptance.{check_table, faces_in, work_needed}
use Rattle.snap.specs.Weld.{welded_by}
use Rattle.welding.specs.Used.{welds_of}

-- all rings in face order: raw, R words
unfoldable pub raw_rings : Model → List ℕ
raw_rings m = ring_words (faces_in m)

-- the same in welded numbers
unfoldable pub welded_rings : Model → List ℕ
welded_rings m = map (welded_by (welds_of m)) (raw_rings m)

-- 5 to 11, then 4: a list under R words
abbrev pub fill_table : Model → ℕ → ℕ → ℕ → List (ℕ × Bool)
fill_table m raw welded work =
    check_table m work ++ ((4, ltb raw (length (raw_rings m)) || ltb welded (length (raw_rings m))) ∷ [])

abbrev pub fill_refusal : Model → List ℕ → List ℕ → List ℕ → ℕ
fill_refusal m raw welded work = refusal (fill_table m (length raw) (length welded) (length work))

-- What filling leaves in lent memory: the first R words of each list, and the needed words of work, which end zero.
pub record FillMemory (m : Model) (raw raw' welded welded' work work' : List ℕ) : Type 0 where
  pub raw_is : raw' ≡ filled (fill_refusal m raw welded work) (raw_rings m) raw
  pub welded_is : welded' ≡ filled (fill_refusal m raw welded work) (welded_rings m) welded
  pub work_is : work' ≡ filled (fill_refusal m raw welded work) (replicate (work_needed m) 0) work

-- Filling's promise: the answer, and lent memory.
pub record Filling (m : Model) (raw raw' welded welded' work work' : List ℕ) (r : Result ℕ Refusal) : Type 0 where
  pub answered : told r ≡ answer (fill_refusal m raw welded work) (length (raw_rings m))
  pub memory : FillMemory m raw raw' welded welded' work work'
