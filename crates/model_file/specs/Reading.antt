-- Reading a file: why it refuses, what it answers, and what the lent lists hold afterwards.
use Rattle.std.specs.Prelude.{ℕ, ◌*◌, Bool, ◌||◌, List, [], ◌∷◌, ◌++◌, ◌≡◌, ltb, length, take, Float, Result}
use Rattle.laws.specs.Lists.{All}
use Rattle.laws.specs.Refusals.{refusal, answer, filled}
use Rattle.refusals.specs.Told.{told}
use Rattle.refusals.specs.declared.Refusal.{Refusal}
use Rattle.geometry.specs.Coordinates.{node_count}
use Rattle.mesh.specs.Model.{Model, model_of}
use Rattle.model_file.specs.File.{file_table, decode}
use Rattle.model_file.specs.Held.{Byte}
use Rattle.model_file.specs.declared.Found.{Found}

-- 4: lent lists of these lengths, one of them too short for the model
abbrev pub room_off : Model → ℕ → ℕ → ℕ → ℕ → Bool
room_off m coords kinds ends words =
    ltb coords (length m.coords) || ltb kinds (length m.kinds) || ltb ends (length m.ends) || ltb words (length m.words)

-- 1 to 3, then 4
abbrev pub read_refusal : List ℕ → List Float → List ℕ → List ℕ → List ℕ → ℕ
read_refusal s coords kinds ends words =
    refusal (file_table s ++ ((4, room_off (decode s) (length coords) (length kinds) (length ends) (length words)) ∷ []))

-- what a file holds besides the lists: the counts, tolerance, flags and cap
abbrev pub found_of : ℕ → ℕ → ℕ → Float → ℕ → ℕ → Found
found_of nodes cells words tolerance flags cap =
    record { nodes = nodes; cells = cells; words = words; tolerance = tolerance; checks = record { 0 = flags }; cap = cap }

-- that of a model
abbrev pub found_in : Model → Found
found_in m = found_of (node_count m.coords) (length m.kinds) (length m.words) m.tolerance m.flags m.cap

-- the model in the first parts of the lists, as reading found it
abbrev pub model_in : Found → List Float → List ℕ → List ℕ → List ℕ → Model
model_in f coords kinds ends words =
    model_of (take (3 * f.nodes) coords) (take f.cells kinds) (take f.cells ends) (take f.words words) f.tolerance f.checks.0 f.cap

-- What each lent list holds after reading.
pub record ReadMemory (s : List ℕ) (coords coords' : List Float) (kinds kinds' ends ends' words words' : List ℕ) : Type 0 where
  pub coords_are : coords' ≡ filled (read_refusal s coords kinds ends words) (decode s).coords coords
  pub kinds_are : kinds' ≡ filled (read_refusal s coords kinds ends words) (decode s).kinds kinds
  pub ends_are : ends' ≡ filled (read_refusal s coords kinds ends words) (decode s).ends ends
  pub words_are : words' ≡ filled (read_refusal s coords kinds ends words) (decode s).words words

-- Reading's promise: the answer, and what each lent list holds afterwards; the bytes are bytes, by the type of what is lent.
pub record Reading (s : List ℕ) (coords coords' : List Float) (kinds kinds' ends ends' words words' : List ℕ) (r : Result Found Refusal) : Type 0 where
  pub answered : told r ≡ answer (read_refusal s coords kinds ends words) (found_in (decode s))
  pub memory : ReadMemory s coords coords' kinds kinds' ends ends' words words'
  pub bytes : All Byte s
