-- The file: the bytes of a model, the model of bytes, and what is refused of bytes.
use Rattle.std.specs.Prelude.{ℕ, zero, suc, ◌+◌, ◌-◌, ◌/◌, ◌%◌, Bool, true, false, not, ◌||◌, Option, List, [], ◌∷◌, ◌++◌, eqb, ltb, length, get_or, take, drop, Float}
use Rattle.laws.specs.Limits.{record_limit}
use Rattle.laws.specs.Lists.{each, last}
use Rattle.mesh.specs.Model.{Model, Raw, model_of, cells_of}
use Rattle.model_file.specs.Records.{words_most, node_record, cell_record, more_record, last_record, letter, byte1, float_at, cap_in, by_letter, coords_in, kinds_in, words_in, ends_in, stage, ended, misplaced, record_off}
use Rattle.model_file.specs.declared.Letter.{Letter}
use Rattle.model_file.specs.declared.Stage.{Stage}
use Rattle.model_file.specs.declared.Stage.TheVariants.{Nodes}

-- ---- from a model to its file

-- an N for each three coordinates
abbrev pub node_records : List Float → List (List ℕ)
node_records [] = []
node_records (x ∷ []) = []
node_records (x ∷ y ∷ []) = []
node_records (x ∷ y ∷ z ∷ rest) = node_record x y z ∷ node_records rest

-- n records that continue a cell
abbrev pub more_records : ℕ → List ℕ → List (List ℕ)
more_records zero ws = []
more_records (suc n) ws = more_record (take words_most ws) ∷ more_records n (drop words_most ws)

-- a cell: C, then as many K as its further words need
abbrev pub cell_records : Raw → List (List ℕ)
cell_records c = cell_record c.kind (take words_most c.words) ∷ more_records ((length c.words - 1) / words_most) (drop words_most c.words)

-- all N first, then cells, one T last
unfoldable pub records_of : Model → List (List ℕ)
records_of m = node_records m.coords ++ (each cell_records (cells_of m) ++ (last_record m.flags m.cap m.tolerance ∷ []))

-- the file's bytes
unfoldable pub encode : Model → List ℕ
encode m = each (λ r. r) (records_of m)

-- ---- from bytes to the model

-- bytes cut into n records
abbrev pub chop : ℕ → List ℕ → List (List ℕ)
chop zero s = []
chop (suc n) s = take 32 s ∷ chop n (drop 32 s)

-- the records of a file
abbrev pub records : List ℕ → List (List ℕ)
records s = chop (length s / 32) s

-- all coordinates
abbrev pub coords_of : List (List ℕ) → List Float
coords_of rs = each (λ r. coords_in (letter r) r) rs

-- all kinds
abbrev pub kinds_of : List (List ℕ) → List ℕ
kinds_of rs = each (λ r. kinds_in (letter r) r) rs

-- all words
abbrev pub words_of : List (List ℕ) → List ℕ
words_of rs = each (λ r. words_in (letter r) r) rs

-- a cell has begun, with a C
abbrev pub opens : Option Letter → Bool → Bool
opens l begun = by_letter begun true begun begun begun l

-- the ends, where a cell has begun or not, after so many words
abbrev pub ends_of : Bool → ℕ → List (List ℕ) → List ℕ
ends_of begun at [] = []
ends_of begun at (r ∷ rs) = ends_in (letter r) begun at ++ ends_of (opens (letter r) begun) (at + length (words_in (letter r) r)) rs

-- T: the last record
abbrev pub last_of : List (List ℕ) → List ℕ
last_of rs = get_or (last rs) 0 []

-- the model of a file's bytes
unfoldable pub decode : List ℕ → Model
decode s =
    model_of (coords_of (records s)) (kinds_of (records s)) (ends_of false 0 (records s)) (words_of (records s)) (float_at 8 (last_of (records s))) (byte1 (last_of (records s))) (cap_in (last_of (records s)))

-- ---- why bytes are refused

-- 1: length 0, no multiple of 32 or over the limit
abbrev pub length_off : ℕ → Bool
length_off n = eqb n 0 || not (eqb (n % 32) 0) || ltb record_limit (n / 32)

-- records one by one from a stage on, 2 before 3; no T last comes after all
abbrev pub records_table : Stage → List (List ℕ) → List (ℕ × Bool)
records_table s [] = (2, not (ended s)) ∷ []
records_table s (r ∷ rs) =
    (2, misplaced s (letter r)) ∷ (3, record_off (letter r) r) ∷ records_table (stage (letter r) r) rs

-- 1 to 3
abbrev pub file_table : List ℕ → List (ℕ × Bool)
file_table s = (1, length_off (length s)) ∷ records_table Nodes (records s)
