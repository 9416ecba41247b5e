-- For internal contracts: how far the lists are filled, and what the passes over records need and leave.
use Rattle.std.specs.Prelude.{ℕ, suc, ◌+◌, ◌*◌, ◌-◌, ◌/◌, ◌^◌, ◌≤◌, ◌<◌, ◌≡◌, Bool, false, not, cond, ◌&&◌, ◌||◌, Option, Some, List, [], ◌∷◌, eqb, ltb, length, get_or, drop, Float, Result, MatchResult}
use Rattle.std.proofs.lemmas.List.Edits.{sets}
use Rattle.laws.specs.Lists.{each}
use Rattle.model_file.specs.Records.{letter, byte1, float_at, cap_in, words_at, coords_in, kinds_in, words_in, ends_in, record_off}
use Rattle.model_file.specs.File.{coords_of, kinds_of, words_of, ends_of}
use Rattle.model_file.specs.Steps.{judge, record_refusal}
use Rattle.model_file.specs.declared.Letter.{Letter}
use Rattle.model_file.specs.declared.Letter.TheVariants.{Node}
use Rattle.model_file.specs.declared.Stage.{Stage}
use Rattle.model_file.specs.declared.Stage.TheVariants.{Nodes as Begun}
use Rattle.refusals.specs.Told.{number}
use Rattle.refusals.specs.declared.Refusal.{Refusal}
use Rattle.model_file.specs.declared.Found.{Found}
use Rattle.model_read.specs.declared.Place.{Place}

-- the place in the lists after a record
abbrev pub after : Option Letter → List ℕ → Place → Place
after l r p = record { coords = p.coords + length (coords_in l r); cells = p.cells + length (kinds_in l r); words = p.words + length (words_in l r) }

-- an N with nothing wrong
abbrev pub right_node : List ℕ → Bool
right_node r = eqb (get_or r 0 0) 78 && not (record_off (Some Node) r)

-- how many records from the first on are such
abbrev pub leading : List (List ℕ) → ℕ
leading [] = 0
leading (r ∷ rs) = cond (right_node r) (suc (leading rs)) 0

-- n is how many of these records are
pub record Nodes (rs : List (List ℕ)) (n : ℕ) : Type 0 where
  pub counted : n ≡ leading rs
  pub inside : n ≤ length rs

-- the coordinates of records that are N
abbrev pub node_coords : List (List ℕ) → List Float
node_coords rs = each (coords_in (Some Node)) rs

-- a record at a stage: its letter, or the refusal
abbrev pub RecordJudged : Stage → List ℕ → Result Letter Refusal → Type 0
RecordJudged s r x = MatchResult x (λ l. (letter r ≡ Some l) × (record_refusal s r ≡ 0)) (λ e. record_refusal s r ≡ number e)

-- the records of a file with nothing wrong, and how much they hold
pub record Counted (rs : List (List ℕ)) (p : Place) : Type 0 where
  pub judged : judge Begun rs ≡ 0
  pub coords : p.coords ≡ length (coords_of rs)
  pub cells : p.cells ≡ length (kinds_of rs)
  pub words : p.words ≡ length (words_of rs)

-- the judging pass: how much the records hold, or the refusal
abbrev pub Judged : List (List ℕ) → Result Place Refusal → Type 0
Judged rs x = MatchResult x (Counted rs) (λ e. judge Begun rs ≡ number e)

-- lists of these lengths, one of them too short
abbrev pub short : Place → ℕ → ℕ → ℕ → ℕ → Bool
short p coords kinds ends words = ltb coords p.coords || ltb kinds p.cells || ltb ends p.cells || ltb words p.words

-- words j to k of a C or K
abbrev pub words_between : ℕ → ℕ → List ℕ → List ℕ
words_between j k r = words_at (k - j) (drop (4 + 2 * j) r)

-- words j to k of n are stored behind a place, and fewer than `most` are left
pub record Stored (r : List ℕ) (at n j k most : ℕ) (words words' : List ℕ) : Type 0 where
  pub up : j ≤ k
  pub inside : k ≤ n
  pub few : n < k + most
  pub words_are : words' ≡ sets words (at + j) (words_between j k r)

-- room for what a record with this letter adds, in lists of these lengths
pub record Room (l : Option Letter) (r : List ℕ) (p : Place) (kinds ends words : ℕ) : Type 0 where
  pub little : length (words_in l r) ≤ 14
  pub kinds_fit : p.cells + length (kinds_in l r) ≤ kinds
  pub ends_fit : p.cells ≤ ends
  pub words_fit : p.words + length (words_in l r) ≤ words
  pub few_coords : p.coords < 2 ^ 40
  pub few_cells : p.cells < 2 ^ 40
  pub few_words : p.words < 2 ^ 32

-- what it leaves in the lists
pub record Put (l : Option Letter) (r : List ℕ) (p : Place) (kinds kinds' ends ends' words words' : List ℕ) : Type 0 where
  pub kinds_are : kinds' ≡ sets kinds p.cells (kinds_in l r)
  pub ends_are : ends' ≡ sets ends (p.cells - 1) (ends_in l (ltb 0 p.cells) p.words)
  pub words_are : words' ≡ sets words p.words (words_in l r)

-- the records of a file, and lists of these lengths that it fits into
pub record Fitting (rs : List (List ℕ)) (coords kinds ends words : ℕ) : Type 0 where
  pub short : length rs ≤ 131072
  pub judged_well : judge Begun rs ≡ 0
  pub coords_fit : length (coords_of rs) ≤ coords
  pub kinds_fit : length (kinds_of rs) ≤ kinds
  pub ends_fit : length (kinds_of rs) ≤ ends
  pub words_fit : length (words_of rs) ≤ words

-- what the filling pass leaves in the lists
pub record Filled (rs : List (List ℕ)) (coords coords' : List Float) (kinds kinds' ends ends' words words' : List ℕ) : Type 0 where
  pub coords_are : coords' ≡ sets coords 0 (coords_of rs)
  pub kinds_are : kinds' ≡ sets kinds 0 (kinds_of rs)
  pub ends_are : ends' ≡ sets ends 0 (ends_of false 0 rs)
  pub words_are : words' ≡ sets words 0 (words_of rs)

-- what is answered, from the last record and the place after it
abbrev pub found_at : List ℕ → Place → Found
found_at r p = record { nodes = p.coords / 3; cells = p.cells; words = p.words; tolerance = float_at 8 r; checks = record { 0 = byte1 r }; cap = cap_in r }
