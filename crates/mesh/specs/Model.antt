-- The model, its check flags, and its cells.
use Rattle.std.specs.Prelude.{ℕ, ◌-◌, Bool, true, not, ◌&&◌, List, [], ◌∷◌, leb, eqb, take, drop, Float}
use Rattle.std.specs.Int.Bits.{bit_and}

-- A model: node coordinates, three a node; for each cell a kind and an end place; all words; tolerance, check flags and cap.
pub record Model : Type 0 where
  pub coords : List Float
  pub kinds : List ℕ
  pub ends : List ℕ
  pub words : List ℕ
  pub tolerance : Float
  pub flags : ℕ
  pub cap : ℕ

abbrev pub model_of : List Float → List ℕ → List ℕ → List ℕ → Float → ℕ → ℕ → Model
model_of coords kinds ends words tolerance flags cap =
    record { coords = coords; kinds = kinds; ends = ends; words = words; tolerance = tolerance; flags = flags; cap = cap }

-- ---- check flags

-- `contains`: every bit of b is a bit of a
abbrev pub contains : ℕ → ℕ → Bool
contains a b = eqb (bit_and a b) b

-- `intersects`: a and b share a bit
abbrev pub intersects : ℕ → ℕ → Bool
intersects a b = not (eqb (bit_and a b) 0)

abbrev pub TOPOLOGY : ℕ
TOPOLOGY = 1

abbrev pub BUTTERFLY : ℕ
BUTTERFLY = 2

-- ---- kinds, in the order of `ElementType`

abbrev pub TET4 : ℕ
TET4 = 1

abbrev pub HEX8 : ℕ
HEX8 = 2

abbrev pub WEDGE6 : ℕ
WEDGE6 = 3

abbrev pub PHED : ℕ
PHED = 4

-- ---- cells

-- what the model says of a cell, without its number
pub record Raw : Type 0 where
  pub kind : ℕ
  pub words : List ℕ

-- the cells whose first word stands at a place, with the words from there on
abbrev pub cells_from : ℕ → List ℕ → List ℕ → List ℕ → List Raw
cells_from at [] es ws = []
cells_from at (k ∷ ks) [] ws = []
cells_from at (k ∷ ks) (e ∷ es) ws = record { kind = k; words = take (e - at) ws } ∷ cells_from e ks es (drop (e - at) ws)

-- the cells of a model, from kinds, ends and words
unfoldable pub cells_of : Model → List Raw
cells_of m = cells_from 0 m.kinds m.ends m.words

-- no cell's kind is below that of the cell before it, the first's not below k
abbrev pub ascending : ℕ → List Raw → Bool
ascending k [] = true
ascending k (c ∷ cs) = leb k c.kind && ascending c.kind cs
