-- Where a ring lies in a list of rings and in a cell. For internal contracts: the cell that holds a face.
use Rattle.std.specs.Prelude.{ℕ, ◌+◌, ◌-◌, ◌*◌, ◌≤◌, ◌<◌, false, List, [], ◌∷◌, ◌++◌, ◌≡◌, length, get_or, take, drop}
use Rattle.std.specs.declared.ops.Range.{Range}
use Rattle.laws.specs.Limits.{cell_limit, word_limit}
use Rattle.laws.specs.Lists.{each}
use Rattle.mesh.specs.Acceptance.{ends_off}
use Rattle.mesh.specs.Model.{Model, Raw, cells_from, cells_of}
use Rattle.mesh.specs.Rings.{phed_rings, rings_of}
use Rattle.mesh.specs.CellsRest.{cell_raw, cells_rest}
use Rattle.mesh.specs.Steps.{ring_total, cell_with, WellCells}
use Rattle.mesh.specs.declared.accepted.Cells.{Cells}
use Rattle.faces.specs.declared.Span.{Span}
use Rattle.faces.specs.declared.Place.{Place}

-- lists of sound cells: ends in order, each cell's kind and word count right
pub record Sound (kinds ends words : List ℕ) : Type 0 where
  pub paired : length kinds ≡ length ends
  pub order : ends_off 0 ends (length words) ≡ false
  pub well : WellCells (cells_from 0 kinds ends words)
  pub few : length kinds ≤ cell_limit
  pub small : length words ≤ word_limit

-- all rings of a model's cells, in face order
abbrev pub rings_in : Model → List (List ℕ)
rings_in m = each rings_of (cells_of m)

-- all rings of the cells that are left
abbrev pub rings_left : Cells → List (List ℕ)
rings_left cs = each rings_of (cells_rest cs)

-- ring f of rs starts there among all words of the rings, and has so many words
pub record SpanIn (rs : List (List ℕ)) (f : ℕ) (s : Range ℕ) : Type 0 where
  pub start : s.start ≡ ring_total (take f rs)
  pub end : s.end ≡ s.start + length (get_or rs f [])

-- where a ring lies among ring words
abbrev pub range : Span → Range ℕ
range s = record { start = s.start; end = s.end }

-- ring f of a PHED, which is a part of its words
pub record RunSpan (ws : List ℕ) (f : ℕ) (s : Span) : Type 0 where
  pub spot : SpanIn (phed_rings ws) f (range s)
  pub run : take (s.end - s.start) (drop s.at ws) ≡ get_or (phed_rings ws) f []
  pub within : s.at + (s.end - s.start) ≤ length ws
  pub small : s.start ≤ length ws

-- ring f of a cell
pub record CellSpan (kind : ℕ) (ws : List ℕ) (f : ℕ) (s : Span) : Type 0 where
  pub spot : SpanIn (rings_of (cell_with kind ws)) f (range s)
  pub run : kind ≡ 4 → RunSpan ws f s
  pub small : s.start ≤ 24 + length ws

-- the cell at a place in lists of kinds and words
abbrev pub cell_at : List ℕ → List ℕ → Place → Raw
cell_at kinds words p = cell_with (get_or kinds p.number 0) (take (length p.cell.words.now) (drop p.from words))

-- the cell that holds face f, with those before and behind it, and where it stands in the lists
pub record CellFound (cs : Cells) (f : ℕ) (p : Place) : Type 0 where
  pub before : List Raw
  pub behind : List Raw
  pub parts : before ++ cell_raw p.cell ∷ behind ≡ cells_rest cs
  pub face : length (each rings_of before) + p.face ≡ f
  pub within : p.face < length (rings_of (cell_raw p.cell))
  pub start : p.start ≡ ring_total (each rings_of before)
  pub number : p.number ≡ length before
  pub from : p.from ≡ length (each (λ c. c.words) before)
  pub cell : p.number < length cs.left.kinds.now
  pub end : p.from + length p.cell.words.now ≤ length cs.left.words.now
  pub is : cell_at cs.left.kinds.now cs.left.words.now p ≡ cell_raw p.cell
  pub small : p.start ≤ 24 * p.number + p.from
