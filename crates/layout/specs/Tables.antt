-- For internal contracts: the tables of a model's faces in the lent work, below the index, and the scratch behind it.
use Rattle.std.specs.Prelude.{ℕ, ◌+◌, ◌-◌, ◌*◌, ◌≤◌, ◌<◌, ◌^◌, List, map, ◌≡◌, leb, length, get_or, take, replicate}
use Rattle.laws.specs.Lists.{up_from, sort}
use Rattle.laws.specs.Merging.{region, AllBelow}
use Rattle.mesh.specs.Rings.{Face, node_set}
use Rattle.index.specs.Faces.{input, base, cell_of, nodes_of, Laid, Indexed}
use Rattle.layout.specs.declared.Layout.{Layout}

-- row g of lists that stand one after the other from `words` on, and start where the numbers from `starts` on say
abbrev pub row_of : (starts words : ℕ) → List ℕ → ℕ → List ℕ
row_of starts words t g = region (words + get_or t (starts + g) 0) (get_or t (starts + (g + 1)) 0 - get_or t (starts + g) 0) t

-- the ring of face g, and its key
unfoldable pub ring_row : Layout → List ℕ → ℕ → List ℕ
ring_row l t g = row_of l.rows l.rings t g

unfoldable pub key_row : Layout → List ℕ → ℕ → List ℕ
key_row l t g = row_of l.rows l.keys t g

-- the number of the first face of cell c
abbrev pub first_of : Layout → List ℕ → ℕ → ℕ
first_of l t c = get_or t (l.firsts + c) 0

-- how many faces cell c has
abbrev pub face_count : Layout → List ℕ → ℕ → ℕ
face_count l t c = first_of l t (c + 1) - first_of l t c

-- face g
unfoldable pub face_row : Layout → List ℕ → ℕ → Face
face_row l t g = record { num = g; cell = cell_of l.at t g; ring = ring_row l t g }

-- all faces, and those of cell c
unfoldable pub faces_at : Layout → List ℕ → List Face
faces_at l t = map (face_row l t) (up_from 0 l.at.faces)

unfoldable pub faces_of_cell : Layout → List ℕ → ℕ → List Face
faces_of_cell l t c = map (face_row l t) (up_from (first_of l t c) (first_of l t (c + 1) - first_of l t c))

-- the rings of faces and cells stand in t, the words below the marks of bow-ties
pub record Ringed (l : Layout) (t : List ℕ) : Type 0 where
  pub whole : length t ≡ l.at.bows
  pub weld_at : l.weld + l.at.nodes ≤ l.at.bows
  pub rings_at : l.rings + l.total ≤ l.at.bows
  pub rows_at : l.rows + (l.at.faces + 1) ≤ l.at.bows
  pub firsts_at : l.firsts + (l.at.cell_count + 1) ≤ l.at.bows
  pub row_zero : get_or t l.rows 0 ≡ 0
  pub row_last : get_or t (l.rows + l.at.faces) 0 ≡ l.total
  pub rising : (g : ℕ) → g < l.at.faces → get_or t (l.rows + g) 0 ≤ get_or t (l.rows + (g + 1)) 0
  pub within : (g : ℕ) → g ≤ l.at.faces → get_or t (l.rows + g) 0 ≤ l.total
  pub short : (g : ℕ) → g < l.at.faces → length (ring_row l t g) ≤ 64
  pub known : (g : ℕ) → g < l.at.faces → AllBelow l.at.nodes (ring_row l t g)
  pub first_most : (c : ℕ) → c ≤ l.at.cell_count → first_of l t c ≤ l.at.faces
  pub first_rising : (c : ℕ) → c < l.at.cell_count → first_of l t c ≤ first_of l t (c + 1)
  pub welds : AllBelow l.at.nodes (region l.weld l.at.nodes t)

-- the tables stand in t, the words below the index, as they must
pub record Faced (l : Layout) (t : List ℕ) : Type 0 where
  pub laid : Laid l.at t
  pub weld_at : l.weld + l.at.nodes ≤ l.at.offsets
  pub rings_at : l.rings + l.total ≤ l.at.offsets
  pub keys_at : l.keys + l.total ≤ l.at.offsets
  pub rows_at : l.rows + (l.at.faces + 1) ≤ l.at.offsets
  pub firsts_at : l.firsts + (l.at.cell_count + 1) ≤ l.at.offsets
  pub rising : (g : ℕ) → g < l.at.faces → get_or t (l.rows + g) 0 ≤ get_or t (l.rows + (g + 1)) 0
  pub within : (g : ℕ) → g ≤ l.at.faces → get_or t (l.rows + g) 0 ≤ l.total
  pub some : (g : ℕ) → g < l.at.faces → 3 ≤ length (ring_row l t g)
  pub short : (g : ℕ) → g < l.at.faces → length (ring_row l t g) ≤ 64
  pub keyed : (g : ℕ) → g < l.at.faces → key_row l t g ≡ sort leb (ring_row l t g)
  pub noded : (g : ℕ) → g < l.at.faces → nodes_of l.at t g ≡ node_set (ring_row l t g)
  pub known : (g : ℕ) → g < l.at.faces → AllBelow l.at.nodes (key_row l t g)
  pub first_zero : first_of l t 0 ≡ 0
  pub first_last : first_of l t l.at.cell_count ≡ l.at.faces
  pub first_rising : (c : ℕ) → c < l.at.cell_count → first_of l t c ≤ first_of l t (c + 1)
  pub owned : (c g : ℕ) → c < l.at.cell_count → first_of l t c ≤ g → g < first_of l t (c + 1) → cell_of l.at t g ≡ c
  pub welds : AllBelow l.at.nodes (region l.weld l.at.nodes t)

-- the second index has its room before `found`, with one number of a triple more than ring words, and the scratch behind it in n words;
-- a word or an index has all numbers
pub record Spaced (l : Layout) (n : ℕ) : Type 0 where
  pub few_total : l.total ≤ 2 ^ 20
  pub few_below : l.at.found < 2 ^ 40
  pub second_at : l.at.index + l.at.words ≤ l.second
  pub second_ends : l.second + (l.at.faces + 1) + l.at.words + (l.at.nodes + (l.total + 1) + 2) + l.at.words ≤ l.at.found
  pub few_words : l.at.words ≤ 2 ^ 20
  pub few_faces : l.at.faces ≤ 2 ^ 18
  pub few_cells : l.at.cell_count ≤ 2 ^ 18
  pub few_nodes : l.at.nodes ≤ 2 ^ 20
  pub few : l.words ≤ 2 ^ 20
  pub marks_at : l.at.found + l.at.faces ≤ l.marks
  pub others_at : l.marks + l.at.cell_count ≤ l.others
  pub last_at : l.others + l.at.cell_count ≤ l.last
  pub pairs_at : l.last + l.at.nodes ≤ l.pairs
  pub spare_at : l.pairs + 2 * l.words ≤ l.spare
  pub ends : l.spare + 2 * l.words ≤ n

-- the tables, the index, and the scratch as the search for a cell's findings leaves it: marks and last nodes are zero
pub record Standing (l : Layout) (w : List ℕ) : Type 0 where
  pub faced : Faced l (input l.at w)
  pub indexed : Indexed l.at (base l.at w)
  pub below : l.at.offsets ≤ l.at.found
  pub spaced : Spaced l (length w)
  pub unmarked : region l.marks l.at.cell_count w ≡ replicate l.at.cell_count 0
  pub fresh : region l.last l.at.nodes w ≡ replicate l.at.nodes 0

-- w became v: the tables and the index are as before, and the scratch is ready again
pub record Still (l : Layout) (w v : List ℕ) : Type 0 where
  pub same : take l.at.found v ≡ take l.at.found w
  pub long : length v ≡ length w
  pub standing : Standing l v
