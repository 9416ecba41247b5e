-- The cells and node sets of the faces, which cells are bow-ties, and the index of the faces by node: what a lent slice holds. The definitions read the words
-- below `offsets`, which no stage writes: `input`.
use Rattle.std.specs.Prelude.{ℕ, ◌+◌, ◌-◌, ◌≤◌, ◌<◌, ◌^◌, Bool, not, List, map, ◌≡◌, eqb, length, get_or, take}
use Rattle.laws.specs.Merging.{region, Asc}
use Rattle.laws.specs.Lists.{each, keep, up_from, elem}
use Rattle.counting.specs.Counts.{times, below}
use Rattle.index.specs.declared.Places.{Places}

abbrev pub input : Places → List ℕ → List ℕ
input p w = take p.offsets w

-- the cell that has face g
abbrev pub cell_of : Places → List ℕ → ℕ → ℕ
cell_of p t g = get_or t (p.cells + g) 0

-- cell c is a bow-tie: its word is not zero
abbrev pub bow_of : Places → List ℕ → ℕ → Bool
bow_of p t c = not (eqb (get_or t (p.bows + c) 0) 0)

-- where the node set of face g starts, counted in words
abbrev pub start_of : Places → List ℕ → ℕ → ℕ
start_of p t g = get_or t (p.starts + g) 0

-- the node set of face g
unfoldable pub nodes_of : Places → List ℕ → ℕ → List ℕ
nodes_of p t g = region (p.sets + start_of p t g) (start_of p t (g + 1) - start_of p t g) t

-- all of them, one after the other
unfoldable pub words_of : Places → List ℕ → List ℕ
words_of p t = region p.sets p.words t

-- the faces whose node set has n, ascending
unfoldable pub faces_with : Places → List ℕ → ℕ → List ℕ
faces_with p t n = keep (λ g. elem n (nodes_of p t g)) (up_from 0 p.faces)

-- for each node the number of words of smaller nodes, and one more of all
unfoldable pub offsets_of : Places → List ℕ → List ℕ
offsets_of p t = map (λ n. below n (words_of p t)) (up_from 0 (p.nodes + 2))

-- the faces of each node, one node after the other
unfoldable pub index_of : Places → List ℕ → List ℕ
index_of p t = each (faces_with p t) (up_from 0 p.nodes)

-- the node sets stand in t as they must
pub record Laid (p : Places) (t : List ℕ) : Type 0 where
  pub cells_at : p.cells + p.faces ≤ p.offsets
  pub bows_at : p.bows + p.cell_count ≤ p.offsets
  pub sets_at : p.starts + (p.faces + 1) ≤ p.sets
  pub offsets_at : p.sets + p.words ≤ p.offsets
  pub whole : length t ≡ p.offsets
  pub celled : (g : ℕ) → g < p.faces → cell_of p t g < p.cell_count
  pub first : start_of p t 0 ≡ 0
  pub last : start_of p t p.faces ≡ p.words
  pub rising : (g : ℕ) → g < p.faces → start_of p t g ≤ start_of p t (g + 1)
  pub known : (k : ℕ) → k < p.words → get_or t (p.sets + k) 0 < p.nodes
  pub asc : (g : ℕ) → g < p.faces → Asc (nodes_of p t g)
  pub few : (g : ℕ) → g < p.faces → length (nodes_of p t g) ≤ 64

-- a slice of n words has room for all regions, and a word for all numbers
pub record Room (p : Places) (n : ℕ) : Type 0 where
  pub index_at : p.index ≡ p.offsets + (p.nodes + 2)
  pub found_at : p.index + p.words ≤ p.found
  pub ends : p.found + p.faces ≤ n
  pub small : (p.words < 2 ^ 32) × (p.faces < 2 ^ 32)

-- the words below `found`: what a search reads
abbrev pub base : Places → List ℕ → List ℕ
base p w = take p.found w

-- b holds the node sets and their index
pub record Indexed (p : Places) (b : List ℕ) : Type 0 where
  pub laid : Laid p (input p b)
  pub index_at : p.index ≡ p.offsets + (p.nodes + 2)
  pub whole : p.index + p.words ≤ length b
  pub small : (p.words < 2 ^ 32) × (p.faces < 2 ^ 32)
  pub offset : (n : ℕ) → n < p.nodes + 2 → get_or b (p.offsets + n) 0 ≡ below n (words_of p (input p b))
  pub part : (n : ℕ) → n < p.nodes → region (p.index + below n (words_of p (input p b))) (times n (words_of p (input p b))) b ≡ faces_with p (input p b) n
