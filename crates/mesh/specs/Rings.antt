-- The rings of a cell (`cell_faces`), and cells and faces with their numbers.
use Rattle.std.specs.Prelude.{ℕ, suc, ◌+◌, Bool, not, cond, List, [], ◌∷◌, map, leb, eqb, length, get_or}
use Rattle.laws.specs.Lists.{each, keep, sort, distinct, eql}
use Rattle.mesh.specs.Model.{Raw, TET4, HEX8, WEDGE6, PHED}

-- separates the rings in a PHED's words
abbrev pub separator : ℕ
separator = 4294967295

-- the words that are nodes: separators skipped
abbrev pub nodes_in : List ℕ → List ℕ
nodes_in ws = keep (λ w. not (eqb w separator)) ws

-- ---- the rings of a cell

-- local places of a tetrahedron's rings
abbrev pub tet_rings : List (List ℕ)
tet_rings = (0 ∷ 1 ∷ 3 ∷ []) ∷ (1 ∷ 2 ∷ 3 ∷ []) ∷ (2 ∷ 0 ∷ 3 ∷ []) ∷ (0 ∷ 2 ∷ 1 ∷ []) ∷ []

-- the hexahedron's six rings of four local places
abbrev pub hex_rings : List (List ℕ)
hex_rings =
    (0 ∷ 3 ∷ 2 ∷ 1 ∷ []) ∷ (4 ∷ 5 ∷ 6 ∷ 7 ∷ []) ∷ (0 ∷ 1 ∷ 5 ∷ 4 ∷ []) ∷ (2 ∷ 3 ∷ 7 ∷ 6 ∷ []) ∷ (1 ∷ 2 ∷ 6 ∷ 5 ∷ []) ∷ (3 ∷ 0 ∷ 4 ∷ 7 ∷ []) ∷ []

-- local places of a wedge's rings
abbrev pub wedge_rings : List (List ℕ)
wedge_rings = (0 ∷ 2 ∷ 1 ∷ []) ∷ (3 ∷ 4 ∷ 5 ∷ []) ∷ (0 ∷ 1 ∷ 4 ∷ 3 ∷ []) ∷ (1 ∷ 2 ∷ 5 ∷ 4 ∷ []) ∷ (2 ∷ 0 ∷ 3 ∷ 5 ∷ []) ∷ []

-- the words at local places
abbrev pub at : List ℕ → List (List ℕ) → List (List ℕ)
at ws rings = map (λ r. map (λ i. get_or ws i 0) r) rings

-- w in front of the first run
abbrev pub onto : ℕ → List (List ℕ) → List (List ℕ)
onto w [] = (w ∷ []) ∷ []
onto w (r ∷ rs) = (w ∷ r) ∷ rs

-- the runs of words between separators, empty ones too
abbrev pub runs : List ℕ → List (List ℕ)
runs [] = [] ∷ []
runs (w ∷ ws) = cond (eqb w separator) ([] ∷ runs ws) (onto w (runs ws))

-- a PHED's rings: its runs, those under three nodes dropped
abbrev pub phed_rings : List ℕ → List (List ℕ)
phed_rings ws = keep (λ r. leb 3 (length r)) (runs ws)

-- the rings of a cell, in raw node numbers
unfoldable pub rings_of : Raw → List (List ℕ)
rings_of c =
    cond (eqb c.kind TET4) (at c.words tet_rings)
    (cond (eqb c.kind HEX8) (at c.words hex_rings)
    (cond (eqb c.kind WEDGE6) (at c.words wedge_rings)
    (cond (eqb c.kind PHED) (phed_rings c.words) [])))

-- ---- cells and faces with their numbers

-- a cell under its number, its place from 0, with the number of its first face
pub record Cell : Type 0 where
  pub num : ℕ
  pub from : ℕ
  pub raw : Raw

-- a face under its number, with its cell's number and its ring
pub record Face : Type 0 where
  pub num : ℕ
  pub cell : ℕ
  pub ring : List ℕ

-- the faces of cell c from number n on
unfoldable pub faces_from : ℕ → ℕ → List (List ℕ) → List Face
faces_from c n [] = []
faces_from c n (r ∷ rs) = record { num = n; cell = c; ring = r } ∷ faces_from c (suc n) rs

module _ (rings : Raw → List (List ℕ)) where
  unfoldable pub number_from : ℕ → ℕ → List Raw → List Cell
  number_from i n [] = []
  number_from i n (c ∷ cs) = record { num = i; from = n; raw = c } ∷ number_from (suc i) (n + length (rings c)) cs

  -- cells and faces are numbered from 0, faces in cell order, then ring order
  unfoldable pub numbered : List Raw → List Cell
  numbered cs = number_from 0 0 cs

  unfoldable pub faces_of : Cell → List Face
  faces_of c = faces_from c.num c.from (rings c.raw)

  unfoldable pub faces : List Cell → List Face
  faces cs = each faces_of cs

-- ---- what is read off faces

-- sorted ring, repeats kept: the key of a face
abbrev pub key_of : Face → List ℕ
key_of f = sort leb f.ring

-- node set: the distinct raw numbers in a ring
abbrev pub node_set : List ℕ → List ℕ
node_set r = distinct leb r

-- two faces have the same key
unfoldable pub same_key : Face → Face → Bool
same_key f g = eql (key_of f) (key_of g)

-- all rings in face order, one after the other
abbrev pub ring_words : List Face → List ℕ
ring_words fs = each (λ f. f.ring) fs
