-- The full list of findings, kind by kind, each kind by first cell.
use Rattle.std.specs.Prelude.{ℕ, suc, Bool, not, ◌&&◌, List, [], ◌∷◌, ◌++◌, map, leb, length, get_or}
use Rattle.laws.specs.Lists.{only_if, any, first, each, walk, keep, elem, eql}
use Rattle.geometry.specs.declared.Point.{Point}
use Rattle.mesh.specs.Model.{Raw, contains, TOPOLOGY, BUTTERFLY}
use Rattle.mesh.specs.Rings.{Cell, Face, faces_of, faces, key_of, node_set, same_key}

-- The rules: all that looks at one cell, or at one list of nodes.
pub record Rules : Type 0 where
  -- a cell's rings
  pub rings : Raw → List (List ℕ)
  -- a cell is a bow-tie
  pub bow : Raw → Bool
  -- nodes pass the area test
  pub spans : List ℕ → Bool
  -- a cell's repeated pairs of nodes
  pub repeats : Raw → List (ℕ × ℕ)
  -- the centre over nodes, and of two nodes
  pub centre : List ℕ → Point
  pub middle : ℕ → ℕ → Point

-- A finding, with all that it names: an overfull face has its key and all its owners, a partly shared pair its common nodes.
pub data Finding : Type 0 where
  bowtie : (cell : ℕ) → Finding
  overfull : (c₁ c₂ face count : ℕ) (key owners : List ℕ) → Finding
  partly : (c₁ c₂ a b : ℕ) (common : List ℕ) → Finding
  repeated : (cell a b : ℕ) → Finding

-- ---- overfull faces, by first face

-- f, and the faces after it with its key: listed where the key is held more than twice
unfoldable pub over_of : Face → List Face → List Finding
over_of f rest =
    only_if (leb 2 (length rest))
    (overfull f.cell (get_or (map (λ g. g.cell) rest) 0 0) f.num (suc (length rest)) (key_of f) (f.cell ∷ map (λ g. g.cell) rest) ∷ [])

-- f, where no face before it has its key
unfoldable pub over_at : List Face → Face → List Face → List Finding
over_at before f after = only_if (not (any (same_key f) before)) (over_of f (keep (same_key f) after))

-- ---- partly shared pairs

-- the common nodes of two rings
unfoldable pub common : List ℕ → List ℕ → List ℕ
common r s = keep (λ n. elem n (node_set s)) (node_set r)

-- two rings with unequal node sets and three or more common nodes
unfoldable pub sharing : List ℕ → List ℕ → Bool
sharing r s = not (eql (node_set r) (node_set s)) && leb 3 (length (common r s))

-- and the common nodes pass the area test
unfoldable pub meets : (List ℕ → Bool) → List ℕ → List ℕ → Bool
meets spans r s = sharing r s && spans (common r s)

module _ (R : Rules) where
  -- the face pairs of two cells that pass, by the first face, then the second
  unfoldable pub meeting : List Face → List Face → List (Face × Face)
  meeting fs gs = each (λ f. each (λ g. only_if (meets R.spans f.ring g.ring) ((f, g) ∷ [])) gs) fs

  unfoldable pub partly_of : Cell → Cell → Face × Face → Finding
  partly_of a b p = partly a.num b.num p.0.num p.1.num (common p.0.ring p.1.ring)

  -- the pair of two cells, neither a bow-tie, by its lowest face pair
  unfoldable pub pair_at : Cell → Cell → List Finding
  pair_at a b =
      only_if (not (R.bow a.raw) && not (R.bow b.raw))
      (map (partly_of a b) (first (meeting (faces_of R.rings a) (faces_of R.rings b))))

  -- ---- the kinds: the findings whose first cell is c, given the cells before and after it

  -- 1, bow-tie
  unfoldable pub kind1 : List Cell → Cell → List Cell → List Finding
  kind1 before c after = only_if (R.bow c.raw) (bowtie c.num ∷ [])

  -- 2, overfull
  unfoldable pub kind2 : List Cell → Cell → List Cell → List Finding
  kind2 before c after =
      walk (λ p f q. over_at p f (q ++ faces R.rings after)) (faces R.rings before) (faces_of R.rings c)

  -- 3, partly shared
  unfoldable pub kind3 : List Cell → Cell → List Cell → List Finding
  kind3 before c after = each (pair_at c) after

  -- 4, repeated
  unfoldable pub kind4 : List Cell → Cell → List Cell → List Finding
  kind4 before c after = map (λ (p : ℕ × ℕ). repeated c.num p.0 p.1) (R.repeats c.raw)

  -- the kinds in the order of the list, each with the flag that asks for it
  abbrev pub kinds : List (ℕ × (List Cell → Cell → List Cell → List Finding))
  kinds = (BUTTERFLY, kind1) ∷ (TOPOLOGY, kind2) ∷ (TOPOLOGY, kind3) ∷ (TOPOLOGY, kind4) ∷ []

  -- the full list
  unfoldable pub full : ℕ → List Cell → List Finding
  full flags cs = each (λ k. only_if (contains flags k.0) (walk k.1 [] cs)) kinds
