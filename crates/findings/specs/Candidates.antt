-- Candidates of a face, and which way they are sought.
use Rattle.std.specs.Prelude.{ℕ, ◌*◌, Bool, not, ◌&&◌, List, map, leb, ltb, eqb, length}
use Rattle.laws.specs.Lists.{any, keep, elem, up_from, sum, pairs_of, triples_of}
use Rattle.mesh.specs.Rings.{Cell, Face, faces, node_set}
use Rattle.findings.specs.Findings.{Rules, sharing}

module _ (R : Rules) where
  -- cell c is a bow-tie
  unfoldable pub bow_at : List Cell → ℕ → Bool
  bow_at cs c = any (λ d. eqb d.num c && R.bow d.raw) cs

  -- g comes after f and they meet all of demand 3's condition but the area test
  unfoldable pub candidate : List Cell → Face → Face → Bool
  candidate cs f g =
      ltb f.num g.num && not (eqb f.cell g.cell) && not (bow_at cs f.cell) && not (bow_at cs g.cell)
      && sharing f.ring g.ring

  -- the candidates of a face; both ways to seek them give this list
  unfoldable pub candidates : List Cell → Face → List Face
  candidates cs f = keep (candidate cs f) (faces R.rings cs)

-- ---- which way is taken

-- the faces whose node set has n
abbrev pub faces_with : ℕ → List Face → List Face
faces_with n fs = keep (λ f. elem n (node_set f.ring)) fs

-- `node_work`: for each of so many nodes, the pairs of faces that have it
unfoldable pub node_work : ℕ → List Face → ℕ
node_work nodes fs = sum (map (λ n. pairs_of (length (faces_with n fs))) (up_from 0 nodes))

-- `triple_work`: for each face, the triples of its nodes
unfoldable pub triple_work : List Face → ℕ
triple_work fs = sum (map (λ f. triples_of (length (node_set f.ring))) fs)

-- by common nodes, and not by node triples
unfoldable pub is_by_nodes : ℕ → List Face → Bool
is_by_nodes nodes fs = leb (node_work nodes fs) (4 * triple_work fs)
