-- Which way candidates are sought: the work of each.
use Rattle.std.specs.Prelude.{ℕ, ◌*◌, ◌≤◌, ◌^◌, Bool, List, map, leb, length}
use Rattle.laws.specs.Lists.{up_from, sum, pairs_of, triples_of}
use Rattle.index.specs.declared.Places.{Places}
use Rattle.index.specs.Faces.{nodes_of, faces_with}

-- for each node, the pairs of faces that have it
unfoldable pub node_work : Places → List ℕ → ℕ
node_work p t = sum (map (λ n. pairs_of (length (faces_with p t n))) (up_from 0 p.nodes))

-- for each face, the triples of its nodes
unfoldable pub triple_work : Places → List ℕ → ℕ
triple_work p t = sum (map (λ g. triples_of (length (nodes_of p t g))) (up_from 0 p.faces))

-- by common nodes, and not by node triples
unfoldable pub is_by_nodes : Places → List ℕ → Bool
is_by_nodes p t = leb (node_work p t) (4 * triple_work p t)

-- so few words and faces that the work of either way fits 64 bits
pub record Few (p : Places) : Type 0 where
  pub words : p.words ≤ 2 ^ 20
  pub faces : p.faces ≤ 2 ^ 18
