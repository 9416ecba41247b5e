-- For internal contracts: the welded map over the nodes that words name.
use Rattle.std.specs.Prelude.{ℕ, List, leb, Float}
use Rattle.laws.specs.Lists.{distinct}
use Rattle.geometry.specs.Coordinates.{node_count}
use Rattle.mesh.specs.Rings.{nodes_in}
use Rattle.snap.specs.Weld.{welded}

-- the nodes that words name, each once, ascending
abbrev pub named_nodes : List ℕ → List ℕ
named_nodes ws = distinct leb (nodes_in ws)

-- the welded numbers of all nodes, where those are welded
abbrev pub welded_over : List Float → Float → List ℕ → List ℕ
welded_over c t ws = welded c t (node_count c) (named_nodes ws)
