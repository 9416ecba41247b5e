-- The welded map of a model: only nodes that some cell names are welded (order 1 of document 02).
use Rattle.std.specs.Prelude.{ℕ, List, leb, Float}
use Rattle.laws.specs.Lists.{each, distinct}
use Rattle.geometry.specs.Coordinates.{node_count}
use Rattle.mesh.specs.Model.{Model, Raw, cells_of}
use Rattle.mesh.specs.Rings.{nodes_in}
use Rattle.snap.specs.Weld.{welded}

-- `used_nodes`: the nodes that the words of some cell name, those of dropped runs too; each once, ascending
unfoldable pub used_nodes : List Raw → List ℕ
used_nodes cs = distinct leb (nodes_in (each (λ c. c.words) cs))

-- the welded numbers of all nodes: those used are welded, a loose node keeps its own
unfoldable pub welded_used : List Float → Float → List Raw → List ℕ
welded_used c t cs = welded c t (node_count c) (used_nodes cs)

-- the model's map
abbrev pub welds_of : Model → List ℕ
welds_of m = welded_used m.coords m.tolerance (cells_of m)
