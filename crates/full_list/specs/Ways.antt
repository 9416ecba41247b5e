-- Which way candidates are sought, and of how many faces.
use Rattle.std.specs.Prelude.{ℕ, Bool, true, false, cond, length}
use Rattle.geometry.specs.Coordinates.{node_count}
use Rattle.mesh.specs.Model.{Model, contains, TOPOLOGY}
use Rattle.mesh.specs.Acceptance.{faces_in}
use Rattle.findings.specs.Candidates.{is_by_nodes}
use Rattle.full_list.specs.declared.Choice.{Choice}
use Rattle.full_list.specs.declared.Choice.TheVariants.{LessWork, ByNodes, ByTriples}

-- by common nodes, where `less` says whether that is less work
abbrev pub taken : Choice → Bool → Bool
taken LessWork less = less
taken ByNodes less = true
taken ByTriples less = false

-- by common nodes, and not by node triples: of a model
unfoldable pub goes_by_nodes : Choice → Model → Bool
goes_by_nodes choice m = taken choice (is_by_nodes (node_count m.coords) (faces_in m))

-- how many faces of an accepted model are sought: all, where the flags ask for pairs
unfoldable pub sought_in : Model → ℕ
sought_in m = cond (contains m.flags TOPOLOGY) (length (faces_in m)) 0
