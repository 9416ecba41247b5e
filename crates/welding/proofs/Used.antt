-- The nodes that cells name: which they are, what does not see them change, and the map over them.
use Prim.Native.Nat.{ℕ}
use mathlib.Core.Path.{◌≡◌, sym, ap, ◌∙◌}
use mathlib.Core.Bool.{Bool, not, ◌&&◌}
use mathlib.Core.List.{List}
use lib.Dec.{eqb}
use lib.ListN.{length}
use lib.Ieee.{Float}
use Rattle.laws.specs.Lists.{each, elem}
use Rattle.laws.specs.Merging.{Asc}
use Rattle.laws.proofs.Ascending.{elem-keep, asc_ext, asc_distinct}
use Rattle.laws.proofs.Members.{elem-distinct}
use Rattle.geometry.specs.Coordinates.{node_count}
use Rattle.mesh.specs.Model.{Model, Raw, cells_of}
use Rattle.mesh.specs.Rings.{separator, nodes_in}
use Rattle.mesh.proofs.Accepts.{Accepts}
use Rattle.mesh.proofs.CellWords.{cells_words}
use Rattle.snap.specs.Weld.{welded}
use Rattle.snap.proofs.Whole.{length_welded}
use Rattle.welding.specs.Used.{used_nodes, welded_used, welds_of}
use Rattle.welding.specs.Steps.{named_nodes, welded_over}

-- a node is used where a word of some cell names it
pub used-is : (a : ℕ) (cs : List Raw) → elem a (used_nodes cs) ≡ (not (eqb a separator) && elem a (each (λ c. c.words) cs))
unfolding used_nodes
used-is a cs =
    elem-distinct a (nodes_in (each (λ c. c.words) cs)) ∙ elem-keep a (λ w. not (eqb w separator)) (each (λ c. c.words) cs)

-- they ascend
pub used-ascend : (cs : List Raw) → Asc (used_nodes cs)
unfolding used_nodes
used-ascend cs = asc_distinct (nodes_in (each (λ c. c.words) cs))

-- cells whose words have the same members name the same nodes
pub used-same : (cs ds : List Raw) → ((a : ℕ) → elem a (each (λ c. c.words) cs) ≡ elem a (each (λ c. c.words) ds)) → used_nodes cs ≡ used_nodes ds
used-same cs ds e =
    asc_ext (used_nodes cs) (used_nodes ds) (used-ascend cs) (used-ascend ds)
    (λ a. used-is a cs ∙ ap (λ (b : Bool). not (eqb a separator) && b) (e a) ∙ sym (used-is a ds))

-- those of an accepted model are the nodes that its words name,
pub used-words : (m : Model) → Accepts m → used_nodes (cells_of m) ≡ named_nodes m.words
unfolding used_nodes
used-words m h = ap named_nodes (cells_words m h)

-- and its map is that over them
pub welds_words : (m : Model) → Accepts m → welded_over m.coords m.tolerance m.words ≡ welds_of m
unfolding welded_used
welds_words m h = ap (welded m.coords m.tolerance (node_count m.coords)) (sym (used-words m h))

-- a number for each node
pub length_welds : (c : List Float) (t : Float) (cs : List Raw) → length (welded_used c t cs) ≡ node_count c
unfolding welded_used
length_welds c t cs = length_welded c t (node_count c) (used_nodes cs)
