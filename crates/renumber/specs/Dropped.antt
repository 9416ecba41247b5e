-- A model whose loose nodes are dropped, as the drawing office does before sending.
use Rattle.std.specs.Prelude.{ℕ, ◌+◌, ◌*◌, List, [], ◌∷◌, map, ltb, length, Float}
use Rattle.laws.specs.Lists.{each, keep}
use Rattle.geometry.specs.Points.{coordinate}
use Rattle.mesh.specs.Model.{Model, cells_of}
use Rattle.welding.specs.Used.{used_nodes}
use Rattle.renumber.specs.Renumbering.{word_by}

-- a node's new number: how many of the nodes used are below it
abbrev pub rank : List ℕ → ℕ → ℕ
rank us a = length (keep (λ u. ltb u a) us)

-- the three coordinates of a node
abbrev pub three : List Float → ℕ → List Float
three c u = coordinate c (u * 3) ∷ coordinate c (u * 3 + 1) ∷ coordinate c (u * 3 + 2) ∷ []

-- only the nodes used are left, in their order
unfoldable pub dropped : Model → Model
dropped m =
    record {
      coords = each (three m.coords) (used_nodes (cells_of m));
      kinds = m.kinds;
      ends = m.ends;
      words = map (word_by (rank (used_nodes (cells_of m)))) m.words;
      tolerance = m.tolerance;
      flags = m.flags;
      cap = m.cap;
    }
