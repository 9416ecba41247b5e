-- What an index says of the faces.
use Rattle.std.specs.Prelude.{ℕ, Bool, List}
use Rattle.index.specs.declared.by_node.Index.{Index}
use Rattle.index.specs.Faces.{input, cell_of, bow_of, nodes_of}

-- the tables under it
abbrev pub input_of : Index → List ℕ
input_of i = input i.at i.base.now

-- the node set of face g
abbrev pub set_of : Index → ℕ → List ℕ
set_of i g = nodes_of i.at (input_of i) g

-- the cell of face g is a bow-tie
abbrev pub is_bow : Index → ℕ → Bool
is_bow i g = bow_of i.at (input_of i) (cell_of i.at (input_of i) g)
