-- The candidates of a face: later faces of another cell, where neither cell is a bow-tie, with an unequal node set and three or more common nodes.
use Rattle.std.specs.Prelude.{ℕ, ◌+◌, ◌≤◌, ◌<◌, Bool, true, false, not, cond, ◌&&◌, List, ◌≡◌, leb, ltb, eqb, length}
use Rattle.std.proofs.lemmas.List.Edits.{sets}
use Rattle.laws.specs.Lists.{keep, up_from, elem, eql}
use Rattle.index.specs.declared.Places.{Places}
use Rattle.index.specs.Faces.{input, base, cell_of, bow_of, nodes_of, Indexed}
use Rattle.seek.specs.declared.Searched.{Searched}
use Rattle.seek.specs.declared.Way.{Way}
use Rattle.seek.specs.declared.Way.TheVariants.{ByNodes, ByTriples}
use Rattle.seek.specs.declared.Tally.{Tally}

-- the nodes of a that b has too
unfoldable pub common : List ℕ → List ℕ → List ℕ
common a b = keep (λ n. elem n b) a

-- two node sets are unequal and have three or more common nodes
unfoldable pub sharing : List ℕ → List ℕ → Bool
sharing a b = not (eql a b) && leb 3 (length (common a b))

-- g is a candidate of lo
unfoldable pub shares : Places → List ℕ → ℕ → ℕ → Bool
shares p t lo g =
    ltb lo g && not (eqb (cell_of p t lo) (cell_of p t g)) && not (bow_of p t (cell_of p t lo)) && not (bow_of p t (cell_of p t g))
    && sharing (nodes_of p t lo) (nodes_of p t g)

unfoldable pub candidates : Places → List ℕ → ℕ → List ℕ
candidates p t lo = keep (shares p t lo) (up_from 0 p.faces)

-- what a search asks: the index, a face, and room for its answer
pub record Ready (p : Places) (lo : ℕ) (w : List ℕ) : Type 0 where
  pub indexed : Indexed p (base p w)
  pub below : p.offsets ≤ p.found
  pub face : lo < p.faces
  pub room : p.found + p.faces ≤ length w

-- what a search leaves: the candidates at `found`, all else as before; r is their number
pub record Sought (p : Places) (lo : ℕ) (w v : List ℕ) (r : ℕ) : Type 0 where
  pub number : r ≡ length (candidates p (input p w) lo)
  pub filled : v ≡ sets w p.found (candidates p (input p w) lo)

-- ---- which way a search went, as it tells itself

-- by common nodes, and not by node triples
abbrev pub by_nodes : Way → Bool
by_nodes ByNodes = true
by_nodes ByTriples = false

-- how many candidates were found
abbrev pub found_in : Searched → ℕ
found_in r = r.count

-- by common nodes, and not by node triples
abbrev pub went_by_nodes : Searched → Bool
went_by_nodes r = by_nodes r.way

-- the same of a search by common nodes (`by` is true) or by node triples
pub record SoughtBy (by : Bool) (p : Places) (lo : ℕ) (w v : List ℕ) (r : Searched) : Type 0 where
  pub way : went_by_nodes r ≡ by
  pub sought : Sought p lo w v (found_in r)

-- t became r: n faces more were sought, all of them one way
pub record TalliedMore (by : Bool) (n : ℕ) (t r : Tally) : Type 0 where
  pub nodes : r.nodes ≡ t.nodes + cond by n 0
  pub triples : r.triples ≡ t.triples + cond by 0 n

-- n faces were sought, all of them one way
abbrev pub Tallied : Bool → ℕ → Tally → Type 0
Tallied by n t = TalliedMore by n (record { nodes = 0; triples = 0 }) t
