-- For internal contracts: a second index of the faces, in which short faces stand by their node triples and all others by their nodes.
use Rattle.std.specs.Prelude.{ℕ, ◌+◌, ◌-◌, ◌*◌, ◌<◌, ◌≤◌, ◌%◌, List, [], ◌∷◌, ◌≡◌, leb}
use Rattle.laws.specs.Lists.{add}
use Rattle.index.specs.declared.Places.{Places}
use Rattle.index.specs.Faces.{input, nodes_of, Indexed}

-- the number of a node triple: one of B behind the N nodes; unlike triples may have the same
unfoldable pub triple_key : (N B a b c : ℕ) → ℕ
triple_key N B a b c = N + ((a * 65599 + b) * 65599 + c) % B

-- the keys of a face with these nodes: of three and four nodes the numbers of their triples, ascending, each once; of fewer and more the nodes
abbrev pub keys_of : (N B : ℕ) → List ℕ → List ℕ
keys_of N B [] = []
keys_of N B (a ∷ []) = a ∷ []
keys_of N B (a ∷ b ∷ []) = a ∷ b ∷ []
keys_of N B (a ∷ b ∷ c ∷ []) = triple_key N B a b c ∷ []
keys_of N B (a ∷ b ∷ c ∷ d ∷ []) =
    add leb (triple_key N B a b c) (add leb (triple_key N B a b d) (add leb (triple_key N B a c d) (triple_key N B b c d ∷ [])))
keys_of N B (a ∷ b ∷ c ∷ d ∷ e ∷ l) = a ∷ b ∷ c ∷ d ∷ e ∷ l

-- b, the words below `found`, holds a second index q of the faces of p, by their keys
pub record Keyed (p q : Places) (b : List ℕ) : Type 0 where
  pub indexed : Indexed q b
  pub found : q.found ≡ p.found
  pub faces : q.faces ≡ p.faces
  pub nodes : p.nodes ≤ q.nodes
  pub keys : (g : ℕ) → g < p.faces → nodes_of q (input q b) g ≡ keys_of p.nodes (q.nodes - p.nodes) (nodes_of p (input p b) g)
