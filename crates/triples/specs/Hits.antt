-- What the search by triples holds between its steps. Only contracts of functions that are not public cite these: the public one promises
-- what the search by nodes does.
use Rattle.std.specs.Prelude.{ℕ, ◌+◌, ◌≤◌, ◌<◌, true, List, [], ◌∷◌, ◌++◌, ◌≡◌, leb, length, get_or}
use Rattle.std.proofs.lemmas.List.Edits.{sets}
use Rattle.laws.specs.Merging.{region, Asc}
use Rattle.laws.specs.Lists.{each, keep, elem, add}
use Rattle.index.specs.declared.Places.{Places}
use Rattle.index.specs.Faces.{input, base, start_of, nodes_of, faces_with, Indexed}
use Rattle.merge.specs.Runs.{rest}
use Rattle.seek.specs.Candidates.{shares, Ready}

-- the candidates of lo among the faces that have key v in the index q; b holds what is read
unfoldable pub hits_by : (p q : Places) → List ℕ → (lo v : ℕ) → List ℕ
hits_by p q b lo v = keep (shares p (input p b) lo) (faces_with q (input q b) v)

-- each of a list added to an ascending list, the first first
abbrev pub add_all : List ℕ → List ℕ → List ℕ
add_all [] l = l
add_all (x ∷ xs) l = add_all xs (add leb x l)

-- the n numbers from `found` on
abbrev pub listed : Places → ℕ → List ℕ → List ℕ
listed p n w = region p.found n w

-- they ascend, and are faces
pub record Open (p : Places) (lo n : ℕ) (w : List ℕ) : Type 0 where
  pub ready : Ready p lo w
  pub few : n ≤ p.faces
  pub asc : Asc (listed p n w)
  pub low : (x : ℕ) → elem x (listed p n w) ≡ true → x < p.faces

-- v is w with xs added to them, which makes r
pub record Added (p : Places) (xs : List ℕ) (n : ℕ) (w : List ℕ) (r : ℕ) (v : List ℕ) : Type 0 where
  pub number : r ≡ length (add_all xs (listed p n w))
  pub filled : v ≡ sets w p.found (add_all xs (listed p n w))

-- b holds q, an index of the same faces
pub record Beside (p q : Places) (b : List ℕ) : Type 0 where
  pub indexed : Indexed q b
  pub found : q.found ≡ p.found
  pub faces : q.faces ≡ p.faces

-- the words of b from s to e are keys of q
abbrev pub Known : Places → List ℕ → (s e : ℕ) → Type 0
Known q b s e = (i : ℕ) → s ≤ i → i < e → get_or b i 0 < q.nodes

-- the nodes of face lo stand from s to e
pub record NodesAt (p : Places) (b : List ℕ) (lo s e : ℕ) : Type 0 where
  pub start : s ≡ p.sets + start_of p (input p b) lo
  pub end : e ≡ s + length (nodes_of p (input p b) lo)

-- the candidates added that have one of the keys from s to e, whatever two keys are left out
pub record AddedRare (p q : Places) (lo n s e : ℕ) (w : List ℕ) (r : ℕ) (v : List ℕ) : Type 0 where
  pub i : ℕ
  pub j : ℕ
  pub places : (s ≤ i) × (i < j) × (j < e)
  pub added :
      Added p
      (each (hits_by p q (base p w) lo) (rest s i (base p w)) ++ (each (hits_by p q (base p w) lo) (rest (i + 1) j (base p w)) ++ each (hits_by p q (base p w) lo) (rest (j + 1) e (base p w)))) n w
      r v
