-- What the searches hold between their steps. Only internal contracts cite these.
use Rattle.std.specs.Prelude.{ℕ, ◌≤◌, ◌<◌, Bool, false, not, ◌&&◌, List, [], ◌∷◌, ◌≡◌, leb, ltb, eqb, length, get_or}
use Rattle.laws.specs.Lists.{only_if, keep, up_from, eql}
use Rattle.laws.specs.Merging.{Asc}
use Rattle.index.specs.declared.Places.{Places}
use Rattle.index.specs.Faces.{input, base, cell_of, bow_of, nodes_of, faces_with}
use Rattle.merge.specs.Runs.{rest, Ends}
use Rattle.seek.specs.Candidates.{shares}

-- g comes after lo, of another cell, and neither cell is a bow-tie
unfoldable pub apart : Places → List ℕ → ℕ → ℕ → Bool
apart p t lo g = ltb lo g && not (eqb (cell_of p t lo) (cell_of p t g)) && not (bow_of p t (cell_of p t lo)) && not (bow_of p t (cell_of p t g))

-- and the node sets are unequal: all of the condition but three common nodes
unfoldable pub early : Places → List ℕ → ℕ → ℕ → Bool
early p t lo g = apart p t lo g && not (eql (nodes_of p t lo) (nodes_of p t g))

-- run i goes through the faces from g on that have node i of lo
pub record Runs (p : Places) (b : List ℕ) (lo k g : ℕ) (from to : List ℕ) : Type 0 where
  pub count : k ≡ length (nodes_of p (input p b) lo)
  pub wide : length from ≡ 64
  pub ends : Ends k to b
  pub run : (i : ℕ) → i < k → rest (get_or from i 0) (get_or to i 0) b ≡ keep (leb g) (faces_with p (input p b) (get_or (nodes_of p (input p b) lo) i 0))

-- no face before `end` is a candidate of lo
abbrev pub Hidden : Places → List ℕ → ℕ → ℕ → Type 0
Hidden p t lo end = (h : ℕ) → h < end → shares p t lo h ≡ false

-- a run ascends
abbrev pub Rising : ℕ → ℕ → List ℕ → Type 0
Rising x e b = Asc (rest x e b)

-- each of k runs does
abbrev pub AllRising : ℕ → List ℕ → List ℕ → List ℕ → Type 0
AllRising k b from to = (i : ℕ) → i < k → Rising (get_or from i 0) (get_or to i 0) b

-- none of k runs ends before it begins
abbrev pub Forward : ℕ → List ℕ → List ℕ → Type 0
Forward k from to = (i : ℕ) → i < k → get_or from i 0 ≤ get_or to i 0

-- from became onto: each of k runs goes on to its first number that is not below g
pub record Passed (k g : ℕ) (b from onto to : List ℕ) : Type 0 where
  pub wide : length onto ≡ length from
  pub run : (i : ℕ) → i < k → rest (get_or onto i 0) (get_or to i 0) b ≡ keep (leb g) (rest (get_or from i 0) (get_or to i 0) b)

-- the runs stand at some face, and none before it is a candidate
pub record Begun (p : Places) (w : List ℕ) (lo k : ℕ) (from to : List ℕ) : Type 0 where
  pub first : ℕ
  pub top : first ≤ p.faces
  pub hidden : Hidden p (input p w) lo first
  pub runs : Runs p (base p w) lo k first from to

-- g where it is a candidate
abbrev pub one : Places → List ℕ → ℕ → ℕ → List ℕ
one p t lo g = only_if (shares p t lo g) (g ∷ [])

-- the candidates below g
abbrev pub up_to : Places → List ℕ → ℕ → ℕ → List ℕ
up_to p t lo g = keep (shares p t lo) (up_from 0 g)
