-- For internal contracts: a mark for each welded number, one more than the last node seen with it, 0 where there is none.
use Rattle.std.specs.Prelude.{ℕ, ◌+◌, ◌-◌, ◌*◌, ◌≤◌, ◌<◌, ◌^◌, ◌≡◌, not, ◌&&◌, List, [], ◌∷◌, ◌++◌, eqb, length, get_or, set}
use Rattle.std.proofs.lemmas.List.Edits.{sets}
use Rattle.laws.specs.Lists.{only_if}
use Rattle.laws.specs.Merging.{region, AllBelow}
use Rattle.mesh.specs.Rings.{nodes_in}
use Rattle.snap.specs.Weld.{welded_by}
use Rattle.findings.specs.Rules.{pair_of}
use Rattle.pair_sort.specs.Pairs.{flat}
use Rattle.repeats.specs.declared.Regions.{Regions}

-- node n's pair with the node that left the mark p, if there is one and it is another
abbrev pub hit : ℕ → ℕ → List (ℕ × ℕ)
hit n p = only_if (not (eqb p 0) && not (eqb p (n + 1))) (pair_of n (p - 1) ∷ [])

-- the marks with a value for each node, at its welded number
abbrev pub mark : (ℕ → ℕ) → (ℕ → ℕ) → List ℕ → List ℕ → List ℕ
mark weld value marks [] = marks
mark weld value marks (n ∷ ns) = mark weld value (set marks (weld n) (value n)) ns

-- the pairs that the nodes make with the marks before them
abbrev pub hits : (ℕ → ℕ) → List ℕ → List ℕ → List (ℕ × ℕ)
hits weld marks [] = []
hits weld marks (n ∷ ns) = hit n (get_or marks (weld n) 0) ++ hits weld (set marks (weld n) (n + 1)) ns

-- the welded numbers that the region gives
abbrev pub weld_in : Regions → List ℕ → ℕ → ℕ
weld_in at w = welded_by (region at.weld at.nodes w)

-- the marks in their region
abbrev pub marks_in : Regions → List ℕ → List ℕ
marks_in at w = region at.last at.nodes w

-- the regions lie apart, welded numbers and words are nodes
pub record Sound (words w : List ℕ) (at : Regions) : Type 0 where
  pub first : at.weld + at.nodes ≤ at.last
  pub second : at.last + at.nodes ≤ at.pairs
  pub third : at.pairs + 2 * length words ≤ length w
  pub small : at.nodes < 2 ^ 32
  pub inside : AllBelow at.nodes (nodes_in words)
  pub welded : AllBelow at.nodes (region at.weld at.nodes w)

-- where node n's mark stands
abbrev pub place_of : Regions → List ℕ → ℕ → ℕ
place_of at w n = at.last + get_or w (at.weld + n) 0

-- n is a node, and so is its welded number
pub record Numbered (w : List ℕ) (at : Regions) (n : ℕ) : Type 0 where
  pub first : at.weld + at.nodes ≤ at.last
  pub second : at.last + at.nodes ≤ length w
  pub node : n < at.nodes
  pub number : get_or w (at.weld + n) 0 < at.nodes

-- so it is, and there is room for a pair behind k of them
pub record Noting (w : List ℕ) (at : Regions) (k n : ℕ) : Type 0 where
  pub numbered : Numbered w at n
  pub second : at.last + at.nodes ≤ at.pairs
  pub third : at.pairs + 2 * k + 2 ≤ length w
  pub small : at.nodes < 2 ^ 32

-- its pair, if there is one, stands behind the others, and its mark is put
pub record Noted (w v : List ℕ) (at : Regions) (k n r : ℕ) : Type 0 where
  pub count : r ≡ k + length (hit n (get_or w (place_of at w n) 0))
  pub stored : v ≡ sets (set w (place_of at w n) (n + 1)) (at.pairs + 2 * k) (flat (hit n (get_or w (place_of at w n) 0)))

-- all pairs stand in their region, and all marks are put
pub record Found (words w v : List ℕ) (at : Regions) (r : ℕ) : Type 0 where
  pub count : r ≡ length (hits (weld_in at w) (marks_in at w) (nodes_in words))
  pub few : r ≤ length words
  pub stored : v ≡ sets (sets w at.last (mark (weld_in at w) (λ n. n + 1) (marks_in at w) (nodes_in words))) at.pairs (flat (hits (weld_in at w) (marks_in at w) (nodes_in words)))
