-- For internal contracts: runs one by one, and what a pass over cells counts.
use Rattle.std.specs.Prelude.{ℕ, suc, ◌+◌, ◌≤◌, ◌<◌, Bool, false, cond, ◌||◌, List, [], ◌∷◌, ◌≡◌, ltb, eqb, length, Option, is_none, IfSome}
use Rattle.laws.specs.Limits.{ring_limit}
use Rattle.laws.specs.Lists.{any, each}
use Rattle.mesh.specs.Model.{Model, Raw}
use Rattle.mesh.specs.Rings.{separator, runs, phed_rings, rings_of, ring_words}
use Rattle.mesh.specs.Acceptance.{kind_off, count_wrong, faces_in}
use Rattle.mesh.specs.declared.CellTally.{CellTally}

-- how many words stand before the first separator
abbrev pub lead : List ℕ → ℕ
lead [] = 0
lead (w ∷ ws) = cond (eqb w separator) 0 (suc (lead ws))

-- all words of rings
abbrev pub ring_total : List (List ℕ) → ℕ
ring_total rs = length (each (λ r. r) rs)

-- a run over the limit
abbrev pub too_long : List ℕ → Bool
too_long r = ltb ring_limit (length r)

-- faces and ring words of a PHED's words
pub record RunsTallied (ws : List ℕ) (t : CellTally) : Type 0 where
  pub faces : t.faces ≡ length (phed_rings ws)
  pub words : t.words ≡ ring_total (phed_rings ws)
  pub few : t.faces ≤ length ws + 1
  pub small : t.words ≤ length ws + 1

-- what is counted of a PHED's words: nothing where a run is too long
pub record RunsCounted (ws : List ℕ) (r : Option CellTally) : Type 0 where
  pub long : is_none r ≡ any too_long (runs ws)
  pub tallied : IfSome r (RunsTallied ws)

-- the cell of a kind and words
abbrev pub cell_with : ℕ → List ℕ → Raw
cell_with kind words = record { kind = kind; words = words }

-- a cell whose kind and word count are right
pub record WellCell (c : Raw) : Type 0 where
  pub kind : kind_off 0 c.kind ≡ false
  pub count : count_wrong c ≡ false

-- the same as a test that is not met
abbrev pub is_ill : Raw → Bool
is_ill c = kind_off 0 c.kind || count_wrong c

abbrev pub WellCells : List Raw → Type 0
WellCells [] = Unit {0}
WellCells (c ∷ cs) = WellCell c × WellCells cs

-- faces and ring words of a cell
pub record CellTallied (c : Raw) (t : CellTally) : Type 0 where
  pub faces : t.faces ≡ length (rings_of c)
  pub words : t.words ≡ ring_total (rings_of c)
  pub few : t.faces ≤ 6 + length c.words
  pub small : t.words ≤ 24 + length c.words

-- what is counted of a cell by its kind: nothing where its count or a ring is wrong
pub record KindCounted (c : Raw) (r : Option CellTally) : Type 0 where
  pub off : is_none r ≡ count_wrong c
  pub tallied : IfSome r (CellTallied c)

-- F faces and R ring words are a model's
pub record Tallied (m : Model) (f r : ℕ) : Type 0 where
  pub faces : f ≡ length (faces_in m)
  pub words : r ≡ length (ring_words (faces_in m))
  pub few : f < 4294967296
  pub small : r < 4294967296
