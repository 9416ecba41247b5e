-- How demand 3 is said: the condition of a pair, cells reordered, and how two full lists are compared.
use Rattle.std.specs.Prelude.{ℕ, ◌+◌, Bool, false, not, ◌&&◌, ◌||◌, List, [], ◌∷◌, map, leb, eqb, length, get_or}
use Rattle.laws.specs.Lists.{any, each, sort}
use Rattle.geometry.specs.declared.Point.{Point}
use Rattle.mesh.specs.Model.{Model, model_of, Raw, cells_of}
use Rattle.findings.specs.Findings.{Rules, Finding, bowtie, overfull, partly, repeated, meets}

-- ---- the condition of a partly shared pair

-- neither cell is a bow-tie, and some face of a and some face of b meet
unfoldable pub shares : Rules → Raw → Raw → Bool
shares R a b = (not (R.bow a) && not (R.bow b)) && any (λ r. any (meets R.spans r) (R.rings b)) (R.rings a)

-- i and j, in either order
abbrev pub both : ℕ → ℕ → ℕ → ℕ → Bool
both i j c d = (eqb c i && eqb d j) || (eqb c j && eqb d i)

-- a partly shared finding that names cells i and j
unfoldable pub names_pair : ℕ → ℕ → Finding → Bool
names_pair i j (bowtie c) = false
names_pair i j (overfull c₁ c₂ f n k os) = false
names_pair i j (partly c₁ c₂ a b ns) = both i j c₁ c₂
names_pair i j (repeated c a b) = false

-- ---- cells reordered

abbrev pub none : Raw
none = record { kind = 0; words = [] }

-- the cells in a new order: at each place the old cell whose number σ has there
unfoldable pub moved : List ℕ → List Raw → List Raw
moved σ cs = map (λ i. get_or cs i none) σ

-- the ends of cells, counted anew
abbrev pub ends_from : ℕ → List Raw → List ℕ
ends_from at [] = []
ends_from at (c ∷ cs) = (at + length c.words) ∷ ends_from (at + length c.words) cs

-- the model with these cells, all else as it was
unfoldable pub with_cells : Model → List Raw → Model
with_cells m cs =
    model_of m.coords (map (λ c. c.kind) cs) (ends_from 0 cs) (each (λ c. c.words) cs) m.tolerance m.flags m.cap

-- each cell's kind and words move, unchanged
unfoldable pub reordered : List ℕ → Model → Model
reordered σ m = with_cells m (moved σ (cells_of m))

-- ---- what is compared of a finding, its cells taken through ρ

pub data Compared : Type 0 where
  bowtie_c : (cell : ℕ) → Compared
  overfull_c : (key : List ℕ) (count : ℕ) (centre : Point) (owners : List ℕ) → Compared
  partly_c : (cells : List ℕ) → Compared
  repeated_c : (cell a b count : ℕ) (centre : Point) → Compared

unfoldable pub compared : Rules → (ℕ → ℕ) → Finding → Compared
compared R ρ (bowtie c) = bowtie_c (ρ c)
compared R ρ (overfull c₁ c₂ f n k os) = overfull_c k n (R.centre k) (sort leb (map ρ os))
compared R ρ (partly c₁ c₂ a b ns) = partly_c (sort leb (ρ c₁ ∷ ρ c₂ ∷ []))
compared R ρ (repeated c a b) = repeated_c (ρ c) a b 2 (R.middle a b)
