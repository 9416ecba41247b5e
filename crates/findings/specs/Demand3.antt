-- What the theorems of demand 3 are said in, besides specs/Compared.antt.
use Rattle.std.specs.Prelude.{ℕ, ◌/◌, min, ◌≤◌, ◌<◌, true, false, cond, ◌≢◌, ◌≡◌, eqb, length, get_or, take, drop}
use mathlib.Core.List.{List, ◌++◌, Perm, Memᴰ}
use Rattle.laws.specs.Lists.{each, up_from}
use Rattle.mesh.specs.Model.{Model, Raw, ascending, cells_of}
use Rattle.mesh.specs.Rings.{Face, key_of, node_set}
use Rattle.mesh.specs.Lookup.{face_at, owners_of}
use Rattle.findings.specs.Findings.{Rules, Finding, bowtie, overfull, partly, repeated, common}
use Rattle.findings.specs.Rules.{rules_of, full_of}
use Rattle.findings.specs.Records.{Fields, fields_of, record_of}
use Rattle.findings.specs.Compared.{names_pair, moved}

-- ---- the condition of a partly shared pair, in words

-- neither cell is a bow-tie; a ring of a and one of b have unlike node sets, and three or more common nodes that pass the area test
pub record PartlyShared (R : Rules) (a b : Raw) : Type 0 where
  pub plain_a : R.bow a ≡ false
  pub plain_b : R.bow b ≡ false
  pub ring_a : List ℕ
  pub ring_b : List ℕ
  pub of_a : Memᴰ ring_a (R.rings a)
  pub of_b : Memᴰ ring_b (R.rings b)
  pub unlike : node_set ring_a ≢ node_set ring_b
  pub three : 3 ≤ length (common ring_a ring_b)
  pub area : R.spans (common ring_a ring_b) ≡ true

-- ---- the findings of kind 3

-- x is the pair of two of n cells, the lower first
pub record PairIn (n : ℕ) (x : Finding) : Type 0 where
  pub lower : (fields_of x).first < (fields_of x).second
  pub within : (fields_of x).second < n
  pub named : names_pair (fields_of x).first (fields_of x).second x ≡ true

-- ---- reordering

-- σ has the number of each cell of m once, and leaves kinds ascending
pub record Reordering (m : Model) (σ : List ℕ) : Type 0 where
  pub permutes : Perm σ (up_from 0 (length (cells_of m)))
  pub ascends : ascending 0 (moved σ (cells_of m)) ≡ true

-- ---- what the record of a finding tells, with the model's faces

-- the finding read back from the fields of its record
unfoldable pub read_back : List Face → Fields → Finding
read_back fs r =
    cond (eqb r.kind 1) (bowtie r.first)
    (cond (eqb r.kind 2) (overfull (get_or (owners_of fs r.a) 0 0) (get_or (owners_of fs r.a) 1 0) r.a (length (owners_of fs r.a)) (key_of (face_at fs r.a)) (owners_of fs r.a))
    (cond (eqb r.kind 3) (partly (face_at fs r.a).cell (face_at fs r.b).cell r.a r.b (common (face_at fs r.a).ring (face_at fs r.b).ring))
    (repeated r.first r.a r.b)))

-- all numbers of a record are below n
abbrev pub Below : ℕ → Fields → Type 0
Below n r = (r.first < n) × (r.second < n) × (r.a < n) × (r.b < n) × (r.count < n)

-- ---- what a report says

-- t is the full list's length, k the least of cap, t and whole records lent, and the lent bytes are the first k records and then what was there
pub record Reported (m : Model) (lent lent' : List ℕ) (t k : ℕ) : Type 0 where
  pub total : t ≡ length (full_of m)
  pub kept : k ≡ min m.cap (min t (length lent / 64))
  pub records : lent' ≡ each (record_of (rules_of m)) (take k (full_of m)) ++ drop (length (each (record_of (rules_of m)) (take k (full_of m)))) lent
