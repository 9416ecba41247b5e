-- Nodes renumbered by a rule that keeps the order of the nodes used (order 14 of document 02).
use Rattle.std.specs.Prelude.{ℕ, ◌<◌, true, false, cond, List, map, ◌≡◌, eqb, length}
use Rattle.laws.specs.Lists.{elem}
use Rattle.geometry.specs.Points.{point_at}
use Rattle.geometry.specs.Coordinates.{node_count, count_off, coordinates_off}
use Rattle.mesh.specs.Model.{Model, cells_of}
use Rattle.mesh.specs.Rings.{separator}
use Rattle.welding.specs.Used.{used_nodes}
use Rattle.findings.specs.Findings.{Rules, Finding, bowtie, overfull, partly, repeated}
use Rattle.findings.specs.Records.{Fields, fields_of, centre_in, record_bytes}

-- a cell of m names node n
abbrev pub Used : Model → ℕ → Type 0
Used m n = elem n (used_nodes (cells_of m)) ≡ true

-- a word under its new number: a separator stays
abbrev pub word_by : (ℕ → ℕ) → ℕ → ℕ
word_by ρ w = cond (eqb w separator) separator (ρ w)

-- n is m with its nodes renumbered by ρ: each node used has its point and its place in the order, and all else is kept.
-- Loose nodes are removed or added freely, within the limit and with coordinates that are accepted
pub record Renumbering (ρ : ℕ → ℕ) (m n : Model) : Type 0 where
  pub kinds : n.kinds ≡ m.kinds
  pub ends : n.ends ≡ m.ends
  pub words : n.words ≡ map (word_by ρ) m.words
  pub tolerance : n.tolerance ≡ m.tolerance
  pub flags : n.flags ≡ m.flags
  pub cap : n.cap ≡ m.cap
  pub count : count_off (length n.coords) ≡ false
  pub places : coordinates_off n.coords ≡ false
  pub within : (a : ℕ) → Used m a → ρ a < node_count n.coords
  pub rises : (a b : ℕ) → Used m a → Used m b → a < b → ρ a < ρ b
  pub points : (a : ℕ) → Used m a → point_at n.coords (ρ a) ≡ point_at m.coords a

-- a finding with its nodes renamed: those of an overfull face's key, the common nodes of a pair, the two repeated nodes
unfoldable pub renamed : (ℕ → ℕ) → Finding → Finding
renamed ρ (bowtie c) = bowtie c
renamed ρ (overfull c₁ c₂ f n k os) = overfull c₁ c₂ f n (map ρ k) os
renamed ρ (partly c₁ c₂ a b ns) = partly c₁ c₂ a b (map ρ ns)
renamed ρ (repeated c a b) = repeated c (ρ a) (ρ b)

-- the fields of a record with its nodes renamed: items a and b of kind 4, and nothing else
unfoldable pub renamed_fields : (ℕ → ℕ) → Fields → Fields
renamed_fields ρ r =
    record {
      kind = r.kind;
      first = r.first;
      second = r.second;
      a = cond (eqb r.kind 4) (ρ r.a) r.a;
      b = cond (eqb r.kind 4) (ρ r.b) r.b;
      count = r.count;
    }

-- the record of a finding of m, its nodes renamed: all but items a and b of kind 4 as it is, the centre too
unfoldable pub record_by : (ℕ → ℕ) → Rules → Finding → List ℕ
record_by ρ R x = record_bytes (renamed_fields ρ (fields_of x)) (centre_in R x)
