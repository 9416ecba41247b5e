-- The 64-byte record of a finding, and the list kept.
use Rattle.std.specs.Prelude.{ℕ, ◌/◌, min, List, ◌∷◌, ◌++◌, length, take, replicate}
use Rattle.laws.specs.Bytes.{bytes}
use Rattle.laws.specs.Lists.{each}
use Rattle.floats.specs.Floats.{float_bytes}
use Rattle.geometry.specs.declared.Point.{Point}
use Rattle.geometry.specs.Points.{origin}
use Rattle.findings.specs.Findings.{Rules, Finding, bowtie, overfull, partly, repeated}

-- kind, first cell, second cell, item a, item b, count
pub record Fields : Type 0 where
  pub kind : ℕ
  pub first : ℕ
  pub second : ℕ
  pub a : ℕ
  pub b : ℕ
  pub count : ℕ

unfoldable pub fields_of : Finding → Fields
fields_of (bowtie c) = record { kind = 1; first = c; second = 0; a = 0; b = 0; count = 0 }
fields_of (overfull c₁ c₂ f n k os) = record { kind = 2; first = c₁; second = c₂; a = f; b = 0; count = n }
fields_of (partly c₁ c₂ a b ns) = record { kind = 3; first = c₁; second = c₂; a = a; b = b; count = length ns }
fields_of (repeated c a b) = record { kind = 4; first = c; second = c; a = a; b = b; count = 2 }

-- the centre: zero; over the sorted ring; over the common nodes; between the two nodes
unfoldable pub centre_in : Rules → Finding → Point
centre_in R (bowtie c) = origin
centre_in R (overfull c₁ c₂ f n k os) = R.centre k
centre_in R (partly c₁ c₂ a b ns) = R.centre ns
centre_in R (repeated c a b) = R.middle a b

abbrev pub point_bytes : Point → List ℕ
point_bytes p = float_bytes p.x ++ (float_bytes p.y ++ float_bytes p.z)

-- byte 0 kind; bytes 4 first cell, 8 second, 12 item a, 16 item b, 20 count; bytes 32 to 55 centre; the rest zero
unfoldable pub record_bytes : Fields → Point → List ℕ
record_bytes f p =
    f.kind ∷ (replicate 3 0 ++ (bytes 4 f.first ++ (bytes 4 f.second ++ (bytes 4 f.a ++ (bytes 4 f.b ++ (bytes 4 f.count
    ++ (replicate 8 0 ++ (point_bytes p ++ replicate 8 0))))))))

unfoldable pub record_of : Rules → Finding → List ℕ
record_of R f = record_bytes (fields_of f) (centre_in R f)

-- k: the least of cap, total and whole records lent
unfoldable pub kept_of : ℕ → ℕ → ℕ → ℕ
kept_of cap total lent = min cap (min total (lent / 64))

-- the records of the first k
unfoldable pub kept_bytes : Rules → ℕ → List Finding → List ℕ
kept_bytes R k fs = each (record_of R) (take k fs)
