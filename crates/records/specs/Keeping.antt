-- For internal contracts: the fields of a finding as a value of the program; findings kept in a lent slice, the first so many records, and the count of all.
use Rattle.std.specs.Prelude.{ℕ, ◌+◌, ◌-◌, ◌*◌, ◌/◌, List, [], ◌∷◌, ◌≡◌, length, take}
use Rattle.std.proofs.lemmas.List.Edits.{sets}
use Rattle.laws.specs.Lists.{each}
use Rattle.geometry.specs.declared.Point.{Point}
use Rattle.findings.specs.Findings.{Rules, Finding}
use Rattle.findings.specs.Records.{Fields, fields_of, centre_in, record_of}
use Rattle.records.specs.declared.Record.{Record}
use Rattle.records.specs.declared.Sink.{Sink}

-- the fields that a value has
abbrev pub told : Record → Fields
told r =
    record { kind = r.kind; first = r.first; second = r.second; a = r.a; b = r.b; count = r.count }

-- how many records a sink has room for
abbrev pub room_of : Sink → ℕ
room_of s = length s.records.now / 64

-- xs come behind the findings of s, which becomes s': those that there is still room for are written, and all are counted
pub record Kept (R : Rules) (xs : List Finding) (s s' : Sink) : Type 0 where
  pub same_reference : s'.records.ghost_name ≡ s.records.ghost_name
  pub count : s'.count ≡ s.count + length xs
  pub bytes : s'.records.now ≡ sets s.records.now (64 * s.count) (each (record_of R) (take (room_of s - s.count) xs))

-- the same of any finding that has these fields and this centre
abbrev pub KeptOne : Record → Point → Sink → Sink → Type 0
KeptOne r centre s s' =
    (R : Rules) (x : Finding) → fields_of x ≡ told r → centre_in R x ≡ centre → Kept R (x ∷ []) s s'
