-- The fields of a finding, read out of bytes.
use Rattle.std.specs.Prelude.{ℕ, ◌+◌, List, get_or}
use Rattle.std.proofs.Math.Seq.{slice}
use Rattle.laws.specs.Bytes.{number}
use Rattle.findings.specs.Records.{Fields}

-- the number that the four bytes from a place on stand for, the lowest first
abbrev pub word : List ℕ → ℕ → ℕ
word s at = number (slice at (at + 4) s)

-- byte 0 kind; bytes 4 first cell, 8 second, 12 item a, 16 item b, 20 count; counted from a place on
unfoldable pub fields_in : List ℕ → ℕ → Fields
fields_in s at =
    record { kind = get_or s at 0; first = word s (at + 4); second = word s (at + 8); a = word s (at + 12); b = word s (at + 16); count = word s (at + 20) }
