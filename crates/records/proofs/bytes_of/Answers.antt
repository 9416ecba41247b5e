-- `records::bytes_of` meets its contract: the stores follow one another over zeros.
use mathlib.Core.Path.{refl}
use Rattle.findings.specs.Records.{record_bytes}
use Rattle.records.proofs.bytes_of.Goals as goal

pub returns : goal.returns
unfolding record_bytes
returns c =
    rw (c.put-8.ensures, c.put-7.ensures, c.put-6.ensures, c.put-5.ensures, c.put-4.ensures, c.put-3.ensures, c.put-2.ensures, c.put.ensures) refl
