-- The lines of the records so far are written.
use Prim.Native.Nat.{◌*◌}
use Rattle.laws.specs.Lists.{each}
use Rattle.report.specs.Text.{line_of}
use Rattle.report_text.specs.Stored.{fields_kept}
use Rattle.report_text.specs.Wrote.{Wrote}
use Rattle.report_text.proofs.Text.put_lines.Given as goal

abbrev pub invariant-loop-bytes : goal.invariant-loop-bytes
invariant-loop-bytes l = Wrote (128 * l.bytes-index) (each line_of (fields_kept l.findings l.bytes-index)) l.initial.self l.self
