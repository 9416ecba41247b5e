-- The program: its output as a function of its input.
use Rattle.std.specs.Prelude.{ℕ, ◌*◌, Bool, cond, List, ◌∷◌, ◌++◌, map, ltb, eqb, length, take}
use Rattle.laws.specs.Limits.{input_limit, program_records, program_work}
use Rattle.laws.specs.Refusals.{refusal}
use Rattle.mesh.specs.Model.{Model}
use Rattle.mesh.specs.Acceptance.{check_table}
use Rattle.model_file.specs.File.{file_table, decode}
use Rattle.findings.specs.Rules.{full_of}
use Rattle.findings.specs.Records.{fields_of}
use Rattle.findings.specs.Check.{totals_of}
use Rattle.report.specs.Text.{refused_line, report_text}

-- 1 if the input is longer than the program reads, then reading's 1 to 3, then checking's 5 to 11
abbrev pub program_table : List ℕ → List (ℕ × Bool)
program_table s = (1, ltb input_limit (length s)) ∷ (file_table s ++ check_table (decode s) program_work)

-- the report of an accepted model
unfoldable pub report_of : Model → List ℕ
report_of m =
    let t = totals_of m (64 * program_records) in
    report_text (map fields_of (take t.kept (full_of m))) t.total t.kept

-- the bytes of standard output, from those of standard input
unfoldable pub output : List ℕ → List ℕ
output s = cond (eqb (refusal (program_table s)) 0) (report_of (decode s)) (refused_line (refusal (program_table s)))
