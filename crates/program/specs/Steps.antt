-- For internal contracts: the text of an answer, and a model that is checked and reported.
use Rattle.std.specs.Prelude.{ℕ, ◌≤◌, cond, List, ◌≡◌, eqb, length, replicate}
use Rattle.laws.specs.Limits.{program_work}
use Rattle.laws.specs.Refusals.{Answer, refused, done, refusal, filled}
use Rattle.mesh.specs.Model.{Model}
use Rattle.mesh.specs.Acceptance.{check_table, work_needed}
use Rattle.findings.specs.declared.Totals.{Totals}
use Rattle.report.specs.Text.{refused_line, report_text}
use Rattle.report.specs.Program.{report_of}
use Rattle.report_text.specs.Stored.{Stored, fields_kept}
use Rattle.program.specs.Running.{kept_in}

-- the text of an answer of the check, with the finding bytes that it left
abbrev pub text_of : Answer Totals → List ℕ → List ℕ
text_of (refused n) f = refused_line n
text_of (done t) f = report_text (fields_kept f t.kept) t.total t.kept

-- checking's refusal of a model, with the program's work
abbrev pub checked_refusal : Model → ℕ
checked_refusal m = refusal (check_table m program_work)

-- the text of a model
unfoldable pub model_text : Model → List ℕ
model_text m = cond (eqb (checked_refusal m) 0) (report_of m) (refused_line (checked_refusal m))

-- a model's report: its text in the output, its records in front of the findings, the work that it needed zero
pub record Reporting (m : Model) (findings findings' work work' out out' : List ℕ) (r : ℕ) : Type 0 where
  pub stored : Stored out 0 (model_text m) out' r
  pub within : r ≤ length out
  pub findings_are : findings' ≡ filled (checked_refusal m) (kept_in m) findings
  pub work_is : work' ≡ filled (checked_refusal m) (replicate (work_needed m) 0) work
