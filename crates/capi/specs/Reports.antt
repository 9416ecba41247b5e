-- The exported report and run.
use Rattle.std.specs.Prelude.{ℕ, ◌+◌, ◌*◌, ◌||◌, List, [], ◌∷◌, ◌≡◌, ltb, length}
use Rattle.laws.specs.Limits.{program_records}
use Rattle.laws.specs.Refusals.{refusal, filled}
use Rattle.report.specs.Text.{report_text}
use Rattle.report.specs.Program.{output}
use Rattle.report_text.specs.Stored.{fields_kept}
use Rattle.capi.specs.Written.{Exported}

-- bytes that hold the lines of k findings and the totals
abbrev pub text_room : ℕ → ℕ
text_room k = 128 * k + 64

-- 4: fewer than k records of 64 bytes, or too few bytes for their text
abbrev pub report_refusal : List ℕ → ℕ → List ℕ → ℕ
report_refusal findings k out = refusal ((4, ltb (length findings) (64 * k) || ltb (length out) (text_room k)) ∷ [])

-- Report: 0 or 4; the text of the first `kept` records, and its length.
pub record ReportExport (findings : List ℕ) (total kept : ℕ) (out out' : List ℕ) (size size' r : ℕ) : Type 0 where
  pub size_is : Exported (report_refusal findings kept out) (length (report_text (fields_kept findings kept) total kept)) size size' r
  pub out_is : out' ≡ filled (report_refusal findings kept out) (report_text (fields_kept findings kept) total kept) out

-- 4: too few bytes for the longest output
abbrev pub run_refusal : List ℕ → ℕ
run_refusal out = refusal ((4, ltb (length out) (text_room program_records)) ∷ [])

-- Run: 0 or 4; the program's output, and its length.
pub record RunExport (input out out' : List ℕ) (size size' r : ℕ) : Type 0 where
  pub size_is : Exported (run_refusal out) (length (output input)) size size' r
  pub out_is : out' ≡ filled (run_refusal out) (output input) out
