-- A run of the program: the sizes that it lends, why it refuses, and what lent memory holds afterwards.
use Rattle.std.specs.Prelude.{ℕ, ◌*◌, ◌≤◌, List, ◌∷◌, ◌≡◌, ltb, Float, length, replicate}
use Rattle.laws.specs.Limits.{input_limit, program_records, program_work}
use Rattle.laws.specs.Refusals.{refusal, filled}
use Rattle.mesh.specs.Model.{Model}
use Rattle.mesh.specs.Acceptance.{work_needed}
use Rattle.model_file.specs.File.{file_table, decode}
use Rattle.findings.specs.Rules.{rules_of, full_of}
use Rattle.findings.specs.Records.{kept_bytes}
use Rattle.findings.specs.Check.{totals_of}
use Rattle.report.specs.Program.{program_table, output}
use Rattle.report_text.specs.Stored.{Stored}

-- lists that hold all that a file of the program's length can hold: 1,024 records with a node, a cell or 14 words each
pub record Lists (coords kinds ends words : ℕ) : Type 0 where
  pub coords_many : 3072 ≤ coords
  pub kinds_many : 1024 ≤ kinds
  pub ends_many : 1024 ≤ ends
  pub words_many : 14336 ≤ words

-- the memory that a check and its report need: findings, work and output, 128 bytes for each line of a finding and 64 for the totals
pub record Memory (findings work out : ℕ) : Type 0 where
  pub finding_bytes : findings ≡ 64 * program_records
  pub work_words : work ≡ program_work
  pub out_bytes : 65600 ≤ out

-- why an input is not read: 1 if it is too long, then reading's 1 to 3
abbrev pub input_refusal : List ℕ → ℕ
input_refusal s = refusal ((1, ltb input_limit (length s)) ∷ file_table s)

-- why an input has no report
abbrev pub program_refusal : List ℕ → ℕ
program_refusal s = refusal (program_table s)

-- the records that the program keeps of a model
unfoldable pub kept_in : Model → List ℕ
kept_in m = kept_bytes (rules_of m) (totals_of m (64 * program_records)).kept (full_of m)

-- A run's promise: the output, and what each lent list holds afterwards.
pub record Running (s : List ℕ) (coords coords' : List Float) (kinds kinds' ends ends' words words' findings findings' work work' out out' : List ℕ) (r : ℕ) : Type 0 where
  pub stored : Stored out 0 (output s) out' r
  pub within : r ≤ length out
  pub findings_are : findings' ≡ filled (program_refusal s) (kept_in (decode s)) findings
  pub work_is : work' ≡ filled (program_refusal s) (replicate (work_needed (decode s)) 0) work
  pub coords_are : coords' ≡ filled (input_refusal s) (decode s).coords coords
  pub kinds_are : kinds' ≡ filled (input_refusal s) (decode s).kinds kinds
  pub ends_are : ends' ≡ filled (input_refusal s) (decode s).ends ends
  pub words_are : words' ≡ filled (input_refusal s) (decode s).words words
