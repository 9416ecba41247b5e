-- Checking a model: why it refuses, what it answers, and what the finding records and the work hold afterwards.
use Rattle.std.specs.Prelude.{ℕ, List, ◌≡◌, length, replicate}
use Rattle.laws.specs.Refusals.{Answer, refusal, answer, filled}
use Rattle.mesh.specs.Model.{Model}
use Rattle.mesh.specs.Acceptance.{work_needed, check_table}
use Rattle.findings.specs.Rules.{rules_of, full_of}
use Rattle.findings.specs.Records.{kept_of, kept_bytes}
use Rattle.findings.specs.declared.Totals.{Totals}

-- total: the full list's length; kept: how many of its records, where so many bytes are lent for findings
unfoldable pub totals_of : Model → ℕ → Totals
totals_of m lent = record { total = length (full_of m); kept = kept_of m.cap (length (full_of m)) lent }

abbrev pub check_refusal : Model → List ℕ → ℕ
check_refusal m work = refusal (check_table m (length work))

-- What a check leaves in lent memory: the first k records in the findings; the needed words of work, which end zero.
pub record CheckMemory (m : Model) (findings findings' work work' : List ℕ) : Type 0 where
  pub findings_are : findings' ≡ filled (check_refusal m work) (kept_bytes (rules_of m) (totals_of m (length findings)).kept (full_of m)) findings
  pub work_is : work' ≡ filled (check_refusal m work) (replicate (work_needed m) 0) work

-- The check's promise: the answer, and lent memory.
pub record Checking (m : Model) (findings findings' work work' : List ℕ) (r : Answer Totals) : Type 0 where
  pub answered : r ≡ answer (check_refusal m work) (totals_of m (length findings))
  pub memory : CheckMemory m findings findings' work work'
