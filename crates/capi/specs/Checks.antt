-- The exported check, and what it needs: answers are numbers, and total and kept are lent.
use Rattle.std.specs.Prelude.{ℕ, List, length}
use Rattle.mesh.specs.Model.{Model}
use Rattle.mesh.specs.Rings.{ring_words}
use Rattle.mesh.specs.Acceptance.{model_refusal, faces_in, work_needed}
use Rattle.findings.specs.Check.{totals_of, check_refusal, CheckMemory}
use Rattle.capi.specs.Written.{Exported}

-- The work needed: 0 or the model's refusal, 5 to 10; words of work, ring words and faces.
pub record WorkExport (m : Model) (need need' rings rings' faces faces' r : ℕ) : Type 0 where
  pub need_is : Exported (model_refusal m) (work_needed m) need need' r
  pub rings_are : Exported (model_refusal m) (length (ring_words (faces_in m))) rings rings' r
  pub faces_are : Exported (model_refusal m) (length (faces_in m)) faces faces' r

-- The check: 0 or the refusal's number; total and kept; findings and work as the check promises them.
pub record CheckExport (m : Model) (findings findings' work work' : List ℕ) (total total' kept kept' r : ℕ) : Type 0 where
  pub total_is : Exported (check_refusal m work) (totals_of m (length findings)).total total total' r
  pub kept_is : Exported (check_refusal m work) (totals_of m (length findings)).kept kept kept' r
  pub memory : CheckMemory m findings findings' work work'
