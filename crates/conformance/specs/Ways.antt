-- The check by either way: how many faces are sought by it. What is found is the same.
use Rattle.std.specs.Prelude.{List, ℕ, ◌≡◌, Result}
use Rattle.laws.specs.Refusals.{answer}
use Rattle.refusals.specs.Told.{told_by}
use Rattle.refusals.specs.declared.Refusal.{Refusal}
use Rattle.mesh.specs.Model.{Model}
use Rattle.findings.specs.Check.{check_refusal, Checking}
use Rattle.seek.specs.Ways.{tally_of}
use Rattle.full_list.specs.declared.Choice.{Choice}
use Rattle.full_list.specs.Ways.{goes_by_nodes, sought_in}
use Rattle.conformance.specs.declared.Checked.{Checked}

-- The promise for every choice: the check's own, and where it is not refused all faces that it seeks candidates of were sought by the way chosen. The check's choice is the way that is less work.
pub record CheckingBy (choice : Choice) (m : Model) (findings findings' work work' : List ℕ) (r : Result Checked Refusal) : Type 0 where
  pub checking : Checking m findings findings' work work' (told_by (λ c. c.totals) r)
  pub sought : told_by (λ c. c.tally) r ≡ answer (check_refusal m work) (tally_of (goes_by_nodes choice m) (sought_in m))
