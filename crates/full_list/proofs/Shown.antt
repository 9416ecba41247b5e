-- What is kept of the tables is kept of the model.
use Prim.Native.Nat.{ℕ}
use mathlib.Core.Path.{◌≡◌, subst}
use mathlib.Core.List.{List, []}
use lib.Ieee.{Float}
use Rattle.laws.specs.Lists.{each, walk, up_from}
use Rattle.mesh.specs.Model.{Model, cells_of}
use Rattle.welding.specs.Used.{welds_of}
use Rattle.findings.specs.Findings.{Finding, kind2, kind3, kind4}
use Rattle.findings.specs.Rules.{rules_of, cells_in}
use Rattle.findings.specs.Records.{record_of}
use Rattle.records.specs.declared.Sink.{Sink}
use Rattle.records.specs.Keeping.{Kept}
use Rattle.records.proofs.Keeping.{kept_by}
use Rattle.layout.specs.declared.Layout.{Layout}
use Rattle.layout.specs.ByCell.{plain_rules, over_cell, partly_cell}
use Rattle.layout.specs.Kept.{KeptAny}
use Rattle.layout.specs.Shown.{Shows}
use Rattle.shown.proofs.Same.{records_same}
use Rattle.shown.proofs.AllCells.{overs_shown, partly_shown, repeats_shown}
use Rattle.all_cells.specs.Cells.{repeat_in}
use Rattle.full_list.specs.Found.{KeptBy}

-- the plain rules give the model's records
same_records : (m : Model) (tol : Float) (x : Finding) → record_of (plain_rules m.coords tol) x ≡ record_of (rules_of m) x
unfolding rules_of
same_records m tol x = records_same m.coords tol m.tolerance [] (welds_of m) x

module _ (m : Model) (l : Layout) (t : List ℕ) (S : Shows m l t) (s u : Sink) where
  pub overs_kept : KeptAny m.coords (each (over_cell l t) (up_from 0 l.at.cell_count)) s u → KeptBy m (walk (kind2 (rules_of m)) [] (cells_in m)) s u
  overs_kept p =
      subst (λ (xs : List Finding). Kept (rules_of m) xs s u) (overs_shown m l t S)
      (kept_by (plain_rules m.coords m.tolerance) (rules_of m) _ s u (same_records m m.tolerance) (p m.tolerance))

  pub pairs_kept : Kept (plain_rules m.coords m.tolerance) (each (partly_cell (plain_rules m.coords m.tolerance) l t) (up_from 0 l.at.cell_count)) s u → KeptBy m (walk (kind3 (rules_of m)) [] (cells_in m)) s u
  pairs_kept p =
      subst (λ (xs : List Finding). Kept (rules_of m) xs s u) (partly_shown m l t S)
      (kept_by (plain_rules m.coords m.tolerance) (rules_of m) _ s u (same_records m m.tolerance) p)

  pub repeats_kept : KeptAny m.coords (each (repeat_in l t m.kinds m.ends m.words) (up_from 0 l.at.cell_count)) s u → KeptBy m (walk (kind4 (rules_of m)) [] (cells_in m)) s u
  unfolding cells_of
  repeats_kept p =
      subst (λ (xs : List Finding). Kept (rules_of m) xs s u) (repeats_shown m l t S)
      (kept_by (plain_rules m.coords m.tolerance) (rules_of m) (each (repeat_in l t m.kinds m.ends m.words) (up_from 0 l.at.cell_count)) s u (same_records m m.tolerance) (p m.tolerance))
