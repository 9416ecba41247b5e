-- The demands, for the check itself: over `Checking`, which its promise has for every way, and over nothing else. The rest of demand 3 is in findings/proofs/Demand3.
use Prim.Native.Nat.{ℕ, ◌<◌}
use mathlib.Core.Path.{◌≡◌, sym, ap, ◌∙◌}
use mathlib.Core.Logic.{◌≢◌}
use mathlib.Core.Bool.{true}
use mathlib.Core.List.{List, ◌++◌}
use borrow.Author.Tests.{eqb-false}
use lib.ListN.{length, get_or, drop, replicate, length-replicate}
use Rattle.laws.specs.Lists.{keep}
use Rattle.laws.specs.Refusals.{Answer, refused, done, refusal}
use Rattle.laws.proofs.Tables.{answered_refused, answered_done}
use Rattle.mesh.specs.Model.{Model, contains, TOPOLOGY, cells_of}
use Rattle.mesh.specs.Acceptance.{work_needed, check_table}
use Rattle.findings.specs.Rules.{rules_of, full_of}
use Rattle.findings.specs.Compared.{none, names_pair}
use Rattle.findings.specs.Demand3.{PartlyShared, Reported}
use Rattle.findings.specs.declared.Totals.{Totals}
use Rattle.findings.specs.Check.{totals_of, check_refusal, Checking}
use Rattle.findings.proofs.Demand3.{pair_once, pair_never, report_says}

-- ---- demand 1

-- "A numbered refusal [..]. A refusal comes only for the reasons in document 01, in that order, and changes no lent byte": the number is that of the first row of the table whose reason holds, and it is not 0
pub refusal_is : (m : Model) (f f' w w' : List ℕ) (n : ℕ) → Checking m f f' w w' (refused n) → (n ≡ refusal (check_table m (length w))) × (n ≢ 0) × (f' ≡ f) × (w' ≡ w)
refusal_is m f f' w w' n c =
    let p = answered_refused n (check_refusal m w) (totals_of m (length f)) c.answered in
    (p.0, λ z. eqb-false (check_refusal m w) 0 p.1 (sym p.0 ∙ z), c.memory.findings_are ∙ rw p.1, c.memory.work_is ∙ rw p.1)

-- "or a complete report": nothing is refused, the report is what it should be, and the needed words of work end zero
pub report_is_whole : (m : Model) (f f' w w' : List ℕ) (t : Totals) → Checking m f f' w w' (done t)
    → (refusal (check_table m (length w)) ≡ 0) × Reported m f f' t.total t.kept × (w' ≡ replicate (work_needed m) 0 ++ drop (work_needed m) w)
report_is_whole m f f' w w' t c =
    let e = (answered_done (check_refusal m w) t (totals_of m (length f)) c.answered).0 in
    (e, report_says m f f' w w' t c, c.memory.work_is ∙ (rw e) ∙ ap (λ (i : ℕ). replicate (work_needed m) 0 ++ drop i w) (length-replicate {A = ℕ} (work_needed m) 0))

-- "is the answer to every model [..] and lent memory": a model that no reason refuses is reported
pub accepted_is_reported : (m : Model) (f f' w w' : List ℕ) (r : Answer Totals) → refusal (check_table m (length w)) ≡ 0 → Checking m f f' w w' r → r ≡ done (totals_of m (length f))
accepted_is_reported m f f' w w' (refused n) e c =
    let p = answered_refused n (check_refusal m w) (totals_of m (length f)) c.answered in
    absurd (eqb-false (check_refusal m w) 0 p.1 e)
accepted_is_reported m f f' w w' (done t) e c =
    ap done (answered_done (check_refusal m w) t (totals_of m (length f)) c.answered).1

-- ---- demand 3, the pairs, of a model that the check reports on

-- "the full list has their pair as partly shared, once, exactly when [..]"
pub reported_once : (m : Model) (f f' w w' : List ℕ) (t : Totals) (i j : ℕ) → Checking m f f' w w' (done t) → contains m.flags TOPOLOGY ≡ true → i ≢ j → i < length (cells_of m) → j < length (cells_of m)
    → PartlyShared (rules_of m) (get_or (cells_of m) i none) (get_or (cells_of m) j none) → (length (keep (names_pair i j) (full_of m)) ≡ 1) × (t.total ≡ length (full_of m))
reported_once m f f' w w' t i j c flag ne a b p = (pair_once m i j flag ne a b p, (report_says m f f' w w' t c).total)

-- "and not at all otherwise"
pub reported_never : (m : Model) (f f' w w' : List ℕ) (t : Totals) (i j : ℕ) → Checking m f f' w w' (done t) → contains m.flags TOPOLOGY ≡ true → i ≢ j → i < length (cells_of m) → j < length (cells_of m)
    → (PartlyShared (rules_of m) (get_or (cells_of m) i none) (get_or (cells_of m) j none) → ⊥) → (length (keep (names_pair i j) (full_of m)) ≡ 0) × (t.total ≡ length (full_of m))
reported_never m f f' w w' t i j c flag ne a b p = (pair_never m i j flag ne a b p, (report_says m f f' w w' t c).total)
