-- The text of what the check answers is that of the model.
use Prim.Native.Nat.{ℕ, ◌*◌, ◌≤◌}
use mathlib.Core.Path.{◌≡◌, sym, ap, ap₂, ◌∙◌, subst}
use mathlib.Core.Logic.{◌⊎◌, inl, inr, ◌≢◌}
use mathlib.Core.Bool.{Bool, true, false, cond}
use mathlib.Core.List.Memᴰ
use mathlib.Core.List.{List, [], ◌∷◌, map, Memᴰ}
use native.Mathlib.Omega.{arith}
use borrow.Author.Tests.{eqb-true, eqb-false, eq-eqb, ne_eqb}
use lib.Dec.{eqb, ltb}
use lib.ListN.{length, take, drop, replicate, length-take, take-append-drop}
use lib.Seq.{take_at}
use Rattle.laws.specs.Limits.{program_records, program_work}
use Rattle.laws.specs.Lists.{each}
use Rattle.laws.specs.Refusals.{Answer, refused, done, refusal, filled}
use Rattle.laws.proofs.Tables.{refusal_first, answered_done, answered_refused}
use Rattle.std.proofs.lemmas.Bool.{cases_Bool}
use Rattle.mesh.specs.Model.{Model}
use Rattle.mesh.specs.Acceptance.{model_table, model_refusal, check_table, work_needed}
use Rattle.findings.specs.Findings.{Finding}
use Rattle.findings.specs.Rules.{rules_of, full_of}
use Rattle.findings.specs.Records.{Fields, fields_of, record_of, kept_bytes}
use Rattle.findings.specs.declared.Totals.{Totals}
use Rattle.findings.specs.Check.{totals_of, check_refusal, Checking}
use Rattle.findings.proofs.Kept.{records_64, lent_length, report_is}
use Rattle.findings.proofs.Models.{below_of}
use Rattle.report.specs.Text.{refused_line, report_text}
use Rattle.report.specs.Program.{report_of}
use Rattle.report_text.specs.Stored.{Stored, fields_kept}
use Rattle.report_text.proofs.Reports.{kept_back}
use Rattle.program.specs.Running.{kept_in}
use Rattle.program.specs.Steps.{text_of, checked_refusal, model_text, Reporting}

-- ---- the text

-- a model that the check does not refuse is accepted
not_refused : (m : Model) (n : ℕ) → refusal (check_table m n) ≡ 0 → model_refusal m ≡ 0
unfolding model_refusal
not_refused m n e = go (cases_Bool (eqb (refusal (model_table m)) 0))
  where
    rest : List (ℕ × Bool)
    rest = (11, ltb n (work_needed m)) ∷ []

    go : (eqb (refusal (model_table m)) 0 ≡ true) ⊎ (eqb (refusal (model_table m)) 0 ≡ false) → refusal (model_table m) ≡ 0
    go (inl t) = eqb-true (refusal (model_table m)) 0 t
    go (inr t) = let z = eqb-false (refusal (model_table m)) 0 t in absurd (z (sym (refusal_first (model_table m) rest z) ∙ e))

-- what stands among the first k stands in the list
in_front : (k : ℕ) (l : List Finding) (x : Finding) → Memᴰ x (take k l) → Memᴰ x l
in_front k l x h = subst (λ (y : List Finding). Memᴰ x y) (take-append-drop k l) (Memᴰ.append_left (drop k l) h)

module _ (m : Model) (f f' w w' : List ℕ) where
  -- a report keeps no more records than there are bytes for, nor than the program lends
  pub keeps_of : (t : Totals) → length f ≡ 64 * program_records → Checking m f f' w w' (done t) → (64 * t.kept ≤ length f') × (t.kept ≤ program_records)
  keeps_of t e c =
      let p = report_is m f f' w w' t c in
      (omega (arith, p.kept, lent_length m f f' w w' (done t) c), omega (arith, p.kept))

  -- the fields read back from the findings are those of the records kept
  fields_kept_lem : (t : Totals) → model_refusal m ≡ 0 → Checking m f f' w w' (done t) → fields_kept f' t.kept ≡ map fields_of (take t.kept (full_of m))
  fields_kept_lem t ok c =
      let p = report_is m f f' w w' t c in
      let k = t.kept in
      let xs = take k (full_of m) in
      let n : length xs ≡ k = omega (arith, length-take k (full_of m), p.kept, p.total) in
      let long : length (each (record_of (rules_of m)) xs) ≡ 64 * k = omega (arith, records_64 (rules_of m) xs) in
      kept_back (rules_of m) f' k xs (ap (take (64 * k)) p.records ∙ take_at (each (record_of (rules_of m)) xs) (drop (length (each (record_of (rules_of m)) xs)) f) (64 * k) long) n
      (λ x h. below_of m x ok (in_front k (full_of m) x h))

  module _ (lf : length f ≡ 64 * program_records) (lw : length w ≡ program_work) where
    -- the refusal, by the length of the work
    same_no : check_refusal m w ≡ checked_refusal m
    same_no = ap (λ (n : ℕ). refusal (check_table m n)) lw

    -- the text
    text_is : (r : Answer Totals) → Checking m f f' w w' r → text_of r f' ≡ model_text m
    unfolding model_text report_of
    text_is (refused n) c =
        let p = answered_refused n (check_refusal m w) (totals_of m (length f)) c.answered in
        let z : checked_refusal m ≢ 0 = λ e. eqb-false (check_refusal m w) 0 p.1 (same_no ∙ e) in
        ap refused_line (p.0 ∙ same_no) ∙ sym (ap (λ (b : Bool). cond b (report_of m) (refused_line (checked_refusal m))) (ne_eqb (checked_refusal m) 0 z))
    text_is (done t) c =
        let p = answered_done (check_refusal m w) t (totals_of m (length f)) c.answered in
        let z : checked_refusal m ≡ 0 = sym same_no ∙ p.0 in
        ap (λ (l : List Fields). report_text l t.total t.kept) (fields_kept_lem t (not_refused m program_work z) c)
        ∙ ap (λ (x : Totals). report_text (map fields_of (take x.kept (full_of m))) x.total x.kept) (p.1 ∙ ap (totals_of m) lf)
        ∙ sym (ap (λ (b : Bool). cond b (report_of m) (refused_line (checked_refusal m))) (eq-eqb (checked_refusal m) 0 z))

    -- what the check leaves and the text of its answer make the model's report
    pub reporting : (r : Answer Totals) (out out' : List ℕ) (q : ℕ) → Checking m f f' w w' r → Stored out 0 (text_of r f') out' q → q ≤ length out → Reporting m f f' w w' out out' q
    unfolding kept_in
    reporting r out out' q c s h =
        record {
          stored = subst (λ (x : List ℕ). Stored out 0 x out' q) (text_is r c) s;
          within = h;
          findings_are = c.memory.findings_are ∙ ap₂ (λ (n l : ℕ). filled n (kept_bytes (rules_of m) (totals_of m l).kept (full_of m)) f) same_no lf;
          work_is = c.memory.work_is ∙ ap (λ (n : ℕ). filled n (replicate (work_needed m) 0) w) same_no;
        }
