-- What the check answers and keeps, by its promise.
use Prim.Native.Nat.{ℕ, ◌*◌, ◌/◌, min, ◌≤◌, ◌<◌}
use mathlib.Core.Path.{◌≡◌, refl, sym, ap, ap₂, ◌∙◌}
use mathlib.Core.Logic.{◌≢◌}
use mathlib.Core.Bool.{Bool, true, false, cond}
use mathlib.Core.List.{List, [], ◌∷◌, ◌++◌}
use native.Mathlib.Omega.{arith}
use lib.Dec.{eqb}
use lib.ListN.{length, get_or, take, drop, length-append, length-take, length-drop}
use lib.Seq.{take-length}
use Rattle.laws.specs.Lists.{each}
use Rattle.laws.specs.Refusals.{Answer, done, refusal, answer}
use Rattle.laws.proofs.ListLaws.{keep-length}
use Rattle.laws.proofs.Tables.{answered_done}
use Rattle.mesh.specs.Model.{Model, contains, TOPOLOGY, cells_of}
use Rattle.mesh.specs.Acceptance.{model_refusal, check_table}
use Rattle.findings.specs.Findings.{Rules, Finding}
use Rattle.findings.specs.Rules.{rules_of, full_of}
use Rattle.findings.specs.Records.{record_bytes, record_of, kept_of, kept_bytes}
use Rattle.findings.specs.declared.Totals.{Totals}
use Rattle.findings.specs.Check.{totals_of, check_refusal, Checking}
use Rattle.findings.specs.Compared.{none, names_pair, with_cells, reordered}
use Rattle.findings.specs.Demand3.{PartlyShared, Reordering, Reported}
use Rattle.findings.proofs.Models.{same_total, same_check, once}

-- a record has 64 bytes
pub record_64 : (R : Rules) (x : Finding) → length (record_of R x) ≡ 64
unfolding record_of record_bytes
record_64 R x = refl

-- so many records have 64 times as many bytes
pub records_64 : (R : Rules) (l : List Finding) → length (each (record_of R) l) ≡ 64 * length l
records_64 R [] = refl
records_64 R (x ∷ l) = omega (arith, length-append (record_of R x) (each (record_of R) l), record_64 R x, records_64 R l)

-- the bytes kept
pub kept_64 : (m : Model) (lent : ℕ) → length (kept_bytes (rules_of m) (totals_of m lent).kept (full_of m)) ≡ 64 * (totals_of m lent).kept
unfolding totals_of kept_of kept_bytes
kept_64 m lent =
    omega (arith, records_64 (rules_of m) (take (totals_of m lent).kept (full_of m)), length-take (totals_of m lent).kept (full_of m))

-- fit the bytes lent
pub kept_fits : (m : Model) (lent : ℕ) → 64 * (totals_of m lent).kept ≤ lent
unfolding totals_of kept_of
kept_fits m lent = omega arith

-- so a check leaves as many bytes as were lent
pub lent_length : (m : Model) (f f' w w' : List ℕ) (r : Answer Totals) → Checking m f f' w w' r → length f' ≡ length f
lent_length m f f' w w' r c = ap length c.memory.findings_are ∙ go (eqb (check_refusal m w) 0)
  where
    kept : List ℕ
    kept = kept_bytes (rules_of m) (totals_of m (length f)).kept (full_of m)

    go : (b : Bool) → length (cond b (kept ++ drop (length kept) f) f) ≡ length f
    go true = omega (arith, length-append kept (drop (length kept) f), length-drop (length kept) f, kept_64 m (length f), kept_fits m (length f))
    go false = refl

-- a report is what it should be
pub report_is : (m : Model) (findings findings' work work' : List ℕ) (t : Totals) → Checking m findings findings' work work' (done t) → Reported m findings findings' t.total t.kept
unfolding totals_of kept_of kept_bytes
report_is m findings findings' work work' t c =
    let p = answered_done (check_refusal m work) t (totals_of m (length findings)) c.answered in
    let t-is : t.total ≡ length (full_of m) = ap (λ (x : Totals). x.total) p.1 in
    let k-is : t.kept ≡ (totals_of m (length findings)).kept = ap (λ (x : Totals). x.kept) p.1 in
    record {
      total = t-is;
      kept = k-is ∙ ap (λ (x : ℕ). min m.cap (min x (length findings / 64))) (sym t-is);
      records = c.memory.findings_are ∙ rw (p.0, k-is);
    }

-- an accepted model and its reordering are answered alike, for the same lent lengths
pub same_answer : (m : Model) (σ f f' w w' g g' v v' : List ℕ) (r s : Answer Totals) → model_refusal m ≡ 0 → Reordering m σ → length f ≡ length g → length w ≡ length v
    → Checking m f f' w w' r → Checking (reordered σ m) g g' v v' s → s ≡ r
unfolding totals_of reordered with_cells
same_answer m σ f f' w w' g g' v v' r s e q lf lw c d =
    let n : check_refusal (reordered σ m) v ≡ check_refusal m w = same_check m σ v e q ∙ ap (λ (k : ℕ). refusal (check_table m k)) (sym lw) in
    let t : totals_of (reordered σ m) (length g) ≡ totals_of m (length f) =
    ap₂ (λ (x l : ℕ). totals m.cap x l) (same_total m σ q.permutes) (sym lf) in
    d.answered ∙ ap₂ (λ (k : ℕ) (x : Totals). answer k x) n t ∙ sym c.answered
  where
    totals : ℕ → ℕ → ℕ → Totals
    totals most x l = record { total = x; kept = kept_of most x l }

-- a report of nothing, with the topology check on: no two cells share partly
pub none_shared : (m : Model) (f f' w w' : List ℕ) (t : Totals) → Checking m f f' w w' (done t) → t.total ≡ 0 → contains m.flags TOPOLOGY ≡ true
    → (i j : ℕ) → i ≢ j → i < length (cells_of m) → j < length (cells_of m) → PartlyShared (rules_of m) (get_or (cells_of m) i none) (get_or (cells_of m) j none) → ⊥
none_shared m f f' w w' t c z q i j d hi hj h =
    omega (arith, (report_is m f f' w w' t c).total, once m i j q d hi hj h, keep-length (names_pair i j) (full_of m))

-- a report that keeps all it counts has the record of every finding
pub all_kept : (m : Model) (f f' w w' : List ℕ) (t : Totals) → Checking m f f' w w' (done t) → t.kept ≡ t.total
    → f' ≡ each (record_of (rules_of m)) (full_of m) ++ drop (length (each (record_of (rules_of m)) (full_of m))) f
all_kept m f f' w w' t c z =
    let r = report_is m f f' w w' t c in
    let e : take t.kept (full_of m) ≡ full_of m = ap (λ (n : ℕ). take n (full_of m)) (z ∙ r.total) ∙ take-length (full_of m) in
    r.records ∙ rw e
