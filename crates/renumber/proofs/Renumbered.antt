-- Nodes renumbered with their order kept: the report is the same with nodes renamed, every centre to the bit.
use Prim.Native.Nat.{ℕ, ◌+◌, ◌*◌, ◌≤◌}
use mathlib.Core.Path.{◌≡◌, refl, sym, ap, ap₂, ◌∙◌, subst}
use mathlib.Core.List.{List, ◌++◌, map, Memᴰ}
use borrow.Author.Tests.{le-ltb}
use lib.ListN.{length, take, drop, length-map}
use Rattle.laws.specs.Lists.{each}
use Rattle.laws.specs.Refusals.{Answer, answer, filled}
use Rattle.geometry.specs.Coordinates.{node_count}
use Rattle.mesh.specs.Model.{Model, cells_of}
use Rattle.mesh.specs.Acceptance.{model_refusal, work_needed}
use Rattle.mesh.proofs.Accepts.{accepts, accepted}
use Rattle.snap.specs.Weld.{welded_by}
use Rattle.welding.specs.Used.{used_nodes, welds_of}
use Rattle.findings.specs.Findings.{Finding, bowtie, overfull, partly, repeated}
use Rattle.findings.specs.Rules.{rules_of, full_of}
use Rattle.findings.specs.Records.{fields_of, centre_in, record_bytes, record_of, kept_of, kept_bytes}
use Rattle.findings.specs.Check.{totals_of, check_refusal, Checking}
use Rattle.findings.specs.declared.Totals.{Totals}
use Rattle.findings.proofs.Moved.{check_refusal_lem}
use Rattle.renumber.specs.Renumbering.{Used, Renumbering, renamed, renamed_fields, record_by}
use Rattle.renumber.proofs.Alike.{Alike, empty, link, length_alike, take_alike}
use Rattle.renumber.proofs.Findings.{FindingAlike, finding_renamed, findings_renamed, centre_same, names}
use Rattle.renumber.proofs.Models.{Goes, CellGoes, used-go, welds_go, rules_go, full_go}
use Rattle.renumber.proofs.Accepting.{renumbered_accepts, renumbered_work}

-- a member has one that is alike
alike_member : {A B : Type 0} {F : A → B → Type 0} {x : A} {l : List A} {m : List B} → Alike F l m → Memᴰ x l → (y : B) × F x y
alike_member {A = A} {B = B} {F = F} empty k = elim k [ ]
alike_member {F = F} (link {b = b} e r) (Memᴰ.head q) = (b, subst (λ z. F z b) (sym q) e)
alike_member (link e r) (Memᴰ.tail k) = alike_member r k

-- the fields of a finding's record, its nodes renamed
pub fields_renamed : (ρ : ℕ → ℕ) (x : Finding) → fields_of (renamed ρ x) ≡ renamed_fields ρ (fields_of x)
unfolding fields_of renamed renamed_fields
fields_renamed ρ (bowtie c) = refl
fields_renamed ρ (overfull c₁ c₂ f n k os) = refl
fields_renamed ρ (partly c₁ c₂ a b ns) = rw (length-map ns ρ)
fields_renamed ρ (repeated c a b) = refl

module _ (ρ : ℕ → ℕ) (m n : Model) (h : Renumbering ρ m n) (e : model_refusal m ≡ 0) where
  -- the renumbered model is accepted
  pub accepted_renumbered : model_refusal n ≡ 0
  accepted_renumbered = accepted n (renumbered_accepts ρ m n h (accepts m e))

  -- and needs the same work, but for four words a node
  pub work_renumbered : work_needed n + 4 * node_count m.coords ≡ work_needed m + 4 * node_count n.coords
  work_renumbered = renumbered_work ρ m n h (accepts m e)

  -- the nodes used are those used, renamed
  pub used-renumbered : used_nodes (cells_of n) ≡ map ρ (used_nodes (cells_of m))
  used-renumbered = names (Goes ρ m) ρ (λ a x g. g.is) (used-go ρ m n h (accepts m e))

  -- so are welded numbers
  pub welds_renumbered : (a : ℕ) → Used m a → welded_by (welds_of n) (ρ a) ≡ ρ (welded_by (welds_of m) a)
  welds_renumbered a u = (welds_go ρ m n h (accepts m e) a (ρ a) (record { used = u; is = refl })).is

  -- the full list is the full list, its nodes renamed: cells, face numbers, counts, owners and order as they were
  pub full_renumbered : full_of n ≡ map (renamed ρ) (full_of m)
  full_renumbered = findings_renamed (Goes ρ m) ρ (λ a x g. g.is) (full_go ρ m n h (accepts m e))

  -- findings alike have the same centre
  centre_alike : {x y : Finding} → FindingAlike (Goes ρ m) x y → centre_in (rules_of m) x ≡ centre_in (rules_of n) y
  centre_alike g = centre_same (Goes ρ m) (CellGoes ρ m) (rules_of m) (rules_of n) (rules_go ρ m n h (accepts m e)) g

  -- every centre is the same to the bit
  pub centre_renumbered : (x : Finding) → Memᴰ x (full_of m) → centre_in (rules_of n) (renamed ρ x) ≡ centre_in (rules_of m) x
  centre_renumbered x k =
      let r = alike_member (full_go ρ m n h (accepts m e)) k in
      ap (centre_in (rules_of n)) (sym (finding_renamed (Goes ρ m) ρ (λ a x g. g.is) r.1)) ∙ sym (centre_alike r.1)

  -- and so is every record, but for the two nodes of kind 4
  record_alike : {x y : Finding} → FindingAlike (Goes ρ m) x y → record_by ρ (rules_of m) x ≡ record_of (rules_of n) y
  unfolding record_of record_by
  record_alike {x} {y} g =
      ap₂ record_bytes (sym (fields_renamed ρ x) ∙ ap fields_of (sym (finding_renamed (Goes ρ m) ρ (λ a x g. g.is) g))) (centre_alike g)

  records_alike : {l k : List Finding} → Alike (FindingAlike (Goes ρ m)) l k → each (record_of (rules_of n)) k ≡ each (record_by ρ (rules_of m)) l
  records_alike empty = refl
  records_alike (link g r) = ap₂ (λ (a b : List ℕ). a ++ b) (sym (record_alike g)) (records_alike r)

  -- total and kept are the same
  pub totals_renumbered : (lent : ℕ) → totals_of n lent ≡ totals_of m lent
  unfolding totals_of
  totals_renumbered lent =
      let t : length (full_of n) ≡ length (full_of m) = sym (length_alike (full_go ρ m n h (accepts m e))) in
      λ i. record { total = t i; kept = kept_of (h.cap i) (t i) lent }

  -- the records kept
  pub kept_renumbered : (k : ℕ) → kept_bytes (rules_of n) k (full_of n) ≡ each (record_by ρ (rules_of m)) (take k (full_of m))
  unfolding kept_bytes
  kept_renumbered k = records_alike (take_alike k (full_go ρ m n h (accepts m e)))

-- ---- the check

-- an accepted model is not refused where the work is long enough
passes : (m : Model) (work : List ℕ) → model_refusal m ≡ 0 → work_needed m ≤ length work → check_refusal m work ≡ 0
passes m work e h = check_refusal_lem m _ (accepts m e) ∙ rw (le-ltb (length work) (work_needed m) h)

-- "the report is the same with nodes renamed": with work long enough for both and as much room for findings, the check answers the same,
-- and the lent bytes begin with the same records, their nodes renamed
pub report_renumbered : (ρ : ℕ → ℕ) (m n : Model) (f f' w w' g g' v v' : List ℕ) (r s : Answer Totals) → Renumbering ρ m n → model_refusal m ≡ 0
    → length f ≡ length g → work_needed m ≤ length w → work_needed n ≤ length v → Checking m f f' w w' r → Checking n g g' v v' s
    → (s ≡ r)
    × (f' ≡ each (record_of (rules_of m)) (take (totals_of m (length f)).kept (full_of m))
    ++ drop (length (each (record_of (rules_of m)) (take (totals_of m (length f)).kept (full_of m)))) f)
    × (g' ≡ each (record_by ρ (rules_of m)) (take (totals_of m (length f)).kept (full_of m))
    ++ drop (length (each (record_by ρ (rules_of m)) (take (totals_of m (length f)).kept (full_of m)))) g)
unfolding kept_bytes
report_renumbered ρ m n f f' w w' g g' v v' r s h e lf lw lv c d =
    let pm : check_refusal m w ≡ 0 = passes m w e lw in
    let pn : check_refusal n v ≡ 0 = passes n v (accepted_renumbered ρ m n h e) lv in
    let t : totals_of n (length g) ≡ totals_of m (length f) = totals_renumbered ρ m n h e (length g) ∙ ap (totals_of m) (sym lf) in
    let k : kept_bytes (rules_of n) (totals_of n (length g)).kept (full_of n) ≡ each (record_by ρ (rules_of m)) (take (totals_of m (length f)).kept (full_of m)) =
    kept_renumbered ρ m n h e (totals_of n (length g)).kept ∙ ap (λ (x : Totals). each (record_by ρ (rules_of m)) (take x.kept (full_of m))) t in (
      d.answered ∙ (λ i. answer (pn i) (t i)) ∙ (λ i. answer (sym pm i) (totals_of m (length f))) ∙ sym c.answered,
      c.memory.findings_are ∙ ap (λ (x : ℕ). filled x (kept_bytes (rules_of m) (totals_of m (length f)).kept (full_of m)) f) pm,
      d.memory.findings_are ∙ (λ i. filled (pn i) (k i) g),
    )
