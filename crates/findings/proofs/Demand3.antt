-- Demand 3, sentence by sentence. The proofs stand in the other files.
use Prim.Native.Nat.{ℕ, ◌*◌, ◌/◌, min, ◌≤◌, ◌<◌}
use mathlib.Core.Path.{◌≡◌, refl}
use mathlib.Core.Logic.{◌≢◌, ◌↔◌}
use mathlib.Core.Bool.{true, false, cond}
use mathlib.Core.List.{List, ◌++◌, map, Perm, Memᴰ}
use lib.ListN.{length, get_or, take, drop}
use Rattle.laws.specs.Lists.{any, each, keep, up_from}
use Rattle.geometry.specs.Points.{points_of}
use Rattle.area.specs.AreaTest.{area_of, is_spans}
use Rattle.bow_tie.specs.BowTie.{bow_tie_of}
use Rattle.snap.specs.Weld.{welded_by}
use Rattle.welding.specs.Used.{used_nodes, welds_of}
use Rattle.mesh.specs.Model.{Model, Raw, contains, TOPOLOGY, cells_of}
use Rattle.mesh.specs.Rings.{rings_of, numbered, same_key}
use Rattle.mesh.specs.Lookup.{face_at}
use Rattle.mesh.specs.Acceptance.{model_refusal, faces_in, work_needed}
use Rattle.laws.specs.Refusals.{Answer, done}
use Rattle.findings.specs.Findings.{Rules, Finding, full}
use Rattle.findings.specs.Rules.{bow_of, rules_with, rules_of, full_of}
use Rattle.findings.specs.Records.{fields_of, record_of, kept_of, kept_bytes}
use Rattle.findings.specs.Check.{totals_of, check_refusal, Checking}
use Rattle.findings.specs.Compared.{none, shares, names_pair, moved, reordered, compared}
use Rattle.findings.specs.Demand3.{PartlyShared, PairIn, Reordering, read_back, Below, Reported}
use Rattle.findings.specs.declared.Totals.{Totals}
use Rattle.findings.proofs.Exact.{exact}
use Rattle.findings.proofs.ByKind.{only, unasked}
use Rattle.findings.proofs.Means.{shares_means}
use Rattle.findings.proofs.Told.{first_told}
use Rattle.mesh.proofs.Accepts.{accepts, accepted}
use Rattle.findings.proofs.Moved.{moved_accepts, same_work, reordered_cells}
use Rattle.findings.proofs.Same.{read_back_lem}
use Rattle.findings.proofs.Reorder.{reordering}
use Rattle.findings.proofs.Models.{full_of_lem, often, once, never, there, same_used, same_rules, same_findings, same_total, same_check, told_of, below_of, settled, same_form}
use Rattle.findings.proofs.Kept.{record_64, kept_64, kept_fits, lent_length, report_is, same_answer, none_shared, all_kept}

-- ---- the pairs

-- "For every accepted model with the topology check on and every two different cells A and B, the full list has their pair as partly shared, once, exactly when [the condition], and not at all otherwise":
-- for any rules, flags and cells.
pub pairs_exactly : (R : Rules) (flags : ℕ) (cs : List Raw) (i j : ℕ) → contains flags TOPOLOGY ≡ true → i ≢ j → i < length cs → j < length cs
    → length (keep (names_pair i j) (full R flags (numbered R.rings cs))) ≡ cond (shares R (get_or cs i none) (get_or cs j none)) 1 0
pairs_exactly = exact

-- The same of a model, accepted or not.
pub model_pairs_exactly : (m : Model) (i j : ℕ) → contains m.flags TOPOLOGY ≡ true → i ≢ j → i < length (cells_of m) → j < length (cells_of m)
    → length (keep (names_pair i j) (full_of m)) ≡ cond (shares (rules_of m) (get_or (cells_of m) i none) (get_or (cells_of m) j none)) 1 0
model_pairs_exactly = often

-- "exactly when neither is a bow-tie and some face of A and some face of B have unequal node sets with three or more common nodes that pass the area test": the computed condition is the one in words.
pub condition_means : (R : Rules) (a b : Raw) → (shares R a b ≡ true) ↔ PartlyShared R a b
condition_means = shares_means

-- So, in words: once where the condition holds,
pub pair_once : (m : Model) (i j : ℕ) → contains m.flags TOPOLOGY ≡ true → i ≢ j → i < length (cells_of m) → j < length (cells_of m)
    → PartlyShared (rules_of m) (get_or (cells_of m) i none) (get_or (cells_of m) j none) → length (keep (names_pair i j) (full_of m)) ≡ 1
pair_once = once

-- not at all where it does not,
pub pair_never : (m : Model) (i j : ℕ) → contains m.flags TOPOLOGY ≡ true → i ≢ j → i < length (cells_of m) → j < length (cells_of m)
    → (PartlyShared (rules_of m) (get_or (cells_of m) i none) (get_or (cells_of m) j none) → ⊥) → length (keep (names_pair i j) (full_of m)) ≡ 0
pair_never = never

-- and where the pair is there, the condition holds.
pub pair_there : (m : Model) (i j : ℕ) → contains m.flags TOPOLOGY ≡ true → i ≢ j → i < length (cells_of m) → j < length (cells_of m)
    → length (keep (names_pair i j) (full_of m)) ≢ 0 → PartlyShared (rules_of m) (get_or (cells_of m) i none) (get_or (cells_of m) j none)
pair_there = there

-- "a cell's faces are its rings" (document 01)
pub faces_are_rings : (m : Model) (c : Raw) → (rules_of m).rings c ≡ rings_of c
unfolding rules_of rules_with
faces_are_rings m c = refl

-- "Common nodes pass when the area test on them, with the model's tolerance, says 'spans'" (document 01)
pub nodes_pass : (m : Model) (ns : List ℕ) → (rules_of m).spans ns ≡ is_spans (area_of m.tolerance (points_of m.coords ns))
unfolding rules_of rules_with
nodes_pass m ns = refl

-- "A bow-tie is a cell as in kind 1": some ring, its nodes welded, crosses itself
pub bow_ties_are : (m : Model) (c : Raw)
    → (rules_of m).bow c ≡ any (λ r. bow_tie_of m.tolerance (points_of m.coords (map (welded_by (welds_of m)) r))) (rings_of c)
unfolding rules_of rules_with bow_of
bow_ties_are m c = refl

-- "no other finding is of that kind": each of kind 3 names two different cells of the model, the lower first.
pub no_other : (m : Model) (x : Finding) → Memᴰ x (full_of m) → (fields_of x).kind ≡ 3 → PairIn (length (cells_of m)) x
no_other m x k = only (rules_of m) m.flags (cells_of m) x (rw (full_of_lem m) at k)

-- Without the topology check there is none.
pub none_unasked : (m : Model) (x : Finding) → contains m.flags TOPOLOGY ≡ false → Memᴰ x (full_of m) → (fields_of x).kind ≢ 3
none_unasked m x t k = unasked (rules_of m) m.flags (cells_of m) x t (rw (full_of_lem m) at k)

-- ---- reordering

-- "Reordering moves each cell's kind and words, unchanged": the cells of the reordered model are the cells moved,
pub cells_moved : (σ : List ℕ) (m : Model) → cells_of (reordered σ m) ≡ moved σ (cells_of m)
cells_moved = reordered_cells

-- "and the check accepts it too" (document 01): for every accepted model, however its cells are reordered with kinds still ascending;
pub reordered_accepted : (m : Model) (σ : List ℕ) → model_refusal m ≡ 0 → Reordering m σ → model_refusal (reordered σ m) ≡ 0
reordered_accepted m σ e r = accepted (reordered σ m) (moved_accepts m σ (accepts m e) r)

-- it needs the same work,
pub reordered_work : (m : Model) (σ : List ℕ) → model_refusal m ≡ 0 → Reordering m σ → work_needed (reordered σ m) ≡ work_needed m
reordered_work m σ e r = same_work m σ (accepts m e) r

-- so with the same work lent it is refused alike.
pub reordered_refused : (m : Model) (σ work : List ℕ) → model_refusal m ≡ 0 → Reordering m σ → check_refusal (reordered σ m) work ≡ check_refusal m work
reordered_refused = same_check

-- The nodes that cells name are the same (order 1 of document 02),
pub reordered_used : (m : Model) (σ : List ℕ) → Perm σ (up_from 0 (length (cells_of m))) → used_nodes (cells_of (reordered σ m)) ≡ used_nodes (cells_of m)
reordered_used = same_used

-- so the rules stay, as coordinates and tolerance do.
pub reordered_rules : (m : Model) (σ : List ℕ) → Perm σ (up_from 0 (length (cells_of m))) → rules_of (reordered σ m) ≡ rules_of m
reordered_rules = same_rules

-- "however its cells are reordered [..], the full lists before and after have the same findings, each as often, [..] with cells renamed and pairs unordered, an overfull face read as its nodes with all its owners;
-- only places, face numbers and a partly shared pair's count and centre may differ": for any rules, flags and cells.
pub lists_reordered : (R : Rules) (flags : ℕ) (cs : List Raw) (σ : List ℕ) → Perm σ (up_from 0 (length cs))
    → Perm (map (compared R (λ i. get_or σ i 0)) (full R flags (numbered R.rings (moved σ cs)))) (map (compared R (λ i. i)) (full R flags (numbered R.rings cs)))
lists_reordered = reordering

-- The same of a model, under any flags, accepted or not.
pub findings_reordered : (m : Model) (σ : List ℕ) → Perm σ (up_from 0 (length (cells_of m)))
    → Perm (map (compared (rules_of m) (λ i. get_or σ i 0)) (full_of (reordered σ m))) (map (compared (rules_of m) (λ i. i)) (full_of m))
findings_reordered = same_findings

-- "and equal totals"
pub totals_reordered : (m : Model) (σ : List ℕ) → Perm σ (up_from 0 (length (cells_of m))) → length (full_of (reordered σ m)) ≡ length (full_of m)
totals_reordered = same_total

-- ---- what a record tells, so that comparing loses nothing

-- "an overfull face read as its nodes with all its owners": a finding is read back from its record and the model's faces, so the key, the owners and the cells are those of the face whose number the record has;
pub record_read_back : (m : Model) (x : Finding) → Memᴰ x (full_of m) → x ≡ read_back (faces_in m) (fields_of x)
record_read_back m x k = read_back_lem (faces_in m) x (told_of m x k)

-- that face is the first with its key ("a: first face", document 01);
pub overfull_first : (m : Model) (x : Finding) → Memᴰ x (full_of m) → (fields_of x).kind ≡ 2
    → ((fields_of x).a < length (faces_in m)) × (any (same_key (face_at (faces_in m) (fields_of x).a)) (take (fields_of x).a (faces_in m)) ≡ false)
overfull_first m x k = first_told (faces_in m) x (told_of m x k)

-- all its numbers fit 32 bits,
pub record_fits : (m : Model) (x : Finding) → model_refusal m ≡ 0 → Memᴰ x (full_of m) → Below 4294967296 (fields_of x)
record_fits = below_of

-- and two findings of one full list with the same record bytes are the same finding.
pub record_settles : (m : Model) (x y : Finding) → model_refusal m ≡ 0 → Memᴰ x (full_of m) → Memᴰ y (full_of m) → record_of (rules_of m) x ≡ record_of (rules_of m) y → x ≡ y
record_settles = settled

-- Comparing conflates nothing: two findings of one full list that compare alike are the same finding, so "each as often" counts findings.
pub compared_settles : (m : Model) (x y : Finding) → Memᴰ x (full_of m) → Memᴰ y (full_of m) → compared (rules_of m) (λ i. i) x ≡ compared (rules_of m) (λ i. i) y → x ≡ y
compared_settles = same_form

-- ---- the kept list

-- "The full list is the one behind the check's own output: its total is that list's length,
pub total_is_lem : (m : Model) (lent : ℕ) → (totals_of m lent).total ≡ length (full_of m)
unfolding totals_of
total_is_lem m lent = refl

-- its records the first k" (document 01), k the least of cap, total and whole records lent.
pub kept_is_lem : (m : Model) (lent : ℕ) → (totals_of m lent).kept ≡ min m.cap (min (length (full_of m)) (lent / 64))
unfolding totals_of kept_of
kept_is_lem m lent = refl

-- The bytes kept are these records.
pub records_are : (m : Model) (k : ℕ) → kept_bytes (rules_of m) k (full_of m) ≡ each (record_of (rules_of m)) (take k (full_of m))
unfolding kept_bytes
records_are m k = refl

-- A record has 64 bytes,
pub record_length : (R : Rules) (x : Finding) → length (record_of R x) ≡ 64
record_length = record_64

-- so those kept fit the bytes lent,
pub kept_within : (m : Model) (lent : ℕ) → (length (kept_bytes (rules_of m) (totals_of m lent).kept (full_of m)) ≡ 64 * (totals_of m lent).kept) × (64 * (totals_of m lent).kept ≤ lent)
kept_within m lent = (kept_64 m lent, kept_fits m lent)

-- which stay as many.
pub lent_stays : (m : Model) (findings findings' work work' : List ℕ) (r : Answer Totals) → Checking m findings findings' work work' r → length findings' ≡ length findings
lent_stays = lent_length

-- So a check that keeps its promise and answers with a report of t, k kept, says this.
pub report_says : (m : Model) (findings findings' work work' : List ℕ) (t : Totals) → Checking m findings findings' work work' (done t) → Reported m findings findings' t.total t.kept
report_says = report_is

-- Where k is t, every finding's record is there.
pub report_whole : (m : Model) (findings findings' work work' : List ℕ) (t : Totals) → Checking m findings findings' work work' (done t) → t.kept ≡ t.total
    → findings' ≡ each (record_of (rules_of m)) (full_of m) ++ drop (length (each (record_of (rules_of m)) (full_of m))) findings
report_whole = all_kept

-- "all else of the model and the lent lengths stay": an accepted model and its reordering get the same answer, total and kept.
pub answers_reordered : (m : Model) (σ f f' w w' g g' v v' : List ℕ) (r s : Answer Totals) → model_refusal m ≡ 0 → Reordering m σ → length f ≡ length g → length w ≡ length v
    → Checking m f f' w w' r → Checking (reordered σ m) g g' v v' s → s ≡ r
answers_reordered = same_answer

-- A report of nothing, with the topology check on, says that no two different cells share partly: no hold reads as conforming with a pair passed over.
pub nothing_passed_over : (m : Model) (f f' w w' : List ℕ) (t : Totals) → Checking m f f' w w' (done t) → t.total ≡ 0 → contains m.flags TOPOLOGY ≡ true
    → (i j : ℕ) → i ≢ j → i < length (cells_of m) → j < length (cells_of m) → PartlyShared (rules_of m) (get_or (cells_of m) i none) (get_or (cells_of m) j none) → ⊥
nothing_passed_over = none_shared
