-- The laws of the full list, said of models.
use Prim.Native.Nat.{ℕ, ◌<◌}
use mathlib.Core.Path.{◌≡◌, refl, sym, ap, ◌∙◌}
use mathlib.Core.Logic.{◌≢◌, ∥∥₁_elim, ⊎_elim}
use mathlib.Core.Bool.{true, false, cond, Bool-set}
use mathlib.Core.List.{List, [], ◌∷◌, map, Perm, Memᴰ}
use native.Mathlib.Nat.{ℕ_set}
use native.Mathlib.Omega.{arith}
use lib.Dec.{ltb, eqb}
use lib.ListN.{length, get_or, length-map}
use Rattle.laws.specs.Lists.{any, keep, up_from}
use Rattle.laws.specs.Refusals.{refusal}
use Rattle.std.proofs.lemmas.Bool.{cases_Bool}
use Rattle.laws.proofs.Permutations.{perm_each, perm_length}
use Rattle.geometry.specs.Coordinates.{node_count}
use Rattle.mesh.specs.Model.{Model, Raw, contains, TOPOLOGY, cells_of}
use Rattle.mesh.specs.Rings.{numbered}
use Rattle.mesh.specs.Acceptance.{node_off, model_refusal, faces_in}
use Rattle.snap.specs.Weld.{welded, welded_by}
use Rattle.welding.specs.Used.{used_nodes, welded_used, welds_of}
use Rattle.welding.proofs.Used.{used-same}
use Rattle.findings.specs.Findings.{Finding, full}
use Rattle.findings.specs.Rules.{repeats_of, rules_with, rules_of, cells_in, full_of}
use Rattle.findings.specs.Records.{fields_of, record_of}
use Rattle.findings.specs.Check.{check_refusal}
use Rattle.findings.specs.Compared.{none, shares, names_pair, moved, with_cells, reordered, compared}
use Rattle.findings.specs.Demand3.{PartlyShared, Reordering, Below}
use Rattle.findings.proofs.Laws.{Every, every_imp, any_perm}
use Rattle.findings.proofs.Reorder.{reordering}
use Rattle.findings.proofs.Exact.{exact}
use Rattle.findings.proofs.Means.{shares_means}
use Rattle.findings.proofs.Told.{Told, told}
use Rattle.mesh.proofs.Accepts.{accepts}
use Rattle.mesh.proofs.CellWords.{few_nodes}
use Rattle.findings.proofs.Moved.{moved_perm, reordered_cells, same_work, check_refusal_lem, moved_accepts}
use Rattle.findings.proofs.Small.{Low, faces_few, cells_few, rings_short, repeats_low, cells_nodes}
use Rattle.findings.proofs.Fits.{below}
use Rattle.findings.proofs.Same.{same_record}
use Rattle.findings.proofs.Conflated.{same_compared}

-- the full list of a model
pub full_of_lem : (m : Model) → full_of m ≡ full (rules_of m) m.flags (numbered (rules_of m).rings (cells_of m))
unfolding full_of cells_in rules_of rules_with
full_of_lem m = refl

-- ---- a pair

module _ (m : Model) (i j : ℕ) (asked : contains m.flags TOPOLOGY ≡ true) (differ : i ≢ j) (hi : i < length (cells_of m)) (hj : j < length (cells_of m)) where
  -- the one cell
  abbrev a : Raw
  a = get_or (cells_of m) i none

  -- the other
  abbrev b : Raw
  b = get_or (cells_of m) j none

  -- how often
  pub often : length (keep (names_pair i j) (full_of m)) ≡ cond (shares (rules_of m) a b) 1 0
  often = rw (full_of_lem m) (exact (rules_of m) m.flags (cells_of m) i j asked differ hi hj)

  -- once where the condition holds
  pub once : PartlyShared (rules_of m) a b → length (keep (names_pair i j) (full_of m)) ≡ 1
  once h = often ∙ rw ((shares_means (rules_of m) a b).1 h)

  -- not at all where it does not
  pub never : (PartlyShared (rules_of m) a b → ⊥) → length (keep (names_pair i j) (full_of m)) ≡ 0
  never h = often ∙ ⊎_elim (λ e. absurd (h ((shares_means (rules_of m) a b).0 e))) (λ e. rw e) (cases_Bool (shares (rules_of m) a b))

  -- and where it is there, the condition holds
  pub there : length (keep (names_pair i j) (full_of m)) ≢ 0 → PartlyShared (rules_of m) a b
  there h = (shares_means (rules_of m) a b).0 (⊎_elim (λ e. e) (λ e. absurd (h (often ∙ rw e))) (cases_Bool (shares (rules_of m) a b)))

-- ---- reordering

-- the nodes used do not see the order of the cells
pub same_used : (m : Model) (σ : List ℕ) → Perm σ (up_from 0 (length (cells_of m))) → used_nodes (cells_of (reordered σ m)) ≡ used_nodes (cells_of m)
same_used m σ p =
    ap used_nodes (reordered_cells σ m)
    ∙ used-same (moved σ (cells_of m)) (cells_of m)
    (λ a. ∥∥₁_elim p (Bool-set _ _) (λ d. any_perm (eqb a) (perm_each (λ c. c.words) (moved_perm σ (cells_of m) d))))

-- so neither do the rules, which see coordinates, tolerance and the welded map alone
pub same_rules : (m : Model) (σ : List ℕ) → Perm σ (up_from 0 (length (cells_of m))) → rules_of (reordered σ m) ≡ rules_of m
unfolding rules_of welded_used reordered with_cells
same_rules m σ p =
    ap (λ (l : List ℕ). rules_with m.coords m.tolerance (welded m.coords m.tolerance (node_count m.coords) l)) (same_used m σ p)

-- the findings before and after
pub same_findings : (m : Model) (σ : List ℕ) → Perm σ (up_from 0 (length (cells_of m)))
    → Perm (map (compared (rules_of m) (λ i. get_or σ i 0)) (full_of (reordered σ m))) (map (compared (rules_of m) (λ i. i)) (full_of m))
same_findings m σ p = rw (full_of_lem (reordered σ m), full_of_lem m, same_rules m σ p, reordered_cells σ m, flags) (reordering (rules_of m) m.flags (cells_of m) σ p)
  where
    flags : (reordered σ m).flags ≡ m.flags
    flags = unfold reordered with_cells in refl

-- the totals before and after
pub same_total : (m : Model) (σ : List ℕ) → Perm σ (up_from 0 (length (cells_of m))) → length (full_of (reordered σ m)) ≡ length (full_of m)
same_total m σ p =
    ∥∥₁_elim (same_findings m σ p) (ℕ_set _ _)
    (λ d. sym (length-map (full_of (reordered σ m)) (compared (rules_of m) (λ i. get_or σ i 0))) ∙ perm_length d ∙ length-map (full_of m) (compared (rules_of m) (λ i. i)))

-- an accepted model and its reordering are refused alike by the check
pub same_check : (m : Model) (σ work : List ℕ) → model_refusal m ≡ 0 → Reordering m σ → check_refusal (reordered σ m) work ≡ check_refusal m work
same_check m σ work e r =
    let h = accepts m e in
    check_refusal_lem (reordered σ m) _ (moved_accepts m σ h r) ∙ ap (λ (n : ℕ). refusal ((11, ltb (length work) n) ∷ [])) (same_work m σ h r)
    ∙ sym (check_refusal_lem m _ h)

-- ---- records

-- what a finding's record tells
pub told_of : (m : Model) (x : Finding) → Memᴰ x (full_of m) → Told (faces_in m) x
unfolding faces_in rules_of rules_with full_of cells_in
told_of m x k = told (rules_of m) m.flags (cells_of m) x k

-- all its numbers are below 2^32
pub below_of : (m : Model) (x : Finding) → model_refusal m ≡ 0 → Memᴰ x (full_of m) → Below 4294967296 (fields_of x)
unfolding faces_in rules_of rules_with full_of cells_in
below_of m x e k =
    let h = accepts m e in
    let n = node_count m.coords in
    let weld = welded_by (welds_of m) in
    let few : n < 4294967296 = omega (arith, few_nodes m h) in
    let low : Every (λ (c : Raw). Every (Low 4294967296) (repeats_of weld c.words)) (cells_of m) =
    every_imp (λ (c : Raw). any (node_off n c.kind) c.words ≡ false) (λ (c : Raw). Every (Low 4294967296) (repeats_of weld c.words))
    (λ c u. every_imp (Low n) (Low 4294967296) (λ p v. omega arith) (repeats_of weld c.words) (repeats_low n c.kind weld c.words u)) (cells_of m) (cells_nodes n (cells_of m) h.right) in
    below (rules_of m) (cells_of m) 4294967296 m.flags x (omega arith) (omega (arith, cells_few m h)) (faces_few m h) (rings_short m h) low k

-- and its record settles it
pub settled : (m : Model) (x y : Finding) → model_refusal m ≡ 0 → Memᴰ x (full_of m) → Memᴰ y (full_of m) → record_of (rules_of m) x ≡ record_of (rules_of m) y → x ≡ y
settled m x y e k l q = same_record (rules_of m) (faces_in m) x y (told_of m x k) (told_of m y l) (below_of m x e k) (below_of m y e l) q

-- and so does what is compared of it
pub same_form : (m : Model) (x y : Finding) → Memᴰ x (full_of m) → Memᴰ y (full_of m) → compared (rules_of m) (λ i. i) x ≡ compared (rules_of m) (λ i. i) y → x ≡ y
same_form m x y k l = same_compared (rules_of m) m.flags (cells_of m) x y (rw (full_of_lem m) at k) (rw (full_of_lem m) at l)
