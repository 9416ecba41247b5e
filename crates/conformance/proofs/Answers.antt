-- The table of the check, row by row, and its promise.
use Prim.Native.Nat.{ℕ, ◌*◌, ◌/◌, ◌≤◌, ◌<◌, min}
use mathlib.Core.Path.{◌≡◌, sym, ap, ap₂, ◌∙◌}
use mathlib.Core.Logic.{◌≢◌}
use mathlib.Core.Bool.{Bool}
use mathlib.Core.List.{List, [], ◌∷◌, ◌++◌, append_assoc}
use native.Mathlib.Omega.{arith}
use borrow.Author.Tests.{lt-ltb, le-ltb, ne_eqb}
use lib.Dec.{ltb}
use lib.ListN.{length, take, drop, replicate, length-take}
use Rattle.std.proofs.lemmas.List.{take-append-drop}
use lib.Seq.{sets, length-take-le, drop-append-le}
use Rattle.laws.specs.Lists.{each}
use Rattle.laws.specs.Refusals.{refused, done, refusal}
use Rattle.laws.proofs.Stores.{sets_front, take_least}
use Rattle.laws.proofs.Tables.{clear_append, refusal_first}
use Rattle.mesh.specs.Model.{Model}
use Rattle.mesh.specs.Acceptance.{model_table, model_refusal, work_needed}
use Rattle.mesh.proofs.Accepts.{accepted_clear}
use Rattle.findings.specs.Findings.{Finding}
use Rattle.findings.specs.Rules.{rules_of, full_of}
use Rattle.findings.specs.Records.{record_of, kept_of, kept_bytes}
use Rattle.findings.specs.declared.Totals.{Totals}
use Rattle.findings.specs.Check.{totals_of, check_refusal, Checking}
use Rattle.findings.proofs.Kept.{records_64, kept_64, kept_fits}
use Rattle.full_list.specs.Found.{FoundIn}

-- ---- the rows

module _ (m : Model) (work : List ℕ) where
  abbrev row11 : List (ℕ × Bool)
  row11 = (11, ltb (length work) (work_needed m)) ∷ []

  pub row_model : model_refusal m ≢ 0 → check_refusal m work ≡ model_refusal m
  unfolding model_refusal
  row_model z = refusal_first (model_table m) row11 z

  behind : model_refusal m ≡ 0 → check_refusal m work ≡ refusal row11
  behind ok = clear_append (model_table m) row11 (accepted_clear m ok)

  pub row_work : model_refusal m ≡ 0 → length work < work_needed m → check_refusal m work ≡ 11
  row_work ok h = behind ok ∙ rw (lt-ltb (length work) (work_needed m) h)

  pub row_none : model_refusal m ≡ 0 → work_needed m ≤ length work → check_refusal m work ≡ 0
  row_none ok h = behind ok ∙ rw (le-ltb (length work) (work_needed m) h)

  -- a refusal changes nothing
  pub refused_so : (findings : List ℕ) (n : ℕ) → check_refusal m work ≡ n → n ≢ 0 → Checking m findings findings work work (refused n)
  refused_so findings n e z =
      let q = ne_eqb n 0 z in
      record { answered = rw (e, q); memory = record { findings_are = rw (e, q); work_is = rw (e, q) } }

-- ---- what is kept

-- what is written into the front of a list's front
front_of_front : (f xs : List ℕ) (k : ℕ) → k ≤ length f → length xs ≤ k → sets (take k f) 0 xs ++ drop k f ≡ sets f 0 xs
front_of_front f xs k h e =
    let long : length (take k f) ≡ k = length-take-le k f h in
    let all : take k f ++ drop k f ≡ f = take-append-drop k f in
    let rest : drop (length xs) (take k f) ++ drop k f ≡ drop (length xs) f =
    sym (drop-append-le (length xs) (take k f) (drop k f) (omega (arith, long, e))) ∙ ap (drop (length xs)) all in
    ap (λ (l : List ℕ). l ++ drop k f) (sets_front (take k f) xs (omega (arith, long, e)))
    ∙ append_assoc xs (drop (length xs) (take k f)) (drop k f) ∙ ap (λ (l : List ℕ). xs ++ l) rest ∙ sym (sets_front f xs (omega (arith, h, e)))

-- the records of the first `room` findings, written into that much of the lent bytes
lent_room : (m : Model) (findings part : List ℕ) (room k : ℕ) → 64 * room ≤ length findings → FoundIn m (take (64 * room) findings) part k
    → part ++ drop (64 * room) findings ≡ sets findings 0 (each (record_of (rules_of m)) (take room (full_of m)))
lent_room m findings part room k h p =
    let n : length (take (64 * room) findings) ≡ 64 * room = length-take-le (64 * room) findings h in
    let fits : length (take (64 * room) findings) / 64 ≡ room = omega (arith, n) in
    let few : length (each (record_of (rules_of m)) (take room (full_of m))) ≤ 64 * room =
    omega (arith, records_64 (rules_of m) (take room (full_of m)), length-take room (full_of m)) in
    ap (λ (l : List ℕ). l ++ drop (64 * room) findings)
    (p.bytes ∙ ap (λ (i : ℕ). sets (take (64 * room) findings) 0 (each (record_of (rules_of m)) (take i (full_of m)))) fits)
    ∙ front_of_front findings (each (record_of (rules_of m)) (take room (full_of m))) (64 * room) h few

module _ (m : Model) (findings part work : List ℕ) (room total kept : ℕ) (ok : check_refusal m work ≡ 0)
    (room_is : room ≡ min m.cap (length findings / 64)) (found : FoundIn m (take (64 * room) findings) part total) (kept_is_lem : kept ≡ min room total) where
  total_is_lem : total ≡ length (full_of m)
  total_is_lem = omega (arith, found.count)

  -- the number kept is the definition's
  count_is_lem : kept ≡ (totals_of m (length findings)).kept
  unfolding totals_of kept_of
  count_is_lem = omega (arith, room_is, kept_is_lem, total_is_lem)

  totals_are : ◌≡◌ {A = Totals} (record { total = total; kept = kept }) (totals_of m (length findings))
  unfolding totals_of
  totals_are = ap₂ (λ (x y : ℕ). record { total = x; kept = y }) total_is_lem count_is_lem

  -- the records kept are the definition's
  bytes_are : part ++ drop (64 * room) findings
      ≡ kept_bytes (rules_of m) (totals_of m (length findings)).kept (full_of m) ++ drop (length (kept_bytes (rules_of m) (totals_of m (length findings)).kept (full_of m))) findings
  unfolding kept_bytes
  bytes_are =
      let k : min room (length (full_of m)) ≡ (totals_of m (length findings)).kept = omega (arith, count_is_lem, kept_is_lem, total_is_lem) in
      let first : take room (full_of m) ≡ take (totals_of m (length findings)).kept (full_of m) = sym (take_least room (full_of m)) ∙ ap (λ (i : ℕ). take i (full_of m)) k in
      lent_room m findings part room total (omega (arith, room_is)) found
      ∙ ap (λ (l : List Finding). sets findings 0 (each (record_of (rules_of m)) l)) first
      ∙ sets_front findings (each (record_of (rules_of m)) (take (totals_of m (length findings)).kept (full_of m))) (omega (arith, kept_64 m (length findings), kept_fits m (length findings)))

  -- so a report is as promised
  pub checked_so : (work' : List ℕ) → work' ≡ replicate (work_needed m) 0 ++ drop (length (replicate {A = ℕ} (work_needed m) 0)) work → Checking m findings (part ++ drop (64 * room) findings) work work' (done (record { total = total; kept = kept }))
  checked_so work' e = record { answered = rw (ok, totals_are); memory = record { findings_are = bytes_are ∙ rw ok; work_is = e ∙ rw ok } }
