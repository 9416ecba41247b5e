-- The table of seeking, row by row, and its promise; both ways.
use Prim.Native.Nat.{ℕ, ◌≤◌, ◌<◌}
use mathlib.Core.Path.{◌≡◌, sym, ap, ◌∙◌}
use mathlib.Core.Logic.{◌≢◌}
use mathlib.Core.Bool.{Bool, true, false}
use mathlib.Core.List.{List, [], ◌∷◌, ◌++◌, append_assoc}
use native.Mathlib.Omega.{arith}
use borrow.Author.Tests.{lt-ltb, le-ltb, le-leb, lt-leb, ne_eqb}
use lib.Dec.{ltb}
use lib.ListN.{length, take, drop, replicate, length-take}
use lib.Seq.{sets}
use Rattle.std.specs.Prelude.{Result, Ok, Err}
use Rattle.laws.specs.Refusals.{done, refusal}
use Rattle.laws.proofs.Stores.{sets_front}
use Rattle.laws.proofs.Tables.{clear_append, refusal_first}
use Rattle.refusals.specs.declared.Refusal.{Refusal}
use Rattle.refusals.specs.Told.{number, told_by}
use Rattle.refusals.proofs.Told.{number-positive, ok_told, err_told}
use Rattle.mesh.specs.Model.{Model}
use Rattle.mesh.specs.Acceptance.{model_table, model_refusal, faces_in, work_needed}
use Rattle.mesh.specs.Lookup.{face_off}
use Rattle.mesh.proofs.Accepts.{accepted_clear}
use Rattle.seek.specs.declared.Tally.{Tally}
use Rattle.seek.specs.Ways.{tally_of}
use Rattle.seek.specs.Candidates.{Tallied}
use Rattle.seek.proofs.Tallies.{tally_is}
use Rattle.candidates.specs.declared.SoughtFace.{SoughtFace}
use Rattle.candidates.specs.Seeking.{candidates_of, seek_refusal, Seeking}

module _ (m : Model) (f : ℕ) (work : List ℕ) where
  -- 11, then 12
  abbrev row11 : List (ℕ × Bool)
  row11 = (11, ltb (length work) (work_needed m)) ∷ []

  abbrev row12 : List (ℕ × Bool)
  row12 = (12, face_off m f) ∷ []

  pub row_model : model_refusal m ≢ 0 → seek_refusal m f work ≡ model_refusal m
  unfolding model_refusal seek_refusal
  row_model z = ap refusal (append_assoc (model_table m) row11 row12) ∙ refusal_first (model_table m) (row11 ++ row12) z

  behind : model_refusal m ≡ 0 → seek_refusal m f work ≡ refusal (row11 ++ row12)
  unfolding seek_refusal
  behind ok = ap refusal (append_assoc (model_table m) row11 row12) ∙ clear_append (model_table m) (row11 ++ row12) (accepted_clear m ok)

  pub row_work : model_refusal m ≡ 0 → length work < work_needed m → seek_refusal m f work ≡ 11
  row_work ok h = behind ok ∙ rw (lt-ltb (length work) (work_needed m) h)

  pub row_face : model_refusal m ≡ 0 → work_needed m ≤ length work → length (faces_in m) ≤ f → seek_refusal m f work ≡ 12
  row_face ok h k = behind ok ∙ rw (le-ltb (length work) (work_needed m) h, le-leb (length (faces_in m)) f k)

  pub row_none : model_refusal m ≡ 0 → work_needed m ≤ length work → f < length (faces_in m) → seek_refusal m f work ≡ 0
  row_none ok h k = behind ok ∙ rw (le-ltb (length work) (work_needed m) h, lt-leb (length (faces_in m)) f k)

  -- a refusal changes nothing
  pub refused_so : (by : Bool) (found : List ℕ) (e : Refusal) → number e ≡ seek_refusal m f work → Seeking by m f found found work work (Err e)
  refused_so by found e is =
      let q = ne_eqb (seek_refusal m f work) 0 (λ z. omega (arith, z, is, number-positive e)) in
      record {
        answered = err_told (λ (s : SoughtFace). s.count) e (seek_refusal m f work) (length (candidates_of m f)) is;
        found_is = rw q;
        work_is = rw q;
        sought = err_told (λ (s : SoughtFace). s.tally) e (seek_refusal m f work) (tally_of by 1) is;
      }

  pub sought_so : (by : Bool) (found found' work' : List ℕ) (n : ℕ) (t : Tally) → seek_refusal m f work ≡ 0 → n ≡ length (candidates_of m f) → found' ≡ sets found 0 (take (length found) (candidates_of m f))
      → work' ≡ replicate (work_needed m) 0 ++ drop (length (replicate {A = ℕ} (work_needed m) 0)) work → Tallied by 1 t → Seeking by m f found found' work work' (Ok (record { count = n; tally = t }))
  sought_so by found found' work' n t ok e p q w =
      let fits : length (take (length found) (candidates_of m f)) ≤ length found = omega (arith, length-take (length found) (candidates_of m f)) in
      let s : SoughtFace = record { count = n; tally = t } in
      record {
        answered = ok_told (λ (s : SoughtFace). s.count) s (seek_refusal m f work) (length (candidates_of m f)) ok e;
        found_is = p ∙ sets_front found (take (length found) (candidates_of m f)) fits ∙ rw ok;
        work_is = q ∙ rw ok;
        sought = ok_told (λ (s : SoughtFace). s.tally) s (seek_refusal m f work) (tally_of by 1) ok (tally_is by 1 t w);
      }

-- ---- both ways

-- "alike whether pairs are sought by common nodes or by node triples": on the same model, face and lent memory either way gives the same answer and leaves the same
pub ways_alike : (m : Model) (f : ℕ) (found a b work v w : List ℕ) (r s : Result SoughtFace Refusal) → Seeking true m f found a work v r → Seeking false m f found b work w s
    → (told_by (λ x. x.count) r ≡ told_by (λ x. x.count) s) × (a ≡ b) × (v ≡ w)
ways_alike m f found a b work v w r s p q =
    (p.answered ∙ sym q.answered, p.found_is ∙ sym q.found_is, p.work_is ∙ sym q.work_is)

-- and where nothing refuses, what the code has found are the definition's candidates, as many as fit, and their number, by the one search that was asked for
pub candidates_sought : (by : Bool) (m : Model) (f : ℕ) (found found' work work' : List ℕ) (r : Result SoughtFace Refusal) → model_refusal m ≡ 0 → work_needed m ≤ length work → f < length (faces_in m) → Seeking by m f found found' work work' r
    → (told_by (λ x. x.count) r ≡ done (length (candidates_of m f))) × (found' ≡ take (length found) (candidates_of m f) ++ drop (length (take (length found) (candidates_of m f))) found) × (told_by (λ x. x.tally) r ≡ done (tally_of by 1))
candidates_sought by m f found found' work work' r ok h k p = let e = row_none m f work ok h k in (
  p.answered ∙ rw e,
  p.found_is ∙ rw e,
  p.sought ∙ rw e,
)
