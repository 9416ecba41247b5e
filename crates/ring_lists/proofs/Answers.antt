-- The table of filling ring lists, row by row, and its promise.
use Prim.Native.Nat.{ℕ, ◌≤◌, ◌<◌}
use mathlib.Core.Path.{◌≡◌, sym, ap, ◌∙◌}
use mathlib.Core.Logic.{◌≢◌}
use mathlib.Core.Bool.{Bool, ◌||◌}
use mathlib.Core.List.{List, [], ◌∷◌, ◌++◌, append_assoc}
use native.Mathlib.Omega.{arith}
use borrow.Author.Tests.{lt-ltb, le-ltb, ne_eqb}
use lib.Dec.{ltb}
use lib.ListN.{length, replicate, length-replicate, length-map}
use Rattle.std.specs.Prelude.{Ok, Err}
use Rattle.laws.specs.Refusals.{refusal}
use Rattle.refusals.specs.declared.Refusal.{Refusal}
use Rattle.refusals.specs.Told.{number}
use Rattle.refusals.proofs.Told.{number-positive, ok_told, err_told}
use Rattle.laws.proofs.Stores.{sets_front}
use Rattle.laws.proofs.Tables.{clear_append, refusal_first}
use Rattle.mesh.specs.Model.{Model}
use Rattle.mesh.specs.Acceptance.{model_table, model_refusal, work_needed}
use Rattle.mesh.specs.Steps.{Tallied}
use Rattle.mesh.proofs.Accepts.{accepted_clear}
use Rattle.snap.specs.Weld.{welded_by}
use Rattle.welding.specs.Used.{welds_of}
use Rattle.ring_lists.specs.Filling.{raw_rings, welded_rings, fill_refusal, Filling}
use Rattle.ring_lists.specs.Steps.{Stored}

-- ---- the rows

module _ (m : Model) (raw welded work : List ℕ) where
  -- 11, then 4
  abbrev row11 : List (ℕ × Bool)
  row11 = (11, ltb (length work) (work_needed m)) ∷ []

  abbrev row4 : List (ℕ × Bool)
  row4 = (4, ltb (length raw) (length (raw_rings m)) || ltb (length welded) (length (raw_rings m))) ∷ []

  -- a model that is refused
  pub row_model : model_refusal m ≢ 0 → fill_refusal m raw welded work ≡ model_refusal m
  unfolding model_refusal
  row_model z =
      ap refusal (append_assoc (model_table m) row11 row4) ∙ refusal_first (model_table m) (row11 ++ row4) z

  behind : model_refusal m ≡ 0 → fill_refusal m raw welded work ≡ refusal (row11 ++ row4)
  behind ok = ap refusal (append_assoc (model_table m) row11 row4) ∙ clear_append (model_table m) (row11 ++ row4) (accepted_clear m ok)

  pub row_work : model_refusal m ≡ 0 → length work < work_needed m → fill_refusal m raw welded work ≡ 11
  row_work ok h = behind ok ∙ rw (lt-ltb (length work) (work_needed m) h)

  pub row_raw : model_refusal m ≡ 0 → work_needed m ≤ length work → length raw < length (raw_rings m) → fill_refusal m raw welded work ≡ 4
  row_raw ok h a = behind ok ∙ rw (le-ltb (length work) (work_needed m) h, lt-ltb (length raw) (length (raw_rings m)) a)

  pub row_welded : model_refusal m ≡ 0 → work_needed m ≤ length work → length (raw_rings m) ≤ length raw → length welded < length (raw_rings m) → fill_refusal m raw welded work ≡ 4
  row_welded ok h a b =
      behind ok ∙ rw (le-ltb (length work) (work_needed m) h, le-ltb (length raw) (length (raw_rings m)) a, lt-ltb (length welded) (length (raw_rings m)) b)

  pub row_none : model_refusal m ≡ 0 → work_needed m ≤ length work → length (raw_rings m) ≤ length raw → length (raw_rings m) ≤ length welded → fill_refusal m raw welded work ≡ 0
  row_none ok h a b =
      behind ok ∙ rw (le-ltb (length work) (work_needed m) h, le-ltb (length raw) (length (raw_rings m)) a, le-ltb (length welded) (length (raw_rings m)) b)

  -- ---- the promise

  pub refused_so : (e : Refusal) → number e ≡ fill_refusal m raw welded work → Filling m raw raw welded welded work work (Err e)
  refused_so e is =
      let q = ne_eqb (number e) 0 (λ z. omega (arith, number-positive e)) in
      record {
        answered = err_told {A = ℕ} (λ n. n) e _ _ is;
        memory = record { raw_is = rw (sym is, q); welded_is = rw (sym is, q); work_is = rw (sym is, q) };
      }

  pub filled_so : (raw' welded' work' : List ℕ) (r : ℕ) → fill_refusal m raw welded work ≡ 0 → work_needed m ≤ length work → length (raw_rings m) ≤ length raw → length (raw_rings m) ≤ length welded
      → r ≡ length (raw_rings m) → Stored m raw raw' welded welded' work work' → Filling m raw raw' welded welded' work work' (Ok r)
  unfolding welded_rings
  filled_so raw' welded' work' r e a b c k s =
      record {
        answered = ok_told {A = ℕ} (λ n. n) r _ _ e k;
        memory = record {
          raw_is = s.raw_is ∙ sets_front raw (raw_rings m) b ∙ rw e;
          welded_is = s.welded_is ∙ sets_front welded (welded_rings m) (omega (arith, length-map (raw_rings m) (welded_by (welds_of m)))) ∙ rw e;
          work_is = s.work_is ∙ sets_front work (replicate (work_needed m) 0) (omega (arith, length-replicate {A = ℕ} (work_needed m) 0)) ∙ rw e;
        };
      }

-- ---- the words, from the counts

pub words_are : (m : Model) (f r : ℕ) → Tallied m f r → r ≡ length (raw_rings m)
unfolding raw_rings
words_are m f r t = t.words
