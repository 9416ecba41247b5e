-- Welding's table, row by row, and its promise.
use Prim.Native.Nat.{ℕ, ◌+◌, ◌≤◌, ◌<◌}
use mathlib.Core.Path.{◌≡◌, refl, sym, ap₂, ◌∙◌}
use mathlib.Core.Logic.{◌≢◌}
use mathlib.Core.Bool.{Bool, ◌||◌}
use mathlib.Core.List.{List, [], ◌∷◌, ◌++◌}
use native.Mathlib.Omega.{arith}
use borrow.Author.Tests.{lt-ltb, le-ltb, ne_eqb}
use lib.Dec.{ltb}
use lib.ListN.{length, drop, replicate, length-replicate}
use lib.Seq.{sets}
use Rattle.laws.specs.Merging.{region}
use Rattle.std.specs.Prelude.{Ok, Err}
use Rattle.laws.specs.Refusals.{refusal}
use Rattle.refusals.specs.declared.Refusal.{Refusal}
use Rattle.refusals.specs.Told.{number}
use Rattle.refusals.proofs.Told.{number-positive, ok_told, err_told}
use Rattle.laws.proofs.Stores.{sets_front, cleared}
use Rattle.laws.proofs.Tables.{refusal_first, refusal_second}
use Rattle.geometry.specs.Coordinates.{node_count}
use Rattle.mesh.specs.Model.{Model, model_of, cells_of}
use Rattle.mesh.specs.Acceptance.{shape_off, mesh_table}
use Rattle.mesh.proofs.ModelTable.{numbers_mesh}
use Rattle.mesh.proofs.Accepts.{Accepts, accepts}
use Rattle.mesh.proofs.ModelTable.{no_row}
use Rattle.snap.specs.Steps.{But}
use Rattle.welding.specs.Used.{welds_of}
use Rattle.welding.specs.Welding.{scratch_needed, weld_table, weld_refusal, Welding}
use Rattle.welding.specs.Steps.{welded_over}
use Rattle.welding.proofs.Used.{welds_words, length_welds}

-- ---- the rows

module _ (m : Model) (map scratch : ℕ) where
  -- the last row
  abbrev row4 : List (ℕ × Bool)
  row4 = (4, ltb map (node_count m.coords) || ltb scratch (scratch_needed m)) ∷ []

  -- a mesh that is refused
  pub row_mesh : refusal (mesh_table m) ≢ 0 → refusal (weld_table m map scratch) ≡ refusal (mesh_table m)
  row_mesh z = refusal_first (mesh_table m) row4 z

  behind : refusal (mesh_table m) ≡ 0 → refusal (weld_table m map scratch) ≡ refusal row4
  behind ok = refusal_second (mesh_table m) row4 (numbers_mesh m) ok

  pub row_map : refusal (mesh_table m) ≡ 0 → map < node_count m.coords → refusal (weld_table m map scratch) ≡ 4
  row_map ok h = behind ok ∙ rw (lt-ltb map (node_count m.coords) h)

  pub row_scratch : refusal (mesh_table m) ≡ 0 → node_count m.coords ≤ map → scratch < scratch_needed m → refusal (weld_table m map scratch) ≡ 4
  row_scratch ok h k = behind ok ∙ rw (le-ltb map (node_count m.coords) h, lt-ltb scratch (scratch_needed m) k)

  pub row_none : refusal (mesh_table m) ≡ 0 → node_count m.coords ≤ map → scratch_needed m ≤ scratch → refusal (weld_table m map scratch) ≡ 0
  row_none ok h k = behind ok ∙ rw (le-ltb map (node_count m.coords) h, le-ltb scratch (scratch_needed m) k)

-- ---- a mesh is welded whatever the flags

-- the model with flags that pass
abbrev pub unflagged : Model → Model
unflagged m = model_of m.coords m.kinds m.ends m.words m.tolerance 0 0

pub accepts_mesh : (m : Model) → refusal (mesh_table m) ≡ 0 → Accepts (unflagged m)
unfolding shape_off cells_of
accepts_mesh m z = accepts (unflagged m) (no_row (unflagged m) z (omega arith))

pub welds_mesh : (m : Model) → refusal (mesh_table m) ≡ 0 → welded_over m.coords m.tolerance m.words ≡ welds_of m
unfolding cells_of
welds_mesh m z = welds_words (unflagged m) (accepts_mesh m z)

-- ---- the promise

module _ (m : Model) (map scratch : List ℕ) where
  -- refused: nothing changes
  pub refusing : (e : Refusal) → number e ≡ weld_refusal m map scratch → Welding m map map scratch scratch (Err e)
  refusing e is =
      let q = ne_eqb (number e) 0 (λ z. omega (arith, number-positive e)) in
      record {
        answered = err_told {A = Unit {0}} {B = Unit {0}} (λ a. a) e _ tt is;
        memory = record { map_is = rw (sym is, q); scratch_is = rw (sym is, q) };
      }

  -- filled: w is the scratch once it is welded
  pub filling : (map' w scratch' : List ℕ) → refusal (mesh_table m) ≡ 0 → node_count m.coords ≤ length map → scratch_needed m ≤ length scratch → length w ≡ length scratch
      → (region (node_count m.coords + node_count m.coords) (node_count m.coords) w ≡ welded_over m.coords m.tolerance m.words) × But 0 (node_count m.coords + node_count m.coords + node_count m.coords) scratch w
      → map' ≡ region (node_count m.coords + node_count m.coords) (node_count m.coords) w ++ drop (node_count m.coords) map
      → scratch' ≡ sets w 0 (replicate (scratch_needed m) 0)
      → Welding m map map' scratch scratch' (Ok tt)
  filling map' w scratch' ok room words long b p q =
      let N = node_count m.coords in
      let e = row_none m (length map) (length scratch) ok room words in
      let welds : region (N + N) N w ≡ welds_of m = b.0 ∙ welds_mesh m ok in
      record {
        answered = ok_told {A = Unit {0}} {B = Unit {0}} (λ a. a) tt _ tt e refl;
        memory = record {
          map_is = p ∙ ap₂ (λ (l : List ℕ) (k : ℕ). l ++ drop k map) welds (sym (length_welds m.coords m.tolerance (cells_of m))) ∙ rw e;
          scratch_is = q ∙ cleared scratch w (N + N + N) (scratch_needed m) b.1.1 (omega arith) words long
              ∙ sets_front scratch (replicate (scratch_needed m) 0) (omega (arith, length-replicate {A = ℕ} (scratch_needed m) 0, words)) ∙ rw e;
        };
      }
