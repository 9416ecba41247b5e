-- A reordered model: its cells, that it is accepted, and the work that it needs.
use Prim.Native.Nat.{ℕ, suc, ◌+◌, ◌-◌}
use mathlib.Core.Path.{◌≡◌, refl, sym, ap, ap₂, ◌∙◌}
use mathlib.Core.Logic.{∥∥₁_elim}
use mathlib.Core.Bool.{Bool, false, Bool-set}
use mathlib.Core.List.{List, [], ◌∷◌, ◌++◌, map, append_assoc, Permᴰ}
use native.Mathlib.Nat.{ℕ_set}
use native.Mathlib.Omega.{arith}
use borrow.Author.Tests.{le-ltb, eq-eqb}
use lib.Dec.{ltb, eqb}
use lib.ListN.{length, get_or, length-map, length-append}
use lib.Seq.{get_or-append_seam, take-append_seam, drop-append_seam}
use Rattle.laws.specs.Lists.{any, each, up_from}
use Rattle.laws.specs.Refusals.{refusal}
use Rattle.laws.proofs.Permutations.{perm_eq, perm_each, perm_map, perm_length}
use Rattle.geometry.specs.Coordinates.{node_count}
use Rattle.mesh.specs.Model.{Model, Raw, ascending, cells_from, cells_of}
use Rattle.mesh.specs.Rings.{rings_of, ring_words}
use Rattle.mesh.specs.Acceptance.{ends_off, faces_in, work_needed, model_table}
use Rattle.findings.specs.Compared.{none, moved, ends_from, with_cells, reordered}
use Rattle.findings.specs.Demand3.{Reordering}
use Rattle.findings.proofs.Laws.{any_perm, length_snoc}
use Rattle.mesh.proofs.ModelTable.{face_count_lem, ring_words_lem}
use Rattle.mesh.proofs.Accepts.{accepted_clear, cell_wrong, Accepts, accepted}
use Rattle.mesh.proofs.CellWords.{cells_count, cells_words}
use Rattle.laws.proofs.Tables.{clear_append}

-- ---- cells, ends and words turn into one another

-- the cells read from cells written
round_cells : (at : ℕ) (cs : List Raw) → cells_from at (map (λ c. c.kind) cs) (ends_from at cs) (each (λ c. c.words) cs) ≡ cs
round_cells at [] = refl
round_cells at (c ∷ cs) =
    let n : at + length c.words - at ≡ length c.words = omega arith in
    rw (n, take-append_seam c.words (each (λ c. c.words) cs), drop-append_seam c.words (each (λ c. c.words) cs))
    (ap (λ (l : List Raw). c ∷ l) (round_cells (at + length c.words) cs))

-- there are as many ends as cells
count_ends : (at : ℕ) (cs : List Raw) → length (ends_from at cs) ≡ length cs
count_ends at [] = refl
count_ends at (c ∷ cs) = ap suc (count_ends (at + length c.words) cs)

-- ends counted anew are right
ends_right : (at : ℕ) (cs : List Raw) → ends_off at (ends_from at cs) (at + length (each (λ c. c.words) cs)) ≡ false
ends_right at [] = rw (eq-eqb at (at + 0) (omega arith))
ends_right at (c ∷ cs) =
    let n : at + length (c.words ++ each (λ c. c.words) cs) ≡ at + length c.words + length (each (λ c. c.words) cs) =
    omega (arith, length-append c.words (each (λ c. c.words) cs)) in
    rw (le-ltb (at + length c.words) at (omega arith), n) (ends_right (at + length c.words) cs)

-- ---- the cells moved

-- every cell at its place
all_here : (pre cs : List Raw) → map (λ i. get_or (pre ++ cs) i none) (up_from (length pre) (length cs)) ≡ cs
all_here pre [] = refl
all_here pre (c ∷ cs) =
    ap₂ (λ (v : Raw) (l : List Raw). v ∷ l) (get_or-append_seam pre c cs none)
    (rw (append_assoc pre (c ∷ []) cs, length_snoc pre c) at (all_here (pre ++ (c ∷ [])) cs))

-- moved cells are the cells in another order
pub moved_perm : (σ : List ℕ) (cs : List Raw) → Permᴰ σ (up_from 0 (length cs)) → Permᴰ (moved σ cs) cs
unfolding moved
moved_perm σ cs d = Permᴰ.trans (perm_map (λ i. get_or cs i none) d) (perm_eq (all_here [] cs))

-- a reordered model's cells
pub reordered_cells : (σ : List ℕ) (m : Model) → cells_of (reordered σ m) ≡ moved σ (cells_of m)
unfolding cells_of reordered with_cells
reordered_cells σ m = round_cells 0 (moved σ (cells_of m))

-- ---- it is accepted

module _ (m : Model) (σ : List ℕ) (h : Accepts m) (r : Reordering m σ) where
  -- a number that does not see the order of the cells
  same_number : (f : List Raw → ℕ) → ((l k : List Raw) → Permᴰ l k → f l ≡ f k) → f (moved σ (cells_of m)) ≡ f (cells_of m)
  same_number f e = ∥∥₁_elim r.permutes (ℕ_set _ _) (λ d. e (moved σ (cells_of m)) (cells_of m) (moved_perm σ (cells_of m) d))

  -- as many cells
  same_cells : length (moved σ (cells_of m)) ≡ length m.kinds
  same_cells = same_number length (λ l k d. perm_length d) ∙ cells_count m h

  -- as many kinds
  same_kinds : length (reordered σ m).kinds ≡ length m.kinds
  unfolding reordered with_cells
  same_kinds = length-map (moved σ (cells_of m)) (λ c. c.kind) ∙ same_cells

  -- as many words
  same_words_lem : length (reordered σ m).words ≡ length m.words
  unfolding reordered with_cells
  same_words_lem = same_number (λ l. length (each (λ c. c.words) l)) (λ l k d. perm_length (perm_each (λ c. c.words) d)) ∙ ap length (cells_words m h)

  -- no cell is wrong
  same_right : (n : ℕ) → any (cell_wrong n) (moved σ (cells_of m)) ≡ any (cell_wrong n) (cells_of m)
  same_right n = ∥∥₁_elim r.permutes (Bool-set _ _) (λ d. any_perm (cell_wrong n) (moved_perm σ (cells_of m) d))

  -- so the reordered model is what an accepted model is
  pub moved_accepts : Accepts (reordered σ m)
  unfolding reordered with_cells
  moved_accepts =
      record {
        coordinates = h.coordinates;
        cells = ap (ltb _) same_kinds ∙ h.cells;
        words = ap (ltb _) same_words_lem ∙ h.words;
        paired = length-map (moved σ (cells_of m)) (λ c. c.kind) ∙ sym (count_ends 0 (moved σ (cells_of m)));
        ends = ap (ends_off 0 (ends_from 0 (moved σ (cells_of m)))) (omega arith) ∙ ends_right 0 (moved σ (cells_of m));
        tolerance = h.tolerance;
        places = h.places;
        some = ap (λ (k : ℕ). eqb k 0) same_kinds ∙ h.some;
        ascends = ap (ascending 0) (reordered_cells σ m) ∙ r.ascends;
        right = ap (any (cell_wrong (node_count m.coords))) (reordered_cells σ m) ∙ same_right (node_count m.coords) ∙ h.right;
        flags = h.flags;
      }

-- ---- the work

-- a reordered model needs the same work
pub same_work : (m : Model) (σ : List ℕ) → Accepts m → Reordering m σ → work_needed (reordered σ m) ≡ work_needed m
unfolding work_needed
same_work m σ h r =
    let f : length (faces_in (reordered σ m)) ≡ length (faces_in m) =
    face_count_lem (reordered σ m) ∙ ap (λ (l : List Raw). length (each rings_of l)) (reordered_cells σ m)
    ∙ same_number m σ h r (λ l. length (each rings_of l)) (λ l k d. perm_length (perm_each rings_of d)) ∙ sym (face_count_lem m) in
    let w : length (ring_words (faces_in (reordered σ m))) ≡ length (ring_words (faces_in m)) =
    ap length (ring_words_lem (reordered σ m)) ∙ ap (λ (l : List Raw). length (each (λ r. r) (each rings_of l))) (reordered_cells σ m)
    ∙ same_number m σ h r (λ l. length (each (λ r. r) (each rings_of l))) (λ l k d. perm_length (perm_each (λ r. r) (perm_each rings_of d))) ∙ sym (ap length (ring_words_lem m)) in
    let n : node_count (reordered σ m).coords ≡ node_count m.coords = unfold reordered with_cells in refl in
    rw (f, w, same_kinds m σ h r, same_words_lem m σ h r, n)

-- checking an accepted model is refused for want of work only
pub check_refusal_lem : (m : Model) (rest : List (ℕ × Bool)) → Accepts m → refusal (model_table m ++ rest) ≡ refusal rest
check_refusal_lem m rest h = clear_append (model_table m) rest (accepted_clear m (accepted m h))
