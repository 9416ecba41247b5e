-- What acceptance, that none of 5 to 10 refuses a model, says of it as far as its file goes.
use Prim.Native.Nat.{ℕ, ◌+◌, ◌-◌, ◌%◌, ◌≤◌}
use mathlib.Core.Path.{◌≡◌, refl, sym, ◌∙◌}
use mathlib.Core.Logic.{◌⊎◌, inl, inr, ◌≢◌}
use mathlib.Core.Bool.{Bool, true, false, cond, not, ◌&&◌}
use mathlib.Core.List.{List, [], ◌∷◌, ◌++◌}
use native.Mathlib.Nat.{zero-add}
use native.Mathlib.Omega.{arith}
use lib.Dec.{leb, ltb, eqb}
use lib.ListN.{length, take, drop, length-drop, take-append-drop}
use lib.Ieee.{Float, nan, inf, fin, is_nan, lt, le, eq}
use borrow.Author.Tests.{eqb-true, eqb-false, ltb-false, leb-false, not-false}
use Rattle.laws.specs.Limits.{coordinate_least, coordinate_most, flag_limit}
use Rattle.laws.specs.Lists.{any, All}
use Rattle.laws.specs.Refusals.{refusal}
use Rattle.laws.proofs.Tables.{refusal_first, refusal_second}
use Rattle.laws.proofs.Tests.{clash}
use Rattle.std.proofs.lemmas.Bool.{and_parts, cases_Bool, or_parts}
use Rattle.floats.specs.Floats.{zero64, is_finite}
use Rattle.geometry.specs.Coordinates.{node_count, tolerance_off, coordinate_off, coordinates_off}
use Rattle.mesh.specs.Model.{Model, Raw, PHED, cells_from, cells_of}
use Rattle.mesh.specs.Rings.{separator}
use Rattle.mesh.specs.Acceptance.{ends_off, kind_off, count_wrong, node_off, cell_table, cells_table, shape_off, model_refusal}
use Rattle.mesh.specs.Steps.{cell_with}
use Rattle.mesh.proofs.Ends.{ends_most}
use Rattle.mesh.proofs.CellTallies.{nine}
use Rattle.mesh.proofs.ModelTable.{Shaped, shaped}
use Rattle.laws.proofs.Holding.{all_append}
use Rattle.model_file.proofs.Fields.{Word}
use Rattle.model_file.proofs.Layouts.{Real}

-- ---- tables that refuse nothing

-- the first row does not hold, and n, the refusal of the rest, is none
pub row_none : (number : ℕ) (b : Bool) (n : ℕ) → number ≢ 0 → cond b number n ≡ 0 → (b ≡ false) × (n ≡ 0)
row_none number true n z h = absurd (z h)
row_none number false n z h = (refl, h)

-- the first table refuses nothing
pub table_none : (a b : List (ℕ × Bool)) → refusal (a ++ b) ≡ 0 → refusal a ≡ 0
table_none a b h = go (cases_Bool (eqb (refusal a) 0))
  where
    go : (eqb (refusal a) 0 ≡ true) ⊎ (eqb (refusal a) 0 ≡ false) → refusal a ≡ 0
    go (inl e) = eqb-true (refusal a) 0 e
    go (inr e) = let z : refusal a ≢ 0 = eqb-false (refusal a) 0 e in absurd (z (sym (refusal_first a b z) ∙ h))

-- ---- floats

-- what is not below a number is no NaN
le_real : (a x : Float) → le a x ≡ true → Real x
unfolding le lt eq is_nan
le_real nan nan e = clash e refl
le_real (inf s) nan e = clash e refl
le_real (fin s m k) nan e = clash e refl
le_real a (inf s) e = tt
le_real a (fin s m k) e = tt

-- coordinates that pass are no NaN
coords_real : (cs : List Float) → coordinates_off cs ≡ false → All Real cs
coords_real [] h = tt
coords_real (x ∷ cs) h =
    let p = or_parts (coordinate_off x) (coordinates_off cs) h in
    let q = and_parts (le coordinate_least x) (le x coordinate_most) (not-false (le coordinate_least x && le x coordinate_most) p.0) in
    (le_real coordinate_least x q.0, coords_real cs p.1)

-- nor is a tolerance that passes
tolerance_real : (t : Float) → tolerance_off t ≡ false → Real t
tolerance_real t h = le_real zero64 t (and_parts (is_finite t) (le zero64 t) (not-false (is_finite t && le zero64 t) h)).1

-- ---- words

-- a word that is no wrong node number is a node's or the separator
word_kept : (n k w : ℕ) → n ≤ 65535 → node_off n k w ≡ false → Word w
word_kept n k w few h = go (cases_Bool (leb n w))
  where
    go : (leb n w ≡ true) ⊎ (leb n w ≡ false) → Word w
    go (inl e) = inr (eqb-true w separator (and_parts (eqb k PHED) (eqb w separator) (not-false (eqb k PHED && eqb w separator) (rw e at h))).1)
    go (inr e) = inl (omega (arith, leb-false n w e))

-- words that pass
words_kept : (n k : ℕ) (ws : List ℕ) → n ≤ 65535 → any (node_off n k) ws ≡ false → All Word ws
words_kept n k [] few h = tt
words_kept n k (w ∷ ws) few h =
    let p = or_parts (node_off n k w) (any (node_off n k) ws) h in
    (word_kept n k w few p.0, words_kept n k ws few p.1)

-- the words of a cell that passes
cell_kept : (n before : ℕ) (c : Raw) → refusal (cell_table n before c) ≡ 0 → any (node_off n c.kind) c.words ≡ false
unfolding cell_table
cell_kept n before c h =
    let p = row_none 9 (kind_off before c.kind) _ (λ e. omega arith) h in
    let q = row_none 9 (count_wrong c) _ (λ e. omega arith) p.1 in
    (row_none 9 (any (node_off n c.kind) c.words) 0 (λ e. omega arith) q.1).0

-- cells that are not refused hold all words
cells_kept : (n before at : ℕ) (ks es ws : List ℕ) → n ≤ 65535 → length ks ≡ length es → ends_off at es (at + length ws) ≡ false → refusal (cells_table n before (cells_from at ks es ws)) ≡ 0 → All Word ws
cells_kept n before at [] [] [] few l a h = tt
cells_kept n before at [] [] (w ∷ ws) few l a h = absurd (omega (arith, eqb-true at (at + length (w ∷ ws)) (not-false (eqb at (at + length (w ∷ ws))) a)))
cells_kept n before at [] (e ∷ es) ws few l a h = absurd (omega arith)
cells_kept n before at (k ∷ ks) [] ws few l a h = absurd (omega arith)
cells_kept n before at (k ∷ ks) (e ∷ es) ws few l a h =
    let fr = take (e - at) ws in
    let bk = drop (e - at) ws in
    let c = cell_with k fr in
    let later = cells_table n k (cells_from e ks es bk) in
    let p = or_parts (ltb e at) (ends_off e es (at + length ws)) a in
    let low : at ≤ e = ltb-false e at p.0 in
    let up = ends_most e es (at + length ws) p.1 in
    let ld = length-drop (e - at) ws in
    let q : at + length ws ≡ e + length bk = omega arith in
    let first = table_none (cell_table n before c) later h in
    let rest = sym (refusal_second (cell_table n before c) later (nine n before c) first) ∙ h in
    let i = cells_kept n k e ks es bk few (omega arith) (rw q at p.1) rest in
    rw take-append-drop at (all_append Word fr bk (words_kept n k fr few (cell_kept n before c first)) i)

-- ---- a model

-- what an accepted model is
pub record Accepted (m : Model) : Type 0 where
  pub shape : Shaped m
  pub few : length m.coords ≤ 196605
  pub threes : length m.coords % 3 ≡ 0
  pub coords : All Real m.coords
  pub tolerance : Real m.tolerance
  pub words : All Word m.words

-- acceptance says all of it
pub accepted : (m : Model) → model_refusal m ≡ 0 → Accepted m
unfolding model_refusal cells_of
accepted m h =
    let p5 = row_none 5 (shape_off m) _ (λ e. omega arith) h in
    let p6 = row_none 6 (tolerance_off m.tolerance) _ (λ e. omega arith) p5.1 in
    let p7 = row_none 7 (coordinates_off m.coords) _ (λ e. omega arith) p6.1 in
    let p8 = row_none 8 (eqb (length m.kinds) 0) _ (λ e. omega arith) p7.1 in
    let s = shaped m p5.0 in
    let q = or_parts (ltb 196605 (length m.coords)) (not (eqb (length m.coords % 3) 0)) s.count in
    let few : length m.coords ≤ 196605 = ltb-false 196605 (length m.coords) q.0 in
    let nines = table_none (cells_table (node_count m.coords) 0 (cells_of m)) ((10, ltb flag_limit m.flags) ∷ []) p8.1 in
    record {
      shape = s;
      few = few;
      threes = eqb-true (length m.coords % 3) 0 (not-false (eqb (length m.coords % 3) 0) q.1);
      coords = coords_real m.coords p7.0;
      tolerance = tolerance_real m.tolerance p6.0;
      words = cells_kept (node_count m.coords) 0 0 m.kinds m.ends m.words (omega arith) s.equal (rw zero-add s.order) nines;
    }
