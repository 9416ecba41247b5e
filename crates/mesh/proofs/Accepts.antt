-- An accepted model: what it says that no reason of its table holds, and back.
use Prim.Native.Nat.{ℕ}
use mathlib.Core.Path.{◌≡◌, refl, sym, ◌∙◌}
use mathlib.Core.Bool.{Bool, true, false, not, ◌||◌}
use mathlib.Core.List.{List, [], ◌∷◌, ◌++◌}
use native.Mathlib.Omega.{arith}
use borrow.Author.Tests.{ltb-false, leb-true, le-leb, le-ltb, eqb-true, eq-eqb, not-false}
use lib.Dec.{leb, ltb, eqb}
use lib.ListN.{length}
use Rattle.laws.specs.Lists.{any}
use Rattle.laws.specs.Limits.{cell_limit, word_limit, flag_limit}
use Rattle.std.proofs.lemmas.Bool.{and_parts, or_parts}
use Rattle.laws.proofs.ListLaws.{any_append}
use Rattle.laws.proofs.Tables.{reason, Numbered, numbered_append, clear_refusal, refusal_clear}
use Rattle.geometry.specs.Coordinates.{node_count, count_off, tolerance_off, coordinates_off}
use Rattle.mesh.specs.Model.{Model, Raw, PHED, ascending, cells_of}
use Rattle.mesh.specs.Acceptance.{ends_off, shape_off, kind_off, count_wrong, node_off, cell_table, cells_table, mesh_table, model_table, model_refusal}
use Rattle.mesh.proofs.ModelTable.{numbers_mesh}

-- every row of a model has a number
pub numbers_model : (m : Model) → Numbered (model_table m)
numbers_model m = numbered_append (mesh_table m) _ (numbers_mesh m) (λ e. omega arith, tt)

-- an accepted model: no reason holds
pub accepted_clear : (m : Model) → model_refusal m ≡ 0 → any reason (model_table m) ≡ false
unfolding model_refusal
accepted_clear m e = refusal_clear (model_table m) (numbers_model m) e

-- ---- cells

-- what is wrong with a cell among n nodes, whichever cell stands before it
unfoldable pub cell_wrong : ℕ → Raw → Bool
cell_wrong n c = (eqb c.kind 0 || ltb PHED c.kind) || (count_wrong c || any (node_off n c.kind) c.words)

-- a kind that is there and not below the one before
kind_on : (before k : ℕ) → kind_off before k ≡ false → (leb before k ≡ true) × ((eqb k 0 || ltb PHED k) ≡ false)
kind_on before k e =
    let p = or_parts (ltb k before || eqb k 0) (ltb PHED k) e in
    let q = or_parts (ltb k before) (eqb k 0) p.0 in
    (le-leb before k (ltb-false k before q.0), rw q.1 p.1)

-- and back
kind_back : (before k : ℕ) → leb before k ≡ true → (eqb k 0 || ltb PHED k) ≡ false → kind_off before k ≡ false
kind_back before k a e = let p = or_parts (eqb k 0) (ltb PHED k) e in rw (le-ltb k before (leb-true before k a), p.0) p.1

-- no reason of the cells' table holds: kinds ascend and no cell is wrong
cells_right : (n before : ℕ) (cs : List Raw) → any reason (cells_table n before cs) ≡ false → (ascending before cs ≡ true) × (any (cell_wrong n) cs ≡ false)
unfolding cell_table cell_wrong
cells_right n before [] e = (refl, refl)
cells_right n before (c ∷ cs) e =
    let p = or_parts (kind_off before c.kind) (count_wrong c || (any (node_off n c.kind) c.words || any reason (cells_table n c.kind cs))) e in
    let q = or_parts (count_wrong c) (any (node_off n c.kind) c.words || any reason (cells_table n c.kind cs)) p.1 in
    let r = or_parts (any (node_off n c.kind) c.words) (any reason (cells_table n c.kind cs)) q.1 in
    let k = kind_on before c.kind p.0 in
    let ih = cells_right n c.kind cs r.1 in
    (rw k.0 ih.0, rw (k.1, q.0, r.0) ih.1)

-- and back
cells_back : (n before : ℕ) (cs : List Raw) → ascending before cs ≡ true → any (cell_wrong n) cs ≡ false → any reason (cells_table n before cs) ≡ false
unfolding cell_table cell_wrong
cells_back n before [] a e = refl
cells_back n before (c ∷ cs) a e =
    let p = and_parts (leb before c.kind) (ascending c.kind cs) a in
    let q = or_parts (cell_wrong n c) (any (cell_wrong n) cs) e in
    let r = or_parts (eqb c.kind 0 || ltb PHED c.kind) (count_wrong c || any (node_off n c.kind) c.words) q.0 in
    let s = or_parts (count_wrong c) (any (node_off n c.kind) c.words) r.1 in
    rw (kind_back before c.kind p.0 r.0, s.0, s.1) (cells_back n c.kind cs p.1 q.1)

-- ---- models

-- what an accepted model is
pub record Accepts (m : Model) : Type 0 where
  pub coordinates : count_off (length m.coords) ≡ false
  pub cells : ltb cell_limit (length m.kinds) ≡ false
  pub words : ltb word_limit (length m.words) ≡ false
  pub paired : length m.kinds ≡ length m.ends
  pub ends : ends_off 0 m.ends (length m.words) ≡ false
  pub tolerance : tolerance_off m.tolerance ≡ false
  pub places : coordinates_off m.coords ≡ false
  pub some : eqb (length m.kinds) 0 ≡ false
  pub ascends : ascending 0 (cells_of m) ≡ true
  pub right : any (cell_wrong (node_count m.coords)) (cells_of m) ≡ false
  pub flags : ltb flag_limit m.flags ≡ false

-- an accepted model is that
pub accepts : (m : Model) → model_refusal m ≡ 0 → Accepts m
unfolding shape_off
accepts m e =
    let n = node_count m.coords in
    let T = cells_table n 0 (cells_of m) in
    let F = ltb flag_limit m.flags in
    let k = eqb (length m.kinds) 0 in
    let a = length m.kinds in
    let b = length m.ends in
    let w = length m.words in
    let p5 = or_parts (shape_off m) (tolerance_off m.tolerance || (coordinates_off m.coords || (k || any reason (T ++ ((10, F) ∷ []))))) (accepted_clear m e) in
    let p6 = or_parts (tolerance_off m.tolerance) (coordinates_off m.coords || (k || any reason (T ++ ((10, F) ∷ [])))) p5.1 in
    let p7 = or_parts (coordinates_off m.coords) (k || any reason (T ++ ((10, F) ∷ []))) p6.1 in
    let p8 = or_parts k (any reason (T ++ ((10, F) ∷ []))) p7.1 in
    let p9 = or_parts (any reason T) (F || false) (sym (any_append reason T ((10, F) ∷ [])) ∙ p8.1) in
    let p10 = or_parts F false p9.1 in
    let s4 = or_parts (count_off (length m.coords) || ltb cell_limit a || ltb word_limit w || not (eqb a b)) (ends_off 0 m.ends w) p5.0 in
    let s3 = or_parts (count_off (length m.coords) || ltb cell_limit a || ltb word_limit w) (not (eqb a b)) s4.0 in
    let s2 = or_parts (count_off (length m.coords) || ltb cell_limit a) (ltb word_limit w) s3.0 in
    let s1 = or_parts (count_off (length m.coords)) (ltb cell_limit a) s2.0 in
    let c = cells_right n 0 (cells_of m) p9.0 in
    record {
      coordinates = s1.0;
      cells = s1.1;
      words = s2.1;
      paired = eqb-true a b (not-false (eqb a b) s3.1);
      ends = s4.1;
      tolerance = p6.0;
      places = p7.0;
      some = p8.0;
      ascends = c.0;
      right = c.1;
      flags = p10.0;
    }

-- and what is that is accepted
pub accepted : (m : Model) → Accepts m → model_refusal m ≡ 0
unfolding model_refusal shape_off
accepted m h =
    let n = node_count m.coords in
    let T = cells_table n 0 (cells_of m) in
    let F = ltb flag_limit m.flags in
    let c : any reason T ≡ false = cells_back n 0 (cells_of m) h.ascends h.right in
    let t : any reason (T ++ ((10, F) ∷ [])) ≡ false = any_append reason T ((10, F) ∷ []) ∙ rw (c, h.flags) in
    clear_refusal (model_table m)
    (rw (h.coordinates, h.cells, h.words, eq-eqb (length m.kinds) (length m.ends) h.paired, h.ends, h.tolerance, h.places, h.some) t)
