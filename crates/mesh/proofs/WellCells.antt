-- Cells whose kinds and word counts are right: those of an accepted model.
use Prim.Native.Nat.{ℕ, ◌≤◌}
use mathlib.Core.Path.{◌≡◌, refl, sym, ap, ◌∙◌}
use mathlib.Core.Bool.{false, ◌||◌}
use mathlib.Core.List.{List, [], ◌∷◌}
use native.Mathlib.Omega.{arith}
use borrow.Author.Tests.{ltb-false, le-ltb}
use lib.Dec.{ltb, eqb}
use Rattle.std.specs.Prelude.{Option, Some, None}
use Rattle.std.specs.Iterator.{YieldsFirstBy}
use Rattle.mesh.specs.Lent.{raw, raw_rest}
use Rattle.mesh.specs.declared.model.RawCell.{RawCell}
use Rattle.mesh.specs.declared.model.RawCells.{RawCells}
use lib.ListN.{length, length-append}
use Rattle.laws.specs.Limits.{cell_limit, word_limit}
use Rattle.laws.specs.Lists.{any, each}
use Rattle.std.proofs.lemmas.Bool.{or_parts}
use Rattle.mesh.specs.Model.{Model, Raw, PHED, cells_of}
use Rattle.mesh.specs.Acceptance.{kind_off, count_wrong, node_off, model_refusal}
use Rattle.geometry.specs.Coordinates.{node_count}
use Rattle.mesh.specs.Steps.{is_ill, WellCell, WellCells}
use Rattle.mesh.proofs.Accepts.{cell_wrong, accepts}
use Rattle.mesh.proofs.CellWords.{cells_count, cells_words}

-- the first cell, and the others
pub well_first : (c : Raw) (cs : List Raw) → any is_ill (c ∷ cs) ≡ false → WellCell c × (any is_ill cs ≡ false)
well_first c cs h =
    let p = or_parts (is_ill c) (any is_ill cs) h in
    let q = or_parts (kind_off 0 c.kind) (count_wrong c) p.0 in
    (record { kind = q.0; count = q.1 }, p.1)

pub well_cells : (cs : List Raw) → any is_ill cs ≡ false → WellCells cs
well_cells [] h = tt
well_cells (c ∷ cs) h = let p = well_first c cs h in (p.0, well_cells cs p.1)

-- a cell that is not wrong
right_cells : (n : ℕ) (cs : List Raw) → any (cell_wrong n) cs ≡ false → any is_ill cs ≡ false
unfolding cell_wrong
right_cells n [] h = refl
right_cells n (c ∷ cs) h =
    let p = or_parts (cell_wrong n c) (any (cell_wrong n) cs) h in
    let q = or_parts (eqb c.kind 0 || ltb PHED c.kind) (count_wrong c || any (node_off n c.kind) c.words) p.0 in
    let k = or_parts (eqb c.kind 0) (ltb PHED c.kind) q.0 in
    let w = or_parts (count_wrong c) (any (node_off n c.kind) c.words) q.1 in
    rw (le-ltb c.kind 0 (omega arith), k.0, k.1, w.0) (right_cells n cs p.1)

-- those of an accepted model
pub accepted_well : (m : Model) → model_refusal m ≡ 0 → any is_ill (cells_of m) ≡ false
accepted_well m e = right_cells (node_count m.coords) (cells_of m) (accepts m e).right

-- the first of cells, and the others: what their iterator keeps
pub record KeptCells (c : Raw) (cs : List Raw) : Type 0 where
  pub first : WellCell c
  pub first_small : length c.words ≤ word_limit
  pub well : any is_ill cs ≡ false
  pub few : length cs ≤ cell_limit
  pub small : length (each (λ c. c.words) cs) ≤ word_limit

pub kept_cells : (c : Raw) (cs rest : List Raw) → rest ≡ c ∷ cs → any is_ill rest ≡ false → length rest ≤ cell_limit → length (each (λ c. c.words) rest) ≤ word_limit → KeptCells c cs
kept_cells c cs rest is w f s =
    let p = well_first c cs (sym (ap (any is_ill) is) ∙ w) in
    let n = ap (λ (l : List Raw). length (each (λ (c : Raw). c.words) l)) is ∙ length-append c.words (each (λ (c : Raw). c.words) cs) in
    record { first = p.0; first_small = omega arith; well = p.1; few = omega (arith, ap length is); small = omega arith }

-- what is kept of all of them
pub record Kept (cs : List Raw) : Type 0 where
  pub well : any is_ill cs ≡ false
  pub few : length cs ≤ cell_limit
  pub small : length (each (λ c. c.words) cs) ≤ word_limit

pub kept_step : (r : Option RawCell) (s t : RawCells) → YieldsFirstBy raw raw_rest s r t → Kept (raw_rest s) → Kept (raw_rest t)
kept_step None s t e k =
    record { well = ap (any is_ill) e.1; few = omega (arith, ap length e.1); small = omega (arith, ap (λ (l : List Raw). length (each (λ (c : Raw). c.words) l)) e.1) }
kept_step (Some x) s t e k =
    let h = kept_cells (raw x) (raw_rest t) (raw_rest s) e k.well k.few k.small in
    record { well = h.well; few = h.few; small = h.small }

-- those of an accepted model
pub kept_model : (m : Model) → model_refusal m ≡ 0 → Kept (cells_of m)
kept_model m e =
    let a = accepts m e in
    record {
      well = accepted_well m e;
      few = omega (arith, cells_count m a, ltb-false cell_limit (length m.kinds) a.cells);
      small = omega (arith, ap length (cells_words m a), ltb-false word_limit (length m.words) a.words);
    }
