-- The cells of an accepted model: their words are nodes or separators.
use Prim.Native.Nat.{ℕ, zero, suc, ◌<◌}
use mathlib.Core.Path.{◌≡◌, sym, ◌∙◌, subst}
use mathlib.Core.Bool.{Bool, false}
use mathlib.Core.List.{List, [], ◌∷◌}
use native.Mathlib.Omega.{arith}
use lib.ListN.{length, get_or}
use Rattle.laws.specs.Lists.{any}
use Rattle.laws.specs.Merging.{AllBelow}
use Rattle.std.proofs.lemmas.Bool.{or_parts}
use Rattle.geometry.specs.Coordinates.{node_count}
use Rattle.mesh.specs.Model.{Model, cells_of}
use Rattle.mesh.specs.Rings.{nodes_in}
use Rattle.mesh.specs.Acceptance.{model_refusal}
use Rattle.mesh.proofs.Accepts.{cell_wrong, accepts}
use Rattle.mesh.proofs.CellWords.{cells_count, named_low, right_words}
use Rattle.findings.specs.Compared.{none}
use Rattle.layout.specs.declared.Layout.{Layout}
use Rattle.layout.specs.Shown.{Shows}
use Rattle.all_cells.specs.Cells.{CellsIn}

-- what no element passes, none at a place does
any_at : {A : Type 0} (p : A → Bool) (l : List A) (i : ℕ) (d : A) → any p l ≡ false → i < length l → p (get_or l i d) ≡ false
any_at p [] i d e h = absurd (omega (arith, h))
any_at p (x ∷ l) zero d e h = (or_parts (p x) (any p l) e).0
any_at p (x ∷ l) (suc i) d e h = any_at p l i d (or_parts (p x) (any p l) e).1 (omega (arith, h))

-- the cells that the tables show
pub cells_in : (m : Model) (l : Layout) (t : List ℕ) → model_refusal m ≡ 0 → Shows m l t → CellsIn l m.kinds m.ends m.words
unfolding cells_of
cells_in m l t ok S =
    let A = accepts m ok in
    let long = cells_count m A in
    record {
      counted = S.cells ∙ long;
      paired = A.paired;
      order = A.ends;
      words = S.words;
      known = λ c h. subst (λ (n : ℕ). AllBelow n (nodes_in (get_or (cells_of m) c none).words)) (sym S.nodes)
          (named_low (node_count m.coords) (get_or (cells_of m) c none).kind (get_or (cells_of m) c none).words
          (right_words (node_count m.coords) (get_or (cells_of m) c none) (any_at (cell_wrong (node_count m.coords)) (cells_of m) c none A.right (omega (arith, h, long)))));
    }
