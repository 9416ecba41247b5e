use mathlib.Core.Path.{◌≡◌, sym, subst}
use mathlib.Core.Bool.{false}
use mathlib.Core.List.{List}
use Prim.Native.Nat.{◌≤◌}
use lib.ListN.{length}
use Rattle.laws.specs.Lists.{any, each}
use Rattle.laws.specs.Limits.{cell_limit, word_limit}
use Rattle.mesh.specs.Lent.{lent, raw_rest}
use Rattle.mesh.specs.Model.{Raw, cells_from, cells_of}
use Rattle.mesh.specs.Steps.{is_ill}
use Rattle.mesh.specs.declared.model.RawCells.{RawCells}
use Rattle.mesh.proofs.Accepts.{accepts}
use Rattle.mesh.proofs.WellCells.{kept_model}
use Rattle.mesh.proofs.accepted.Accepted.cells.Goals as goal

-- the cells that are left at the start are the model's
all_left : (r : RawCells) (ks es ws : List _) → r.at ≡ 0 → r.kinds.now ≡ ks → r.ends.now ≡ es → r.words.now ≡ ws → raw_rest r ≡ cells_from 0 ks es ws
all_left r ks es ws a k e w = rw (a, k, e, w)

pub raw_cells-requires : goal.raw_cells-requires
raw_cells-requires c =
    let h = accepts (lent c.args.self.now.model) c.args.self.now.accepted in
    (h.paired, h.ends)

pub invariant_of-result : goal.invariant_of-result
unfolding cells_of
invariant_of-result c =
    let s = c.args.self.now in
    let h = kept_model (lent s.model) s.accepted in
    let e = c.raw_cells.ensures in
    let is = sym (all_left c.raw_cells.result _ _ _ e.at e.kinds e.ends e.words) in
    record {
      well = subst (λ (l : List Raw). any is_ill l ≡ false) is h.well;
      few = subst (λ (l : List Raw). length l ≤ cell_limit) is h.few;
      small = subst (λ (l : List Raw). length (each (λ (x : Raw). x.words) l) ≤ word_limit) is h.small;
    }

pub returns : goal.returns
unfolding cells_of
returns c = let e = c.raw_cells.ensures in all_left c.raw_cells.result _ _ _ e.at e.kinds e.ends e.words
