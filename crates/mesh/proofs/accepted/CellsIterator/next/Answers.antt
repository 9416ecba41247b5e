use mathlib.Core.Path.{sym, subst}
use Prim.Native.Nat.{ℕ}
use Rattle.mesh.specs.Lent.{raw, raw_rest}
use Rattle.mesh.specs.Steps.{cell_with, WellCell}
use Rattle.mesh.proofs.WellCells.{kept_cells, kept_step}
use Rattle.mesh.proofs.KindNumbers.{kind_read}
use Rattle.mesh.proofs.accepted.CellsIterator.next.Goals as goal

pub invariant_of-self : goal.invariant_of-self
invariant_of-self c =
    let s = c.args.self.now in
    let h = kept_step c.next.result s.left c.next.new.self c.next.ensures.steps (record { well = s.well; few = s.few; small = s.small }) in
    record { well = h.well; few = h.few; small = h.small }

pub invariant_of-result : goal.invariant_of-result
invariant_of-result c =
    let s = c.args.self.now in
    let h = kept_cells (raw c.in_ok-raw.raw) _ (raw_rest s.left) c.in_ok-raw.ensures.steps s.well s.few s.small in
    let k = kind_read _ _ _ c.try_from.ensures c.unwrap-kind.ensures in
    record { well = subst (λ (n : ℕ). WellCell (cell_with n c.in_ok-raw.raw.words.now)) (sym k) h.first; small = h.first_small }
