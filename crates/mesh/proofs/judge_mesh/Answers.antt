use mathlib.Core.Path.{sym, ◌∙◌, subst}
use lib.ListN.{length}
use borrow.Author.Tests.{eqb-true, eqb-false}
use Prim.Native.Nat.{ℕ}
use Rattle.mesh.specs.Counted.{CellsCounted}
use Rattle.refusals.specs.declared.Refusal.TheVariants.{Shape, Tolerance, Coordinate, NoCells}
use Rattle.mesh.specs.Lent.{lent}
use Rattle.mesh.specs.Model.{cells_of}
use Rattle.mesh.proofs.ModelTable.{Before9, shaped, row5, row6, row7, row8}
use Rattle.mesh.proofs.Counts.{mesh_refused, mesh_passed}
use Rattle.mesh.proofs.judge_mesh.Goals as goal

pub returns-then-shape_off : goal.returns-then-shape_off
returns-then-shape_off c =
    let m = lent c.args.model.now in
    mesh_refused m Shape (sym (row5 m (sym c.shape_off.ensures ∙ c.if-shape_off.true)))

pub returns-then-tolerance_off : goal.returns-then-tolerance_off
returns-then-tolerance_off c =
    let m = lent c.args.model.now in
    mesh_refused m Tolerance (sym (row6 m (sym c.shape_off.ensures ∙ c.if-shape_off.false) (sym c.tolerance_off.ensures ∙ c.if-tolerance_off.true)))

pub returns-then-coordinates_off : goal.returns-then-coordinates_off
returns-then-coordinates_off c =
    let m = lent c.args.model.now in
    mesh_refused m Coordinate
    (sym (row7 m (sym c.shape_off.ensures ∙ c.if-shape_off.false) (sym c.tolerance_off.ensures ∙ c.if-tolerance_off.false) (sym c.coordinates_off.ensures ∙ c.if-coordinates_off.true)))

pub returns-then-is_empty : goal.returns-then-is_empty
returns-then-is_empty c =
    let m = lent c.args.model.now in
    mesh_refused m NoCells
    (sym (row8 m (sym c.shape_off.ensures ∙ c.if-shape_off.false) (sym c.tolerance_off.ensures ∙ c.if-tolerance_off.false) (sym c.coordinates_off.ensures ∙ c.if-coordinates_off.false) (eqb-true (length m.kinds) 0 (sym c.is_empty.ensures ∙ c.if-is_empty.true))))

pub tally_cells-requires : goal.tally_cells-requires
tally_cells-requires c =
    let h = shaped (lent c.args.model.now) (sym c.shape_off.ensures ∙ c.if-shape_off.false) in
    (h.equal, h.order, h.cells, h.words)

pub returns : goal.returns
unfolding cells_of
returns c =
    let m = lent c.args.model.now in
    let b : Before9 m = record {
      shape = sym c.shape_off.ensures ∙ c.if-shape_off.false;
      tolerance = sym c.tolerance_off.ensures ∙ c.if-tolerance_off.false;
      coordinates = sym c.coordinates_off.ensures ∙ c.if-coordinates_off.false;
      some = eqb-false (length m.kinds) 0 (sym c.is_empty.ensures ∙ c.if-is_empty.false);
    } in
    mesh_passed m b c.tally_cells.result (subst (λ (n : ℕ). CellsCounted n (cells_of m) c.tally_cells.result) c.node_count.ensures c.tally_cells.ensures)
