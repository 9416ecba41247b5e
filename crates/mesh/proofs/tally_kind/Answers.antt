use mathlib.Core.Path.{refl, sym, subst}
use native.Mathlib.Omega.{arith}
use Rattle.mesh.specs.Rings.{rings_of}
use Rattle.mesh.specs.Kinds.{kind_number}
use Rattle.mesh.specs.Steps.{cell_with, KindCounted}
use Rattle.mesh.specs.declared.kind.Kind.{Kind}
use Rattle.mesh.proofs.CellKinds.{fixed}
use Rattle.mesh.proofs.tally_kind.Goals as goal

pub returns-in-Tet4 : goal.returns-in-Tet4
unfolding rings_of
returns-in-Tet4 c =
    let e = c.tally_fixed.ensures in
    let w = c.args.words.now in
    subst (λ (k : Kind). KindCounted (cell_with (kind_number k) w) c.tally_fixed.result) (sym c.in-Tet4.is)
    (fixed (cell_with 1 w) 4 4 12 _ refl refl refl (omega arith) (omega arith) e.off e.tallied)

pub returns-in-Hex8 : goal.returns-in-Hex8
unfolding rings_of
returns-in-Hex8 c =
    let e = c.tally_fixed-in-Hex8.ensures in
    let w = c.args.words.now in
    subst (λ (k : Kind). KindCounted (cell_with (kind_number k) w) c.tally_fixed-in-Hex8.result) (sym c.in-Hex8.is)
    (fixed (cell_with 2 w) 8 6 24 _ refl refl refl (omega arith) (omega arith) e.off e.tallied)

pub returns-in-Wedge6 : goal.returns-in-Wedge6
unfolding rings_of
returns-in-Wedge6 c =
    let e = c.tally_fixed-in-Wedge6.ensures in
    let w = c.args.words.now in
    subst (λ (k : Kind). KindCounted (cell_with (kind_number k) w) c.tally_fixed-in-Wedge6.result) (sym c.in-Wedge6.is)
    (fixed (cell_with 3 w) 6 5 18 _ refl refl refl (omega arith) (omega arith) e.off e.tallied)
