use mathlib.Core.Path.{refl}
use native.Mathlib.Omega.{arith}
use Rattle.faces.proofs.Finding.{found_span, found_fits}
use Rattle.faces.proofs.find_ring.Goals as goal

pub overflow_add-result : goal.overflow_add-result
overflow_add-result c = omega (arith, found_fits c.args.cells c.args.face _ c.find_cell-p.ensures _ c.cell_span-s.ensures.spot)

pub overflow_add-result-2 : goal.overflow_add-result-2
overflow_add-result-2 c = omega (arith, found_fits c.args.cells c.args.face _ c.find_cell-p.ensures _ c.cell_span-s.ensures.spot)

pub returns : goal.returns
returns c =
    let p = c.find_cell-p.ensures in
    let s = c.cell_span-s.ensures.spot in (
      found_span _ _ _ p.parts p.face p.within _ p.start _ s _ refl refl,
      omega (arith, found_fits c.args.cells c.args.face _ p _ s),
    )
