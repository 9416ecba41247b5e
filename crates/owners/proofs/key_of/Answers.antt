use mathlib.Core.Path.{sym, ap, ◌∙◌}
use Prim.Native.Nat.{ℕ, ◌≤◌}
use mathlib.Core.List.{List, []}
use native.Mathlib.Omega.{arith}
use lib.Dec.{leb}
use lib.ListN.{length, get_or}
use Rattle.laws.specs.Lists.{sort}
use Rattle.laws.proofs.Sorting.{length-sort}
use Rattle.mesh.specs.Lent.{lent}
use Rattle.mesh.specs.Kinds.{kind_number}
use Rattle.faces.proofs.Bounds.{ring_short}
use Rattle.faces.proofs.Rings.{left_rings}
use Rattle.faces.proofs.Finding.{found_ring}
use Rattle.owners.proofs.key_of.Goals as goal

pub find_cell-p-requires : goal.find_cell-p-requires
find_cell-p-requires c = omega (arith, c.requires, ap length (left_rings c.cells.result (lent c.args.model.now.model) c.cells.ensures))

pub sorted-requires : goal.sorted-requires
sorted-requires c =
    let x = c.find_cell-p.result.cell in
    omega (arith, ap length c.cell_ring.ensures, ring_short (kind_number x.kind) x.words.now c.find_cell-p.result.face x.well c.find_cell-p.ensures.within)

pub returns : goal.returns
returns c =
    let m = lent c.args.model.now.model in
    let x = c.find_cell-p.result.cell in
    let short : length c.cell_ring.result.now ≤ 64 = omega (arith, ap length c.cell_ring.ensures, ring_short (kind_number x.kind) x.words.now c.find_cell-p.result.face x.well c.find_cell-p.ensures.within) in
    let p = c.find_cell-p.ensures in
    let ring = found_ring _ _ _ p.parts p.face p.within in
    let all = ap (λ (rs : List (List ℕ)). get_or rs c.args.face []) (left_rings c.cells.result m c.cells.ensures) in
    let e = c.sorted.ensures ∙ ap (sort leb) (c.cell_ring.ensures ∙ sym ring ∙ all) in
    (e, omega (arith, short, ap length c.sorted.ensures, length-sort leb c.cell_ring.result.now))
