use Prim.Native.Nat.{ℕ}
use mathlib.Core.Path.{◌≡◌, refl, sym, ap, subst}
use mathlib.Core.List.{List}
use native.Mathlib.Omega.{arith}
use Rattle.mesh.specs.Kinds.{kind_number}
use Rattle.mesh.specs.CellsRest.{cell_raw}
use Rattle.mesh.specs.Rings.{at, tet_rings, hex_rings, rings_of}
use Rattle.mesh.specs.Steps.{ring_total}
use Rattle.mesh.proofs.ByKind.{tet_is, hex_is, wedge_is, phed_is}
use Rattle.rings.specs.Put.{RingsPut}
use Rattle.rings.proofs.Putting.{flat, wedge_ends, wedge_sides, put_both, table_asks}
use Rattle.rings.proofs.put_cell.Goals as goal

-- ---- tetrahedra

pub put_rings-requires : goal.put_rings-requires
put_rings-requires c =
    let x = c.args.cell.now in
    let t = tet_is _ x.words.now (ap kind_number c.in-Tet4.is) x.well in
    let n : ring_total (rings_of (cell_raw x)) ≡ 12 = ap ring_total t.1 in
    (omega arith, (omega arith, (table_asks tet_rings x.words.now 4 refl t.0, omega (arith, c.requires))))

pub returns-in-Tet4 : goal.returns-in-Tet4
returns-in-Tet4 c =
    let a = c.args in
    let x = a.cell.now in
    let r = c.put_rings in
    subst (λ (R : List (List ℕ)). RingsPut R a.out.now r.new.out a.at r.result) (sym (tet_is _ x.words.now (ap kind_number c.in-Tet4.is) x.well).1) r.ensures

-- ---- hexahedra

pub put_rings-requires-in-Hex8 : goal.put_rings-requires-in-Hex8
put_rings-requires-in-Hex8 c =
    let x = c.args.cell.now in
    let t = hex_is _ x.words.now (ap kind_number c.in-Hex8.is) x.well in
    let n : ring_total (rings_of (cell_raw x)) ≡ 24 = ap ring_total t.1 in
    (omega arith, (omega arith, (table_asks hex_rings x.words.now 8 refl t.0, omega (arith, c.requires))))

pub returns-in-Hex8 : goal.returns-in-Hex8
returns-in-Hex8 c =
    let a = c.args in
    let x = a.cell.now in
    let r = c.put_rings-in-Hex8 in
    subst (λ (R : List (List ℕ)). RingsPut R a.out.now r.new.out a.at r.result) (sym (hex_is _ x.words.now (ap kind_number c.in-Hex8.is) x.well).1) r.ensures

-- ---- wedges

pub put_rings-k-requires : goal.put_rings-k-requires
put_rings-k-requires c =
    let x = c.args.cell.now in
    let t = wedge_is _ x.words.now (ap kind_number c.in-Wedge6.is) x.well in
    let n : ring_total (rings_of (cell_raw x)) ≡ 18 = ap ring_total t.1 in
    (omega arith, (omega arith, (table_asks wedge_ends x.words.now 6 refl t.0, omega (arith, c.requires))))

pub put_rings-requires-in-Wedge6 : goal.put_rings-requires-in-Wedge6
put_rings-requires-in-Wedge6 c =
    let x = c.args.cell.now in
    let t = wedge_is _ x.words.now (ap kind_number c.in-Wedge6.is) x.well in
    let n : ring_total (rings_of (cell_raw x)) ≡ 18 = ap ring_total t.1 in
    (omega arith, (omega arith, (table_asks wedge_sides x.words.now 6 refl t.0, omega (arith, c.requires, c.put_rings-k.ensures.0, c.put_rings-k.auto.out))))

pub returns-in-Wedge6 : goal.returns-in-Wedge6
returns-in-Wedge6 c =
    let a = c.args in
    let x = a.cell.now in
    let ws = x.words.now in
    let k = c.put_rings-k in
    let r = c.put_rings-in-Wedge6 in
    subst (λ (R : List (List ℕ)). RingsPut R a.out.now r.new.out a.at r.result) (sym (wedge_is _ ws (ap kind_number c.in-Wedge6.is) x.well).1)
    (put_both a.out.now k.new.out r.new.out a.at k.result r.result (flat (at ws wedge_ends)) (flat (at ws wedge_sides)) k.ensures r.ensures)

-- ---- PHEDs

pub put_phed-requires : goal.put_phed-requires
put_phed-requires c =
    let x = c.args.cell.now in
    let t = ap ring_total (phed_is _ x.words.now (ap kind_number c.in-Phed.is)) in
    omega (arith, c.requires, t)

pub returns-in-Phed : goal.returns-in-Phed
returns-in-Phed c =
    let a = c.args in
    let x = a.cell.now in
    let r = c.put_phed in
    subst (λ (R : List (List ℕ)). RingsPut R a.out.now r.new.out a.at r.result) (sym (phed_is _ x.words.now (ap kind_number c.in-Phed.is))) r.ensures
