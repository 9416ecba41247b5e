use Prim.Native.Nat.{ℕ}
use mathlib.Core.Path.{◌≡◌, sym, ap, subst}
use mathlib.Core.List.{List, [], ◌∷◌, map}
use native.Mathlib.Omega.{arith}
use lib.ListN.{length}
use Rattle.mesh.specs.Kinds.{kind_number}
use Rattle.mesh.specs.Rings.{rings_of}
use Rattle.mesh.specs.CellsRest.{cell_raw}
use Rattle.mesh.proofs.ByKind.{tet_is, hex_is, wedge_is, phed_is}
use Rattle.rings.specs.Put.{WordsPut}
use Rattle.rings.proofs.Putting.{put_both}
use Rattle.tables.proofs.cell_lengths.Goals as goal

-- ---- tetrahedra

pub put_copies-requires : goal.put_copies-requires
put_copies-requires c =
    let x = c.args.cell.now in
    let n : length (rings_of (cell_raw x)) ≡ 4 = ap length (tet_is _ x.words.now (ap kind_number c.in-Tet4.is) x.well).1 in
    omega (arith, c.requires)

pub returns-in-Tet4 : goal.returns-in-Tet4
returns-in-Tet4 c =
    let a = c.args in
    let x = a.cell.now in
    let r = c.put_copies in
    subst (λ (R : List (List ℕ)). WordsPut (map length R) a.work.now r.new.work a.at r.result) (sym (tet_is _ x.words.now (ap kind_number c.in-Tet4.is) x.well).1) r.ensures

-- ---- hexahedra

pub put_copies-requires-in-Hex8 : goal.put_copies-requires-in-Hex8
put_copies-requires-in-Hex8 c =
    let x = c.args.cell.now in
    let n : length (rings_of (cell_raw x)) ≡ 6 = ap length (hex_is _ x.words.now (ap kind_number c.in-Hex8.is) x.well).1 in
    omega (arith, c.requires)

pub returns-in-Hex8 : goal.returns-in-Hex8
returns-in-Hex8 c =
    let a = c.args in
    let x = a.cell.now in
    let r = c.put_copies-in-Hex8 in
    subst (λ (R : List (List ℕ)). WordsPut (map length R) a.work.now r.new.work a.at r.result) (sym (hex_is _ x.words.now (ap kind_number c.in-Hex8.is) x.well).1) r.ensures

-- ---- wedges

pub put_copies-k-requires : goal.put_copies-k-requires
put_copies-k-requires c =
    let x = c.args.cell.now in
    let n : length (rings_of (cell_raw x)) ≡ 5 = ap length (wedge_is _ x.words.now (ap kind_number c.in-Wedge6.is) x.well).1 in
    omega (arith, c.requires)

pub put_copies-requires-in-Wedge6 : goal.put_copies-requires-in-Wedge6
put_copies-requires-in-Wedge6 c =
    let x = c.args.cell.now in
    let n : length (rings_of (cell_raw x)) ≡ 5 = ap length (wedge_is _ x.words.now (ap kind_number c.in-Wedge6.is) x.well).1 in
    omega (arith, c.requires, c.put_copies-k.ensures.0, c.put_copies-k.auto.work)

pub returns-in-Wedge6 : goal.returns-in-Wedge6
returns-in-Wedge6 c =
    let a = c.args in
    let x = a.cell.now in
    let k = c.put_copies-k in
    let r = c.put_copies-in-Wedge6 in
    subst (λ (R : List (List ℕ)). WordsPut (map length R) a.work.now r.new.work a.at r.result) (sym (wedge_is _ x.words.now (ap kind_number c.in-Wedge6.is) x.well).1)
    (put_both a.work.now k.new.work r.new.work a.at k.result r.result (3 ∷ 3 ∷ []) (4 ∷ 4 ∷ 4 ∷ []) k.ensures r.ensures)

-- ---- PHEDs

pub phed_lengths-requires : goal.phed_lengths-requires
phed_lengths-requires c =
    let x = c.args.cell.now in
    omega (arith, c.requires, ap length (phed_is _ x.words.now (ap kind_number c.in-Phed.is)))

pub returns-in-Phed : goal.returns-in-Phed
returns-in-Phed c =
    let a = c.args in
    let x = a.cell.now in
    let r = c.phed_lengths in
    subst (λ (R : List (List ℕ)). WordsPut (map length R) a.work.now r.new.work a.at r.result) (sym (phed_is _ x.words.now (ap kind_number c.in-Phed.is))) r.ensures
