use mathlib.Core.Path.{ap}
use native.Mathlib.Omega.{arith}
use Rattle.mesh.specs.Kinds.{kind_number}
use Rattle.mesh.proofs.ByKind.{tet_is, hex_is, wedge_is, phed_is}
use Rattle.faces.proofs.Spanning.{tet_span, hex_span, wedge_three, wedge_four, of_rings, span_of_rings, flat_span, phed_cell}
use Rattle.faces.proofs.cell_span.Goals as goal

pub overflow_mul-face : goal.overflow_mul-face
overflow_mul-face c =
    omega (arith, of_rings c.args.face (tet_is _ c.args.words.now (ap kind_number c.in-Tet4.is) c.requires.well).1 c.requires.there)

pub overflow_mul-face-in-Tet4 : goal.overflow_mul-face-in-Tet4
overflow_mul-face-in-Tet4 c =
    omega (arith, of_rings c.args.face (tet_is _ c.args.words.now (ap kind_number c.in-Tet4.is) c.requires.well).1 c.requires.there)

pub overflow_add-face : goal.overflow_add-face
overflow_add-face c =
    omega (arith, of_rings c.args.face (tet_is _ c.args.words.now (ap kind_number c.in-Tet4.is) c.requires.well).1 c.requires.there)

pub returns-in-Tet4 : goal.returns-in-Tet4
returns-in-Tet4 c =
    let k = ap kind_number c.in-Tet4.is in
    let e = (tet_is _ c.args.words.now k c.requires.well).1 in
    let a = c.flat.ensures in
    flat_span _ c.args.words.now c.args.face _ c.requires.well (λ z. omega (arith, z, k)) c.requires.there
    (span_of_rings e (tet_span c.args.words.now c.args.face _ (of_rings c.args.face e c.requires.there) a.0 (omega (arith, a.0, a.1))))

pub overflow_mul-face-in-Hex8 : goal.overflow_mul-face-in-Hex8
overflow_mul-face-in-Hex8 c =
    omega (arith, of_rings c.args.face (hex_is _ c.args.words.now (ap kind_number c.in-Hex8.is) c.requires.well).1 c.requires.there)

pub overflow_mul-face-in-Hex8-2 : goal.overflow_mul-face-in-Hex8-2
overflow_mul-face-in-Hex8-2 c =
    omega (arith, of_rings c.args.face (hex_is _ c.args.words.now (ap kind_number c.in-Hex8.is) c.requires.well).1 c.requires.there)

pub overflow_add-face-in-Hex8 : goal.overflow_add-face-in-Hex8
overflow_add-face-in-Hex8 c =
    omega (arith, of_rings c.args.face (hex_is _ c.args.words.now (ap kind_number c.in-Hex8.is) c.requires.well).1 c.requires.there)

pub returns-in-Hex8 : goal.returns-in-Hex8
returns-in-Hex8 c =
    let k = ap kind_number c.in-Hex8.is in
    let e = (hex_is _ c.args.words.now k c.requires.well).1 in
    let a = c.flat-in-Hex8.ensures in
    flat_span _ c.args.words.now c.args.face _ c.requires.well (λ z. omega (arith, z, k)) c.requires.there
    (span_of_rings e (hex_span c.args.words.now c.args.face _ (of_rings c.args.face e c.requires.there) a.0 (omega (arith, a.0, a.1))))

pub returns-in-Wedge6 : goal.returns-in-Wedge6
returns-in-Wedge6 c =
    let k = ap kind_number c.in-Wedge6.is in
    let e = (wedge_is _ c.args.words.now k c.requires.well).1 in
    let a = c.flat-in-Wedge6.ensures in
    flat_span _ c.args.words.now c.args.face _ c.requires.well (λ z. omega (arith, z, k)) c.requires.there
    (span_of_rings e (wedge_three c.args.words.now c.args.face _ c.if-face-lt2.true a.0 (omega (arith, a.0, a.1))))

pub overflow_mul-face-in-Wedge6-2-2 : goal.overflow_mul-face-in-Wedge6-2-2
overflow_mul-face-in-Wedge6-2-2 c =
    omega (arith, of_rings c.args.face (wedge_is _ c.args.words.now (ap kind_number c.in-Wedge6-2.is) c.requires.well).1 c.requires.there)

pub overflow_mul-face-in-Wedge6-2-3 : goal.overflow_mul-face-in-Wedge6-2-3
overflow_mul-face-in-Wedge6-2-3 c =
    omega (arith, of_rings c.args.face (wedge_is _ c.args.words.now (ap kind_number c.in-Wedge6-2.is) c.requires.well).1 c.requires.there)

pub overflow_add-face-in-Wedge6-2 : goal.overflow_add-face-in-Wedge6-2
overflow_add-face-in-Wedge6-2 c =
    omega (arith, of_rings c.args.face (wedge_is _ c.args.words.now (ap kind_number c.in-Wedge6-2.is) c.requires.well).1 c.requires.there)

pub returns-in-Wedge6-2 : goal.returns-in-Wedge6-2
returns-in-Wedge6-2 c =
    let k = ap kind_number c.in-Wedge6-2.is in
    let e = (wedge_is _ c.args.words.now k c.requires.well).1 in
    let a = c.flat-in-Wedge6-2.ensures in
    flat_span _ c.args.words.now c.args.face _ c.requires.well (λ z. omega (arith, z, k)) c.requires.there
    (span_of_rings e (wedge_four c.args.words.now c.args.face _ c.if-face-lt2.false (of_rings c.args.face e c.requires.there) a.0 (omega (arith, a.0, a.1))))

pub phed_span-requires : goal.phed_span-requires
phed_span-requires c = of_rings c.args.face (phed_is _ c.args.words.now (ap kind_number c.in-Phed.is)) c.requires.there

pub returns-in-Phed : goal.returns-in-Phed
returns-in-Phed c = phed_cell _ c.args.words.now c.args.face _ (phed_is _ c.args.words.now (ap kind_number c.in-Phed.is)) c.phed_span.ensures
