-- `overfull::keep_face` meets its contract: the count settles whether there is a finding, and the record has its fields (Found).
use Prim.Native.Nat.{ℕ, ◌≤◌}
use mathlib.Core.Path.{refl, sym, ap, ◌∙◌, subst}
use mathlib.Core.List.{List}
use native.Mathlib.Omega.{arith}
use lib.ListN.{length}
use Rattle.geometry.specs.Points.{points_of, centre_of}
use Rattle.geometry.specs.Steps.{InNodes}
use Rattle.index.specs.Faces.{input}
use Rattle.layout.specs.ByCell.{over_face}
use Rattle.overfull.proofs.Found.{over_few, over_none, over_many, face_in}
use Rattle.overfull.proofs.Keeping.{none_kept, many_kept}
use Rattle.overfull.proofs.Keys.{key_short, key_nodes}
use Rattle.overfull.proofs.keep_face.Goals as goal

pub count_alike-s-requires : goal.count_alike-s-requires
count_alike-s-requires c =
    let l = c.args.cx.now.layout in
    let r = c.requires in
    record { standing = r.standing; g_lt_faces = (face_in l c.args.work.now r.standing.faced c.args.c c.args.g r.face_of.0, r.face_of.1) }

pub returns-in_default-clause-kept_any : goal.returns-in_default-clause-kept_any
returns-in_default-clause-kept_any c =
    let a = c.args in
    let l = a.cx.now.layout in
    let f = c.requires.standing.faced in
    let s = c.count_alike-s in
    let h = face_in l a.work.now f a.c a.g c.requires.face_of.0 in
    none_kept a.cx.now.coords.now (over_face l (input l.at a.work.now) a.g) a.sink.now (over_none l (input l.at a.work.now) f a.g h s.result s.ensures c.in_default.is)

pub returns-then-s-lt3-clause-kept_any : goal.returns-then-s-lt3-clause-kept_any
returns-then-s-lt3-clause-kept_any c =
    let a = c.args in
    let l = a.cx.now.layout in
    let f = c.requires.standing.faced in
    let s = c.count_alike-s in
    let h = face_in l a.work.now f a.c a.g c.requires.face_of.0 in
    none_kept a.cx.now.coords.now (over_face l (input l.at a.work.now) a.g) a.sink.now (over_few l (input l.at a.work.now) f a.g h s.result s.ensures (omega (arith, c.if-s-lt3.true)))

pub cell_of-requires : goal.cell_of-requires
cell_of-requires c =
    let a = c.args in
    let l = a.cx.now.layout in
    let f = c.requires.standing.faced in
    let s = c.count_alike-s in
    let h = face_in l a.work.now f a.c a.g c.requires.face_of.0 in
    (over_many l (input l.at a.work.now) f a.g h s.result s.ensures c.in-Some.second c.in-Some.is (omega (arith, c.if-s-lt3.false))).low

pub overflow_cast-r-3 : goal.overflow_cast-r-3
overflow_cast-r-3 c =
    let a = c.args in
    let s = c.requires.standing in
    omega (arith, face_in a.cx.now.layout a.work.now s.faced a.c a.g c.requires.face_of.0, s.spaced.few_faces)

pub overflow_cast-r-4 : goal.overflow_cast-r-4
overflow_cast-r-4 c =
    let a = c.args in
    let l = a.cx.now.layout in
    let f = c.requires.standing.faced in
    let s = c.count_alike-s in
    let h = face_in l a.work.now f a.c a.g c.requires.face_of.0 in
    let m = over_many l (input l.at a.work.now) f a.g h s.result s.ensures c.in-Some.second c.in-Some.is (omega (arith, c.if-s-lt3.false)) in
    omega (arith, m.few, c.requires.standing.spaced.few_faces)

pub key-requires : goal.key-requires
key-requires c = face_in c.args.cx.now.layout c.args.work.now c.requires.standing.faced c.args.c c.args.g c.requires.face_of.0

pub key_centroid-requires : goal.key_centroid-requires
key_centroid-requires c =
    let a = c.args in
    let l = a.cx.now.layout in
    let f = c.requires.standing.faced in
    let h = face_in l a.work.now f a.c a.g c.requires.face_of.0 in
    let m = key_short l a.work.now f a.g h in
    subst (λ (ks : List ℕ). InNodes a.cx.now.coords.now ks × (length ks ≤ 9007199254740992)) (sym c.key.ensures)
    (key_nodes l a.work.now f a.g h a.cx.now.coords.now a.cx.now.fits, omega (arith, m))

pub returns : goal.returns
returns c =
    let a = c.args in
    let l = a.cx.now.layout in
    let r = c.requires in
    let f = r.standing.faced in
    let t = input l.at a.work.now in
    let o = r.face_of.0 in
    let h = face_in l a.work.now f a.c a.g o in
    let s = c.count_alike-s in
    let y = c.in-Some.second in
    let m = over_many l t f a.g h s.result s.ensures y c.in-Some.is (omega (arith, c.if-s-lt3.false)) in
    let k = many_kept a.cx.now.coords.now l t a.g y s.result.count m
    (record { kind = 2; first = a.c; second = c.cell_of.result; a = a.g; b = 0; count = s.result.count })
    c.key_centroid.result a.sink.now c.keep.new.self refl
    (sym (f.owned a.c a.g o.cell o.from o.before))
    c.cell_of.ensures.0 refl refl refl
    (c.key_centroid.ensures ∙ ap (λ (ks : List ℕ). centre_of (points_of a.cx.now.coords.now ks)) c.key.ensures)
    c.keep.ensures in
    record { kept_any = k.0; upper_bound = k.1 }
