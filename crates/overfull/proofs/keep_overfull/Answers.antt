-- `overfull::keep_overfull` meets its contract. The loop's invariant: the findings of the faces passed are kept.
use Prim.Native.Nat.{ℕ, ◌+◌, ◌-◌}
use mathlib.Core.Path.{◌≡◌, sym, ap, ◌∙◌}
use native.Mathlib.Omega.{arith}
use Rattle.std.specs.declared.ops.Range.{Range}
use Rattle.laws.specs.Lists.{each, up_from}
use Rattle.index.specs.Faces.{input}
use Rattle.layout.specs.Tables.{first_of}
use Rattle.layout.specs.ByCell.{over_face, over_cell}
use Rattle.overfull.proofs.Keeping.{none_kept, grown_kept, kept_as}
use Rattle.overfull.proofs.keep_overfull.Goals as goal

pub loop-g-init : goal.loop-g-init
loop-g-init c =
    let a = c.args in
    let l = a.cx.now.layout in
    let f = over_face l (input l.at a.work.now) in
    let b = c.faces-g-items.ensures in
    let same = c.into_iter-g-iterator.ensures.into_iter_gives in
    let s = first_of l (input l.at a.work.now) a.c in
    let from : c.into_iter-g-iterator.result.start ≡ s = ap (λ (r : Range ℕ). r.start) same ∙ b.0 in
    let end : c.into_iter-g-iterator.result.end ≡ first_of l (input l.at a.work.now) (a.c + 1) = ap (λ (r : Range ℕ). r.end) same ∙ b.1 in
    let up = c.requires.standing.faced.first_rising a.c c.requires.c_bound.0 in
    let z : c.into_iter-g-iterator.result.start - s ≡ 0 = omega (arith, from) in record {
      from = omega (arith, from);
      end = end;
      order = omega (arith, from, end, up);
      few = omega arith;
      kept = none_kept a.cx.now.coords.now (each f (up_from s (c.into_iter-g-iterator.result.start - s))) a.sink.now (ap (λ (k : ℕ). each f (up_from s k)) z);
    }

pub keep_face-requires : goal.keep_face-requires
keep_face-requires c =
    let r = c.requires in
    let v = c.loop-g.invariant in
    let n = c.in-Some.ensures.steps in
    record {
      standing = r.standing;
      face_of = (record { cell = r.c_bound.0; from = omega (arith, n, v.from); before = omega (arith, n, v.end) }, r.c_bound.1);
      few = omega (arith, n, v, c.faces-g-items.ensures, r.standing.spaced.few_faces);
    }

pub loop-g-preserved : goal.loop-g-preserved
loop-g-preserved c =
    let a = c.args in
    let l = a.cx.now.layout in
    let f = over_face l (input l.at a.work.now) in
    let s = first_of l (input l.at a.work.now) a.c in
    let g = c.loop-g.g-iterator.start in
    let v = c.loop-g.invariant in
    let n = c.in-Some.ensures.steps in
    let k = c.keep_face.ensures in
    record {
      from = omega (arith, n, v.from);
      end = n.0 ∙ v.end;
      order = omega (arith, n);
      few = omega (arith, n, k.upper_bound, v.few, v.from);
      kept =
          kept_as a.cx.now.coords.now (ap (λ (i : ℕ). each f (up_from s (i - s))) (sym n.1.2))
          (grown_kept a.cx.now.coords.now f s g a.sink.now c.loop-g.sink _ v.from v.kept (kept_as a.cx.now.coords.now (ap f n.1.1) k.kept_any));
    }

pub returns : goal.returns
unfolding over_cell
returns c =
    let a = c.args in
    let l = a.cx.now.layout in
    let t = input l.at a.work.now in
    let s = first_of l t a.c in
    let v = c.loop-g.invariant in
    let n = c.in-None.ensures.steps in
    let z : c.loop-g.g-iterator.start - s ≡ first_of l t (a.c + 1) - s = omega (arith, n, v.order, v.end) in
    record {
      kept_any = kept_as a.cx.now.coords.now (ap (λ (i : ℕ). each (over_face l t) (up_from s i)) z) v.kept;
      upper_bound = omega (arith, z, v.few, c.faces-g-items.ensures, c.requires.standing.spaced.few_faces);
    }
