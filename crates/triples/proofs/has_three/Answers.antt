-- `triples::has_three` meets its contract. The laws are those of Three.
use native.Mathlib.Omega.{arith}
use mathlib.Core.Path.{refl}
use Rattle.triples.proofs.Three.{seen_lower, seen_higher, seen_third, seen_both, seen_all, seen_out}
use Rattle.triples.proofs.has_three.Goals as goal

pub returns-then-b-m : goal.returns-then-b-m
returns-then-b-m c =
    let a = c.args in
    let o = c.loop-i in
    seen_out a.a.now a.b.now o.n o.i o.m o.invariant c.if-b-m.true

pub loop-i-preserved-then-x-y : goal.loop-i-preserved-then-x-y
loop-i-preserved-then-x-y c =
    let a = c.args in
    let o = c.loop-i in
    seen_lower a.a.now a.b.now c.requires.0 c.requires.1 o.n o.i o.m _ _ o.invariant c.loop-i-test.true c.if-b-m.false refl refl c.if-x-y.true

pub loop-i-preserved-then-y-x : goal.loop-i-preserved-then-y-x
loop-i-preserved-then-y-x c =
    let a = c.args in
    let o = c.loop-i in
    seen_higher a.a.now a.b.now c.requires.0 c.requires.1 o.n o.i o.m _ _ o.invariant c.loop-i-test.true c.if-b-m.false refl refl c.if-y-x.true

pub returns-then-n-eq2 : goal.returns-then-n-eq2
returns-then-n-eq2 c =
    let a = c.args in
    let o = c.loop-i in
    seen_third a.a.now a.b.now c.requires.0 c.requires.1 o.n o.i o.m _ _ o.invariant c.loop-i-test.true c.if-b-m.false refl refl (omega arith) (omega arith)

pub loop-i-preserved : goal.loop-i-preserved
loop-i-preserved c =
    let a = c.args in
    let o = c.loop-i in
    seen_both a.a.now a.b.now c.requires.0 c.requires.1 o.n o.i o.m _ _ o.invariant c.loop-i-test.true c.if-b-m.false refl refl (omega arith) (omega (arith, o.invariant.few))

pub returns : goal.returns
returns c =
    let a = c.args in
    let o = c.loop-i in
    seen_all a.a.now a.b.now o.n o.i o.m o.invariant c.loop-i-test.false
