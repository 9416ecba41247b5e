-- `repeated_nodes::keep_pairs` meets its contract. The invariant: with the findings of the pairs left all are kept.
use mathlib.Core.Path.{◌≡◌, sym, ap, ◌∙◌}
use native.Mathlib.Omega.{arith}
use lib.ListN.{length}
use lib.Ieee.{nan}
use Rattle.std.specs.Slice.Iter.{chunks_exact_rest, chunks_exact_size}
use Rattle.geometry.specs.Coordinates.{node_count}
use Rattle.repeated_nodes.proofs.Listed.{first_pair, kept_next, kept_all}
use Rattle.repeated_nodes.proofs.keep_pairs.Goals as goal

pub loop-pair-init : goal.loop-pair-init
loop-pair-init c =
    let a = c.args in
    let k = c.chunks_exact-pair-items.ensures in
    let same = c.into_iter-pair-iterator.ensures.into_iter_gives in
    let all : chunks_exact_rest c.into_iter-pair-iterator.result ≡ a.pairs.now = ap chunks_exact_rest same ∙ k.rest in
    record {
      two = ap chunks_exact_size same ∙ k.size;
      below = rw all c.requires.c_bound.1;
      few = omega (arith, ap length all, c.requires.few);
      keeps_on = λ v p tol. rw (sym all) (p tol);
    }

pub keep_nodes-requires : goal.keep_nodes-requires
keep_nodes-requires c =
    let v = c.loop-pair.invariant in
    let n = c.in-Some.ensures.steps.1 in
    let f = first_pair (node_count c.args.coords.now) _ c.in-Some.pair.now _ n.0 (n.1 ∙ v.two) v.below in
    record { c_bound = (c.requires.c_bound.0, f.low.0, f.low.1); few = omega (arith, f.long, v.few) }

pub loop-pair-preserved : goal.loop-pair-preserved
loop-pair-preserved c =
    let a = c.args in
    let v = c.loop-pair.invariant in
    let n = c.in-Some.ensures.steps.1 in
    let f = first_pair (node_count a.coords.now) _ c.in-Some.pair.now _ n.0 (n.1 ∙ v.two) v.below in
    let k = c.keep_nodes.ensures in
    record {
      two = c.in-Some.ensures.steps.0 ∙ v.two;
      below = f.below;
      few = omega (arith, f.long, v.few, (k nan).count);
      keeps_on = kept_next a.coords.now a.c a.pairs.now a.sink.now (node_count a.coords.now) _ c.in-Some.pair.now _ c.loop-pair.sink _ f v.keeps_on k;
    }

pub returns : goal.returns
returns c =
    let a = c.args in
    let v = c.loop-pair.invariant in
    kept_all a.coords.now a.c a.pairs.now a.sink.now (chunks_exact_rest c.loop-pair.pair-iterator) c.loop-pair.sink (omega (arith, c.in-None.ensures.steps.1.0, v.two)) v.keeps_on
