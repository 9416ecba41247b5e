-- `repeated_nodes::keep_repeated` meets its contract: the pairs listed are those of the cell, and each one's finding is kept.
use Prim.Native.Nat.{ℕ, ◌+◌, ◌-◌, ◌*◌}
use mathlib.Core.Path.{subst}
use native.Mathlib.Omega.{arith}
use lib.ListN.{drop, length-take}
use Rattle.laws.specs.Merging.{region, AllBelow}
use Rattle.pair_sort.specs.Pairs.{pairs_in}
use Rattle.repeated_nodes.proofs.Listed.{pairs_counted}
use Rattle.repeated_nodes.proofs.Scratch.{ready, pairs_below, pairs_many, pairs_found, still_listed}
use Rattle.repeated_nodes.proofs.keep_repeated.Goals as goal

pub list_repeats-m-requires : goal.list_repeats-m-requires
list_repeats-m-requires c =
    ready c.args.cx.now.layout c.args.work.now c.args.words.now c.requires.standing c.requires.c_bound.1 c.requires.c_bound.2

pub keep_pairs-requires : goal.keep_pairs-requires
keep_pairs-requires c =
    let l = c.args.cx.now.layout in
    let p = c.requires.c_bound in
    let s = c.requires.standing in
    let v = c.list_repeats-m.new.work in
    let m = c.list_repeats-m.result in
    let e = c.list_repeats-m.ensures in
    record {
      c_bound = (omega (arith, p.0, s.spaced.few_cells), subst (λ (k : ℕ). AllBelow k (region l.pairs (l.pairs + 2 * m - l.pairs) v)) c.args.cx.now.fits (pairs_below l c.args.work.now c.args.words.now s p.1 p.2 v m e));
      few = omega (arith, length-take (l.pairs + 2 * m - l.pairs) (drop l.pairs v), p.1, s.spaced.few, e.few);
    }

pub returns : goal.returns
returns c =
    let a = c.args in
    let l = a.cx.now.layout in
    let p = c.requires.c_bound in
    let s = c.requires.standing in
    let v = c.list_repeats-m.new.work in
    let m = c.list_repeats-m.result in
    let e = c.list_repeats-m.ensures in
    let found = pairs_found l a.work.now a.words.now s p.1 p.2 v m e a.c in
    let n = pairs_counted a.cx.now.coords.now a.c (pairs_in (region l.pairs (l.pairs + 2 * m - l.pairs) v)) a.sink.now c.keep_pairs.new.sink c.keep_pairs.ensures in
    record {
      kept_any = λ tol. rw found at (c.keep_pairs.ensures tol);
      upper_bound = (
        omega (arith, n, pairs_many l a.work.now a.words.now s p.1 p.2 v m e, e.few, p.1, s.spaced.few),
        still_listed l a.work.now a.words.now s p.1 p.2 v m e,
      );
    }
