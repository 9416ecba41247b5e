-- `partially_shared::keep_sorted` meets its contract.
use Prim.Native.Nat.{ℕ, ◌+◌, ◌-◌, ◌*◌}
use mathlib.Core.Path.{◌≡◌, ◌∙◌, subst}
use native.Mathlib.Omega.{arith}
use lib.ListN.{get_or}
use Rattle.laws.specs.Lists.{each, up_from}
use Rattle.index.specs.Faces.{input}
use Rattle.layout.specs.ByCell.{plain_rules}
use Rattle.records.specs.Keeping.{Kept}
use Rattle.partially_shared.specs.Hits.{mark_tells, MarkFits}
use Rattle.partially_shared.proofs.Cleared.{telling_start}
use Rattle.partially_shared.proofs.InOrder.{visiting_start, listed_is, listed_low, visiting_pass, visiting_next, visiting_end}
use Rattle.partially_shared.proofs.keep_sorted.Goals as goal

pub loop-i-init : goal.loop-i-init
loop-i-init c =
    let a = c.args in
    let q = c.requires.c_bound in
    visiting_start a.cx.now.coords.now a.cx.now.layout a.work.now a.c a.count a.sink.now q.3 q.4 (telling_start a.cx.now.coords.now a.cx.now.layout a.work.now a.c 0 a.sink.now c.requires.searching)

pub keep_marked-requires : goal.keep_marked-requires
keep_marked-requires c =
    let a = c.args in
    let q = c.requires.c_bound in
    let o = c.loop-i in
    let b = get_or o.work (a.cx.now.layout.pairs + 2 * o.i) 0 in
    let v = o.invariant in
    let is = listed_is a.cx.now.coords.now a.cx.now.layout a.work.now a.c a.count a.sink.now o.work o.sink o.next o.i v in
    let low = listed_low a.cx.now.coords.now a.cx.now.layout a.work.now a.c a.count a.sink.now o.work o.sink o.next o.i v b (omega arith) is in
    let same = v.telling.clearing.same b low (omega arith) in
    let fits : MarkFits a.cx.now.layout o.work b = λ z. let x = q.2 b low (λ e. z (same.0 ∙ e)) in (omega (arith, x.0, same.0), omega (arith, x.1, same.1)) in
    record { searching = v.telling.search; c_bound = (q.0, low, fits); few = omega (arith, v.telling.few, v.most, c.requires.searching.spaced.few_cells) }

pub loop-i-preserved : goal.loop-i-preserved
loop-i-preserved c =
    let a = c.args in
    let o = c.loop-i in
    let y = c.keep_marked in
    let v = o.invariant in
    let is = listed_is a.cx.now.coords.now a.cx.now.layout a.work.now a.c a.count a.sink.now o.work o.sink o.next o.i v in
    visiting_next a.cx.now.coords.now a.cx.now.layout a.work.now a.c a.count a.sink.now o.work o.sink o.next o.i v _ (omega arith) is y.new.work y.new.sink c.requires.searching (omega arith) y.ensures.kept_any y.ensures.work_after.0 y.ensures.work_after.1

pub loop-i-preserved-then-b-next : goal.loop-i-preserved-then-b-next
loop-i-preserved-then-b-next c =
    let a = c.args in
    let o = c.loop-i in
    let v = o.invariant in
    let is = listed_is a.cx.now.coords.now a.cx.now.layout a.work.now a.c a.count a.sink.now o.work o.sink o.next o.i v in
    visiting_pass a.cx.now.coords.now a.cx.now.layout a.work.now a.c a.count a.sink.now o.work o.sink o.next o.i v _ (omega arith) is (omega arith)

pub returns : goal.returns
returns c =
    let a = c.args in
    let w = a.work.now in
    let o = c.loop-i in
    let p = visiting_end a.cx.now.coords.now a.cx.now.layout w a.c a.count a.sink.now o.work o.sink o.next o.i o.invariant (omega arith) in
    let all : a.cx.now.layout.at.cell_count - 0 ≡ a.cx.now.layout.at.cell_count = omega arith in record {
      kept_any = λ tol. subst (λ (k : ℕ). Kept (plain_rules a.cx.now.coords.now tol) (each (mark_tells a.cx.now.layout (input a.cx.now.layout.at w) w a.c) (up_from 0 k)) a.sink.now o.sink) all (p.kept tol);
      cleared = (
        record { beside = p.clearing.beside; cleared = p.clearing.cleared; still = p.clearing.still },
        omega (arith, p.few, c.requires.searching.spaced.few_cells),
      );
    }
