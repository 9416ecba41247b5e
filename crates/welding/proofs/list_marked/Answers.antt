-- As many of the marked nodes are listed as turns were taken; the marks lie behind the list.
use Prim.Native.Nat.{ℕ, ◌+◌}
use mathlib.Core.Path.{◌≡◌, sym, ap, ◌∙◌}
use mathlib.Core.Bool.{true, false, not}
use native.Mathlib.Omega.{arith}
use borrow.Author.Tests.{eq-eqb, ne_eqb}
use lib.Dec.{eqb}
use lib.ListN.{length, get_or, set}
use lib.Seq.{sets}
use Rattle.laws.specs.Lists.{keep, up_from}
use Rattle.snap.specs.Steps.{marked}
use Rattle.welding.proofs.Naming.{list_more, list_less, mark_read}
use Rattle.welding.proofs.list_marked.Goals as goal

pub loop-i-preserved-then-work-k-eq0 : goal.loop-i-preserved-then-work-k-eq0
loop-i-preserved-then-work-k-eq0 c =
    let l = c.loop-i in
    let a = c.args in
    let w = a.work.now in
    let read = mark_read w l.work (keep (marked a.k w) (up_from 0 l.i)) a.k l.i l.invariant.1 (omega arith) in
    let is : marked a.k w l.i ≡ false = ap (λ (v : ℕ). not (eqb v 0)) (sym read) ∙ ap not (eq-eqb (get_or l.work (a.k + l.i) 0) 0 c.if-work-k-eq0.true) in
    let less = list_less (marked a.k w) l.i is in
    (l.invariant.0 ∙ ap length (sym less), l.invariant.1 ∙ ap (sets w 0) (sym less), omega arith)

pub loop-i-preserved : goal.loop-i-preserved
loop-i-preserved c =
    let l = c.loop-i in
    let a = c.args in
    let w = a.work.now in
    let read = mark_read w l.work (keep (marked a.k w) (up_from 0 l.i)) a.k l.i l.invariant.1 (omega arith) in
    let is : marked a.k w l.i ≡ true = ap (λ (v : ℕ). not (eqb v 0)) (sym read) ∙ ap not (ne_eqb (get_or l.work (a.k + l.i) 0) 0 c.if-work-k-eq0.false) in
    let more = list_more (marked a.k w) w l.work l.i l.invariant.1 is in (
      ap (λ (k : ℕ). k + 1) l.invariant.0 ∙ more.0,
      ap (λ (k : ℕ). set l.work k l.i) l.invariant.0 ∙ more.1,
      omega arith,
    )

pub returns : goal.returns
returns c =
    let l = c.loop-i in
    let a = c.args in
    let e : l.i ≡ a.n = omega arith in (
      l.invariant.0 ∙ ap (λ (k : ℕ). length (keep (marked a.k a.work.now) (up_from 0 k))) e,
      l.invariant.1 ∙ ap (λ (k : ℕ). sets a.work.now 0 (keep (marked a.k a.work.now) (up_from 0 k))) e,
    )
