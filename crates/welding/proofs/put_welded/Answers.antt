-- As many words as turns are there.
use Prim.Native.Nat.{ℕ, ◌≤◌}
use mathlib.Core.Path.{sym, ap, ◌∙◌}
use mathlib.Core.List.{map}
use native.Mathlib.Nat.{zero-add}
use native.Mathlib.Omega.{arith}
use lib.ListN.{length, get_or, set, length-map}
use lib.Seq.{sets, take_all}
use Rattle.laws.proofs.Bounds.{below_at}
use Rattle.laws.proofs.ListLaws.{get_or_any}
use Rattle.snap.specs.Weld.{welded_by}
use Rattle.welding.proofs.Through.{map_more}
use Rattle.welding.proofs.put_welded.Goals as goal

pub bounds-welds-word : goal.bounds-welds-word
bounds-welds-word c = below_at (length c.args.welds.now) c.args.words.now c.loop-i.i c.requires.1 (omega arith)

pub loop-i-preserved : goal.loop-i-preserved
loop-i-preserved c =
    let l = c.loop-i in
    let a = c.args in
    let k = get_or a.words.now l.i 0 in
    let v = get_or a.welds.now k 0 in
    let value = get_or_any a.welds.now k 0 k (below_at (length a.welds.now) a.words.now l.i c.requires.1 (omega arith)) in
    let more = map_more (welded_by a.welds.now) a.out.now l.out a.words.now 0 l.i v l.invariant (omega arith) value in
    ap (λ (k : ℕ). set l.out k v) (sym (zero-add l.i)) ∙ more

pub returns : goal.returns
returns c =
    let l = c.loop-i in
    let a = c.args in
    let f = welded_by a.welds.now in
    let h : length (map f a.words.now) ≤ l.i = omega (arith, length-map a.words.now f) in
    l.invariant ∙ ap (sets a.out.now 0) (take_all l.i (map f a.words.now) h)
