-- What is left to be settled, of the marks at entry and put at i, is the whole. From i on nothing has changed.
use Prim.Native.Nat.{◌+◌}
use mathlib.Core.Path.{◌≡◌, refl, ap, ◌∙◌}
use native.Mathlib.Omega.{arith}
use mathlib.Core.List.{[]}
use lib.ListN.{get_or, drop, drop_of_length-le}
use lib.Seq.{drop-set-lt}
use Rattle.laws.proofs.Stores.{sets_all}
use Rattle.sorting.proofs.RowLaws.{drop_later}
use Rattle.snap.specs.Steps.{number_of, numbers}
use Rattle.snap.proofs.Parts.{read_from}
use Rattle.snap.proofs.Marks.{settle_step, length_numbers}
use Rattle.snap.proofs.settle.Goals as goal

pub loop-i-init : goal.loop-i-init
loop-i-init c = (refl, sets_all c.args.marks.now (numbers 0 c.args.marks.now) (length_numbers 0 c.args.marks.now))

pub loop-i-preserved : goal.loop-i-preserved
loop-i-preserved c =
    let l = c.args.marks.now in
    let i = c.loop-i.i in
    let x = c.number_of.result in
    let same : get_or c.loop-i.marks i 0 ≡ get_or l i 0 = read_from i i c.loop-i.marks l c.loop-i.invariant.0 (omega arith) in
    let value : x ≡ number_of i (get_or l i 0) = c.number_of.ensures ∙ ap (number_of i) same in (
      drop-set-lt (i + 1) c.loop-i.marks i x (omega arith) ∙ drop_later i (i + 1) c.loop-i.marks l c.loop-i.invariant.0 (omega arith),
      rw value (settle_step c.loop-i.marks l i (omega arith) ∙ c.loop-i.invariant.1),
    )

pub returns : goal.returns
returns c =
    let l = c.args.marks.now in
    let none : drop c.loop-i.i l ≡ [] = drop_of_length-le l {i = c.loop-i.i} (omega arith) in
    rw none at c.loop-i.invariant.1
