use Prim.Native.Nat.{◌-◌}
use native.Mathlib.Omega.{arith}
use lib.ListN.{length}
use mathlib.Core.Path.{sym, ap, ◌∙◌}
use lib.Dec.{leb}
use Rattle.laws.specs.Lists.{sort, eql}
use Rattle.laws.proofs.Sorting.{length-sort}
use Rattle.owners.proofs.Keys.{pointwise_eql, eql-length, other_words}
use Rattle.owners.proofs.same_ring.Goals as goal

pub returns-then-key-ring : goal.returns-then-key-ring
returns-then-key-ring c =
    let a = c.args in
    sym (eql-length a.key.now (sort leb a.ring.now) (λ e. c.if-key-ring.true (e ∙ length-sort leb a.ring.now)))

pub returns : goal.returns
returns c = c.eq.ensures ∙ pointwise_eql c.args.key.now c.sorted.result.now ∙ ap (eql c.args.key.now) c.sorted.ensures

pub returns-then-not-contains : goal.returns-then-not-contains
returns-then-not-contains c =
    let r = c.args.ring.now in
    let e = c.in-Some.ensures.item in
    other_words c.args.key.now r (length r - 1) c.in-Some.last.now (omega (arith, e.3.0)) (e.3.1 0) (sym c.contains.ensures.value ∙ c.if-not-contains.true)
