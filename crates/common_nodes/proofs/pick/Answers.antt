-- `common_nodes::pick` meets its contract.
use Prim.Native.Nat.{ℕ, ◌+◌}
use mathlib.Core.Path.{◌≡◌, refl, sym, ap, ◌∙◌}
use native.Mathlib.Omega.{arith}
use lib.ListN.{get_or, take}
use Rattle.arrayvec.specs.ArrayVec.{ArrayVec}
use Rattle.laws.specs.Lists.{elem}
use Rattle.seek.specs.Candidates.{common}
use Rattle.common_nodes.proofs.Picking.{picked_start, room, picked_in, picked_out}
use Rattle.common_nodes.proofs.pick.Goals.{then-has, else-has}
use Rattle.common_nodes.proofs.pick.Goals as goal

pub loop-v-init : goal.loop-v-init
loop-v-init c = c.requires.1 ∙ sym (picked_start c.args.others.now)

pub push-requires : goal.push-requires
push-requires c =
    let a = c.args in
    let l = c.loop-v in
    (omega arith, room a.words.now a.others.now l.own.items l.v-index _ l.invariant c.loop-v-test.true refl c.requires.0)

pub loop-v-preserved : goal.loop-v-preserved
loop-v-preserved c =
    let a = c.args in
    let l = c.loop-v in
    let A = a.words.now in
    let B = a.others.now in
    let v = get_or A l.v-index 0 in
    let e : elem v B ≡ c.has.result = sym c.has.ensures in
    let next : c.if-has.own.items ≡ common (take (l.v-index + 1) A) B = elim c.if-has.branch [
      | then-has w ↦ ap (λ (o : ArrayVec ℕ). o.items) w.own-is ∙ w.push.ensures.items ∙ picked_in A B l.own.items l.v-index v l.invariant c.loop-v-test.true refl (e ∙ w.if-has.true)
      | else-has w ↦ ap (λ (o : ArrayVec ℕ). o.items) w.own-is ∙ picked_out A B l.own.items l.v-index v l.invariant c.loop-v-test.true refl (e ∙ w.if-has.false)
    ] in
    next
