-- `overfull::rarest` meets its contract: whichever word is answered is one of the set.
use Prim.Native.Nat.{ℕ, ◌<◌}
use mathlib.Core.Path.{◌≡◌, ap, ◌∙◌}
use mathlib.Core.Bool.{true}
use native.Mathlib.Omega.{arith}
use lib.ListN.{length}
use Rattle.laws.specs.Lists.{elem}
use Rattle.index.specs.Read.{set_of}
use Rattle.overfull.proofs.Nodes.{member_low, word_member, later_member}
use Rattle.overfull.proofs.rarest.Goals.{then-m-least, else-m-least}
use Rattle.overfull.proofs.rarest.Goals as goal

pub list_length-least-requires : goal.list_length-least-requires
list_length-least-requires c =
    let a = c.args in
    let i = a.ix.now in
    let k = c.set-keys in
    let n : 0 < length k.result.now = omega (arith, ap length k.ensures, c.requires.1) in
    member_low i.at i.base.now i.indexed a.g c.requires.0 _ (word_member i.at i.base.now i.indexed a.g c.requires.0 k.result.now k.ensures 0 n)

pub loop-u-init : goal.loop-u-init
loop-u-init c =
    let a = c.args in
    let i = a.ix.now in
    let k = c.set-keys in
    let n : 0 < length k.result.now = omega (arith, ap length k.ensures, c.requires.1) in
    word_member i.at i.base.now i.indexed a.g c.requires.0 k.result.now k.ensures 0 n

pub list_length-m-requires : goal.list_length-m-requires
list_length-m-requires c =
    let a = c.args in
    let i = a.ix.now in
    let k = c.set-keys in
    member_low i.at i.base.now i.indexed a.g c.requires.0 _ (later_member i.at i.base.now i.indexed a.g c.requires.0 k.result.now k.ensures c.loop-u.u-index c.loop-u-test.true)

pub loop-u-preserved : goal.loop-u-preserved
loop-u-preserved c =
    let a = c.args in
    let i = a.ix.now in
    let k = c.set-keys in
    let l = c.loop-u in
    let now : elem c.if-m-least.v (set_of i a.g) ≡ true = elim c.if-m-least.branch [
      | then-m-least w ↦ ap (λ (x : ℕ). elem x (set_of i a.g)) w.v-is ∙ later_member i.at i.base.now i.indexed a.g c.requires.0 k.result.now k.ensures l.u-index c.loop-u-test.true
      | else-m-least w ↦ ap (λ (x : ℕ). elem x (set_of i a.g)) w.v-is ∙ l.invariant
    ] in
    now
