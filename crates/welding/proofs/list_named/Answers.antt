-- Cleared, marked and listed, on lists: Naming.
use mathlib.Core.Path.{refl, ap, ◌∙◌}
use mathlib.Core.List.{List}
use Prim.Native.Nat.{ℕ, ◌+◌}
use native.Mathlib.Omega.{arith}
use lib.ListN.{length, replicate}
use lib.Seq.{sets, length-sets}
use Rattle.laws.specs.Lists.{keep, up_from}
use Rattle.mesh.specs.Rings.{nodes_in}
use Rattle.snap.specs.Steps.{marked, put_all}
use Rattle.snap.proofs.Whole.{zeroed}
use Rattle.welding.proofs.Naming.{named_listed}
use Rattle.welding.proofs.list_named.Goals as goal

pub mark_named-requires : goal.mark_named-requires
mark_named-requires c =
    let a = c.args in
    let w = zeroed a.work.now (a.n + a.n) a.n a.n refl (omega (arith, c.requires.0)) (c.fill.ensures.after (λ y e. e)) in
    (omega (arith, c.requires.0, ap length w, length-sets a.work.now (a.n + a.n) (replicate a.n 0)), c.requires.2)

pub list_marked-requires : goal.list_marked-requires
list_marked-requires c =
    let a = c.args in
    let w = zeroed a.work.now (a.n + a.n) a.n a.n refl (omega (arith, c.requires.0)) (c.fill.ensures.after (λ y e. e)) in
    (omega arith, omega (arith, c.requires.0, ap length w, length-sets a.work.now (a.n + a.n) (replicate a.n 0), c.mark_named.auto.work), c.requires.1)

pub returns : goal.returns
returns c =
    let a = c.args in
    let L = c.list_marked in
    let marks = c.mark_named.ensures
    ∙ ap (put_all (a.n + a.n) 1 (nodes_in a.words.now)) (zeroed a.work.now (a.n + a.n) a.n a.n refl (omega (arith, c.requires.0)) (c.fill.ensures.after (λ y e. e))) in
    named_listed a.n (nodes_in a.words.now) a.work.now c.requires.0 c.requires.2 L.result _
    (L.ensures.0 ∙ ap (λ (w : List ℕ). length (keep (marked (a.n + a.n) w) (up_from 0 a.n))) marks)
    (L.ensures.1 ∙ ap (λ (w : List ℕ). sets w 0 (keep (marked (a.n + a.n) w) (up_from 0 a.n))) marks)
