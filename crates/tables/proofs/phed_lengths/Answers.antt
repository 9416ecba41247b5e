use Prim.Native.Nat.{ℕ}
use mathlib.Core.List.{List, [], ◌∷◌, map}
use mathlib.Core.Path.{refl, ap, ◌∙◌}
use native.Mathlib.Omega.{arith}
use lib.ListN.{length, length-append}
use Rattle.laws.specs.Lists.{each}
use Rattle.mesh.specs.Rings.{phed_rings}
use Rattle.mesh.specs.Steps.{ring_total}
use Rattle.mesh.specs.PhedRest.{phed_rest}
use Rattle.mesh.proofs.RunTallies.{phed_few}
use Rattle.rings.proofs.Putting.{putting_start, putting_next}
use Rattle.tables.proofs.phed_lengths.Goals as goal

pub loop-ring-init : goal.loop-ring-init
loop-ring-init c =
    let a = c.args in
    let e = ap phed_rest c.into_iter-ring-iterator.ensures.into_iter_gives ∙ ap phed_rings c.new-ring-items.ensures in
    (putting_start a.work.now a.at _ _ (ap (λ (r : List (List ℕ)). map length r) e), omega (arith, phed_few a.cell.now.words.now, ap ring_total e))

pub overflow_cast-work : goal.overflow_cast-work
overflow_cast-work c =
    let n = ap ring_total c.in-Some.ensures.steps ∙ length-append c.in-Some.ring.now (each (λ (r : List ℕ). r) (phed_rest c.next.new.self)) in
    omega (arith, n, c.loop-ring.invariant.1, c.args.cell.now.small)

pub loop-ring-preserved : goal.loop-ring-preserved
loop-ring-preserved c =
    let l = c.loop-ring in
    let ring = c.in-Some.ring.now in
    let is = c.in-Some.ensures.steps in
    let n = ap ring_total is ∙ length-append ring (each (λ (r : List ℕ). r) (phed_rest c.next.new.self)) in (
      putting_next l.invariant.0 (length ring ∷ []) (map length (phed_rest c.next.new.self)) (ap (λ (r : List (List ℕ)). map length r) is) _ _ (refl, refl),
      omega (arith, n, l.invariant.1),
    )
