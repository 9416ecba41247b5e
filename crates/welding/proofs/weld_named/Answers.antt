-- With tolerance 0 each node's own number; else the named nodes, listed and welded.
use mathlib.Core.Path.{◌≡◌, refl, sym, subst}
use mathlib.Core.Bool.{true, false}
use Prim.Native.Nat.{◌+◌}
use native.Mathlib.Omega.{arith}
use lib.Ieee.{eq}
use Rattle.laws.specs.Lists.{up_from}
use Rattle.laws.specs.Merging.{AllBelow}
use Rattle.laws.proofs.ListLaws.{length-up_from}
use Rattle.laws.proofs.Members.{below-distinct}
use Rattle.floats.specs.Floats.{zero64}
use Rattle.floats.proofs.Constants.{zero_bits}
use Rattle.geometry.specs.Coordinates.{node_count}
use Rattle.mesh.specs.Rings.{nodes_in}
use Rattle.snap.proofs.Whole.{filled, unwelded}
use Rattle.welding.specs.Steps.{named_nodes}
use Rattle.welding.proofs.Naming.{all_nodes, named_welded}
use Rattle.welding.proofs.weld_named.Goals as goal

pub returns-then-model : goal.returns-then-model
returns-then-model c =
    let m = c.args.model.now in
    let w = c.args.work.now in
    let n = c.node_count-n.result in
    let e = c.node_count-n.ensures in
    let z : eq m.tolerance zero64 ≡ true = rw (← zero_bits) c.if-model.true in
    all_nodes m.coords.now m.tolerance n e (named_nodes m.words.now) w _
    (unwelded m.coords.now m.tolerance (named_nodes m.words.now) w _ (n + n) n (omega (arith, c.requires.0, e)) (filled w (n + n) n n refl (omega (arith, c.requires.0, e)) (up_from 0) (length-up_from 0 n) c.number.ensures) z)

pub invariant_of-space : goal.invariant_of-space
invariant_of-space c = record { sound = c.requires.2; few = omega (arith, c.requires.1) }

pub weld_in-requires : goal.weld_in-requires
weld_in-requires c =
    let m = c.args.model.now in
    let n = c.node_count-n.result in
    let e = c.node_count-n.ensures in
    let L = c.list_named-used in
    let z : eq m.tolerance zero64 ≡ false = rw (← zero_bits) c.if-model.false in (
      omega (arith, L.ensures.0),
      omega (arith, L.ensures.0),
      omega (arith, e, c.requires.0, L.auto.work),
      subst (AllBelow (node_count m.coords.now)) (sym L.ensures.1) (below-distinct (node_count m.coords.now) (nodes_in m.words.now) c.requires.3),
      z,
    )

pub returns : goal.returns
returns c =
    let m = c.args.model.now in
    let L = c.list_named-used in
    named_welded m.coords.now m.tolerance c.node_count-n.result c.node_count-n.ensures L.result (named_nodes m.words.now) c.args.work.now _ _ L.ensures.1 L.ensures.2 c.weld_in.ensures
