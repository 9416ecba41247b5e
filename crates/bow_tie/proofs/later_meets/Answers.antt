-- What `any` of the library answers over the range, as our `any`.
use Prim.Native.Nat.{◌+◌}
use mathlib.Core.Path.{refl, ◌∙◌}
use Rattle.std.proofs.Common.{rules, tests}
use Rattle.std.proofs.lemmas.Iterator.{YieldsList-from_range}
use Rattle.std.proofs.lemmas.Iterator.Search.{any_from_yields_List}
use Rattle.geometry.specs.Nodes.{points_in}
use Rattle.geometry.proofs.Listed.{points_length}
use Rattle.bow_tie.specs.BowTie.{pair_meets, later_meets}
use Rattle.bow_tie.proofs.Sought.{any_in_range}
use Rattle.bow_tie.proofs.later_meets.Goals as goal

pub returns : goal.returns
unfolding later_meets
returns c =
    let ps = points_in c.args.ring.now in
    let test = pair_meets c.args.eps ps c.args.i in
    let from = c.args.i + 2 in
    any_from_yields_List test _ _ _ c.any.ensures.ran (YieldsList-from_range from _ _ refl refl) (λ x b q k. search (rules, tests))
    ∙ any_in_range test from _
    ∙ rw (points_length c.args.ring.now.coords.now c.args.ring.now.nodes.now)
