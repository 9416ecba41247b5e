-- What `any` of the library answers over the range, as our `any`.
use Prim.Native.Nat.{◌-◌}
use mathlib.Core.Path.{◌≡◌, refl, ◌∙◌}
use native.Mathlib.Omega.{arith}
use borrow.Author.Tests.{le-ltb}
use lib.ListN.{length}
use Rattle.std.proofs.Common.{rules, tests}
use Rattle.std.proofs.lemmas.Iterator.{YieldsList-from_range}
use Rattle.std.proofs.lemmas.Iterator.Search.{any_from_yields_List}
use Rattle.geometry.specs.Points.{points_of}
use Rattle.geometry.proofs.Listed.{points_length}
use Rattle.bow_tie.specs.BowTie.{later_meets, bow_tie_of}
use Rattle.bow_tie.proofs.Sought.{any_in_range}
use Rattle.bow_tie.proofs.face_self_intersects.Goals as goal

pub returns : goal.returns
unfolding bow_tie_of
returns c =
    let ps = points_of c.args.coords.now c.args.ring.now in
    let all : length c.args.ring.now - 0 ≡ length c.args.ring.now = omega arith in
    let test = later_meets c.margin-eps.result ps in
    any_from_yields_List test _ _ _ c.any.ensures.ran (YieldsList-from_range 0 _ _ refl refl) (λ x b q k. search (rules, tests))
    ∙ any_in_range test 0 _
    ∙ rw (c.margin-eps.ensures, c.scale.ensures, points_length c.args.coords.now c.args.ring.now, le-ltb (length c.args.ring.now) 4 c.if-ring-lt4.false, all)
