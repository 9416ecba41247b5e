-- The marks that are still to be taken away, taken from what stands here, are all of them taken away.
use Prim.Native.Nat.{ℕ, ◌+◌, ◌<◌}
use mathlib.Core.Path.{◌≡◌, sym, ap, ◌∙◌}
use mathlib.Core.List.{List, []}
use native.Mathlib.Omega.{arith}
use borrow.Author.Rules.{rules}
use lib.ListN.{length, get_or, set, drop, drop_of_length-le}
use lib.Seq.{take-set-le}
use Rattle.laws.proofs.Stores.{sets_self}
use Rattle.mesh.specs.Rings.{separator, nodes_in}
use Rattle.repeats.specs.declared.Regions.{Regions}
use Rattle.repeats.specs.Marks.{weld_in, place_of}
use Rattle.repeats.proofs.Rounds.{Head, nodes_skip, nodes_next, nodes_below, head_inside, head_read, head_numbered, turn_mark}
use Rattle.repeats.proofs.forget.Invariants.{Forgetting}
use Rattle.repeats.proofs.forget.Goals as goal
use Rattle.repeats.proofs.forget.Goals.{then-n, else-n}

-- a separator is skipped
skipped : (ws w₀ : List ℕ) (at : Regions) (w : List ℕ) (i : ℕ) → i < length ws → get_or ws i 0 ≡ separator → Forgetting ws w₀ at w i → Forgetting ws w₀ at w (i + 1)
skipped ws w₀ at w i h e v = let s = nodes_skip ws i h e in (v.0, rw s at v.1, rw s at v.2)

-- a node's mark stands at m
module _ {ws w₀ : List ℕ} {at : Regions} {w : List ℕ} {i : ℕ} (t : Head ws w₀ at w i) (m : ℕ) (p : m ≡ place_of at w (get_or ws i 0)) where
  placed : m ≡ at.last + weld_in at w₀ (get_or ws i 0)
  placed = p ∙ ap (λ (n : ℕ). at.last + n) (head_read t)

  placed_in : m < length w
  placed_in = omega (arith, placed, head_inside t, t.long, t.sound.second, t.sound.third)

  -- and is taken away
  forgotten : Forgetting ws w₀ at w i → Forgetting ws w₀ at (set w m 0) (i + 1)
  forgotten v =
      let step = nodes_next ws i t.here t.node in (
        take-set-le at.last w m 0 (omega (arith, placed)) ∙ v.0,
        (nodes_below t).1,
        rw placed (turn_mark at (weld_in at w₀) w (get_or ws i 0) (head_inside t) (omega (arith, t.long, t.sound.second, t.sound.third)) (λ x. 0) (nodes_in (drop (i + 1) ws))) ∙ (rw step at v.2),
      )

pub place-m-requires : goal.place-m-requires
place-m-requires c =
    let at = c.loop-n in
    let t : Head c.args.words.now c.args.work.now c.args.at at.work at.n-index =
    record { sound = c.requires; here = c.loop-n-test.true; long = at.auto.work; front = at.invariant.0; left = at.invariant.1; node = c.if-n.true } in
    head_numbered t

pub offset_bounds-work-m : goal.offset_bounds-work-m
offset_bounds-work-m c =
    let at = c.loop-n in
    let t : Head c.args.words.now c.args.work.now c.args.at at.work at.n-index =
    record { sound = c.requires; here = c.loop-n-test.true; long = at.auto.work; front = at.invariant.0; left = at.invariant.1; node = c.if-n.true } in
    let h = placed_in t c.place-m.result c.place-m.ensures in
    search rules

pub bounds-work-m : goal.bounds-work-m
bounds-work-m c =
    let at = c.loop-n in
    let t : Head c.args.words.now c.args.work.now c.args.at at.work at.n-index =
    record { sound = c.requires; here = c.loop-n-test.true; long = at.auto.work; front = at.invariant.0; left = at.invariant.1; node = c.if-n.true } in
    placed_in t c.place-m.result c.place-m.ensures

pub loop-n-preserved : goal.loop-n-preserved
loop-n-preserved c =
    let a = c.args in
    let at = c.loop-n in
    elim c.if-n.branch [
      | then-n b ↦
          let t : Head a.words.now a.work.now a.at at.work at.n-index =
          record { sound = c.requires; here = c.loop-n-test.true; long = at.auto.work; front = at.invariant.0; left = at.invariant.1; node = b.if-n.true } in
          rw b.work-is (forgotten t b.place-m.result b.place-m.ensures at.invariant)
      | else-n b ↦ rw b.work-is (skipped a.words.now a.work.now a.at at.work at.n-index c.loop-n-test.true b.if-n.false at.invariant)
    ]

pub returns : goal.returns
returns c =
    let a = c.args in
    let at = c.loop-n in
    let done : drop at.n-index a.words.now ≡ [] = drop_of_length-le a.words.now {i = at.n-index} (omega arith) in
    sym (sets_self at.work a.at.last a.at.nodes (omega arith)) ∙ (rw done at at.invariant.2)
