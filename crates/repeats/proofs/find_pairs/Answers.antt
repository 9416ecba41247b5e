-- What is still to be found and marked, done to what stands here, is all that is found and marked.
use Prim.Native.Nat.{ℕ, ◌+◌, ◌≤◌, ◌<◌}
use mathlib.Core.Path.{◌≡◌, sym, ◌∙◌}
use mathlib.Core.List.{List, []}
use native.Mathlib.Nat.{add-zero}
use native.Mathlib.Omega.{arith}
use lib.ListN.{length, get_or, drop, drop_of_length-le}
use Rattle.laws.proofs.Stores.{sets_self}
use Rattle.mesh.specs.Rings.{separator, nodes_in}
use Rattle.repeats.specs.declared.Regions.{Regions}
use Rattle.repeats.specs.Marks.{weld_in, place_of, Noted}
use Rattle.repeats.proofs.Rounds.{Head, nodes_skip, nodes_next, nodes_below, head_inside, head_read, head_numbered, hit_short, turn_count, turn_front, turn_stored}
use Rattle.repeats.proofs.find_pairs.Invariants.{Finding}
use Rattle.repeats.proofs.find_pairs.Goals as goal
use Rattle.repeats.proofs.find_pairs.Goals.{then-n, else-n}

-- a separator is skipped
skipped : (ws w₀ : List ℕ) (at : Regions) (w : List ℕ) (k i : ℕ) → i < length ws → get_or ws i 0 ≡ separator → Finding ws w₀ at w k i → Finding ws w₀ at w k (i + 1)
skipped ws w₀ at w k i h e v = let s = nodes_skip ws i h e in (omega (arith, v.0), v.1, rw s at v.2, rw s at v.3, rw s at v.4)

-- a node's pair and mark are put, and z is what is left then
noted : (ws w₀ : List ℕ) (at : Regions) (w : List ℕ) (k i : ℕ) (z : List ℕ) (r : ℕ) → Head ws w₀ at w i → Noted w z at k (get_or ws i 0) r → Finding ws w₀ at w k i → Finding ws w₀ at z r (i + 1)
noted ws w₀ at w k i z r t N v =
    let n : ℕ = get_or ws i 0 in
    let ns : List ℕ = nodes_in (drop (i + 1) ws) in
    let step = nodes_next ws i t.here t.node in
    let room : at.last + at.nodes ≤ length w = omega (arith, t.long, t.sound.second, t.sound.third) in
    let b = head_inside t in
    let q = head_read t in
    let f = t.sound.second in
    let W = weld_in at w₀ in (
      omega (arith, N.count, hit_short n (get_or w (place_of at w n) 0), v.0),
      turn_front at W w n b room z k r ns f q N ∙ v.1,
      (nodes_below t).1,
      turn_count at W w n b room z k r ns f q N ∙ (rw step at v.3),
      turn_stored at W w n b room z k r ns f q N ∙ (rw step at v.4),
    )

pub note-k-requires : goal.note-k-requires
note-k-requires c =
    let at = c.loop-n in
    let t : Head c.args.words.now c.args.work.now c.args.at at.work at.n-index =
    record { sound = c.requires; here = c.loop-n-test.true; long = at.auto.work; front = at.invariant.1; left = at.invariant.2; node = c.if-n.true } in
    record { numbered = head_numbered t; second = c.requires.second; third = omega arith; small = c.requires.small }

pub loop-n-preserved : goal.loop-n-preserved
loop-n-preserved c =
    let a = c.args in
    let at = c.loop-n in
    elim c.if-n.branch [
      | then-n b ↦
          let t : Head a.words.now a.work.now a.at at.work at.n-index =
          record { sound = c.requires; here = c.loop-n-test.true; long = at.auto.work; front = at.invariant.1; left = at.invariant.2; node = b.if-n.true } in
          rw (b.work-is, b.k-is) (noted a.words.now a.work.now a.at at.work at.k at.n-index b.note-k.new.work b.note-k.result t b.note-k.ensures at.invariant)
      | else-n b ↦ rw (b.work-is, b.k-is) (skipped a.words.now a.work.now a.at at.work at.k at.n-index c.loop-n-test.true b.if-n.false at.invariant)
    ]

pub returns : goal.returns
returns c =
    let a = c.args in
    let at = c.loop-n in
    let w = at.work in
    let done : drop at.n-index a.words.now ≡ [] = drop_of_length-le a.words.now {i = at.n-index} (omega arith) in
    record {
      count = sym (add-zero at.k) ∙ (rw done at at.invariant.3);
      few = omega arith;
      stored = sym (sets_self w a.at.last a.at.nodes (omega arith)) ∙ (rw done at at.invariant.4);
    }
