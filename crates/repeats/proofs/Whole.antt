-- The four steps of `list_repeats`, as lists.
use Prim.Native.Nat.{ℕ, ◌+◌, ◌*◌, ◌≤◌}
use mathlib.Core.Path.{◌≡◌, refl, sym, ap, ap₂, ◌∙◌, subst}
use mathlib.Core.List.{List}
use native.Mathlib.Omega.{arith}
use lib.ListN.{length, take, drop, replicate, length-replicate}
use lib.Seq.{sets, length-sets}
use Rattle.laws.specs.Lists.{sort, distinct}
use Rattle.laws.specs.Merging.{region, AllBelow}
use Rattle.laws.proofs.Sorting.{length-sort}
use Rattle.laws.proofs.Stores.{take_before, drop_after, region_before, region_after, region_same, length-region}
use Rattle.snap.specs.Weld.{welded_by}
use Rattle.findings.specs.Rules.{pair_le, repeats_of}
use Rattle.pair_sort.specs.Pairs.{flat, pairs_in, unrepeated}
use Rattle.pair_sort.proofs.PairLaws.{length_flat, pairs_flat}
use Rattle.pair_sort.proofs.PairOrder.{pair_total}
use Rattle.pair_sort.proofs.Once.{unrepeated_length, unrepeated_sort}
use Rattle.repeats.specs.declared.Regions.{Regions}
use Rattle.mesh.specs.Rings.{nodes_in}
use Rattle.repeats.specs.Marks.{hits, mark, weld_in, marks_in, Found}
use Rattle.repeats.specs.Repeats.{Ready, repeats_in, Listed}
use Rattle.repeats.proofs.Walk.{hits_walk, length_mark, put_back}
use Rattle.repeats.proofs.Rounds.{weld_inside}

-- pairs stored at their place are read there
read_back_lem : (l : List ℕ) (o n : ℕ) (ps : List (ℕ × ℕ)) → length ps ≡ n → o + 2 * n ≤ length l → region o (2 * n) (sets l o (flat ps)) ≡ flat ps
read_back_lem l o n ps e h =
    let d : length (flat ps) ≡ 2 * n = omega (arith, length_flat ps) in
    ap (λ (k : ℕ). region o k (sets l o (flat ps))) (sym d) ∙ region_same l o (flat ps) (omega arith)

module _ (at : Regions) (words w one : List ℕ) (m : ℕ) (R : Ready words w at) (F : Found words w one at m) where
  abbrev Q : List (ℕ × ℕ)
  Q = hits (weld_in at w) (marks_in at w) (nodes_in words)

  abbrev M : List ℕ
  M = mark (weld_in at w) (λ n. n + 1) (marks_in at w) (nodes_in words)

  M-length : length M ≡ at.nodes
  M-length =
      length_mark (weld_in at w) (λ n. n + 1) (marks_in at w) (nodes_in words)
      ∙ length-region at.last at.nodes w (omega (arith, R.second, R.third, R.fourth))

  -- the welded numbers are still there
  weld_kept : region at.weld at.nodes one ≡ region at.weld at.nodes w
  weld_kept =
      ap (region at.weld at.nodes) F.stored
      ∙ region_before at.weld at.nodes (sets w at.last M) at.pairs (flat Q) (omega (arith, R.first, R.second))
      ∙ region_before at.weld at.nodes w at.last M R.first

  pub still_welded : AllBelow at.nodes (region at.weld at.nodes one)
  still_welded = subst (AllBelow at.nodes) (sym weld_kept) R.welded

  one_length : length one ≡ length w
  one_length = ap length F.stored ∙ length-sets (sets w at.last M) at.pairs (flat Q) ∙ length-sets w at.last M

  -- the pairs found, each once, are the repeats
  repeats_are : repeats_in at w words ≡ distinct pair_le Q
  unfolding repeats_of
  repeats_are =
      ap (distinct pair_le)
      (sym (ap (λ (l : List ℕ). hits (weld_in at w) l (nodes_in words)) R.clean
      ∙ hits_walk (weld_in at w) at.nodes
      (λ n h. weld_inside at w R.first (omega (arith, R.second, R.third, R.fourth)) n h R.welded) (nodes_in words) R.inside))

  module _ (two three four : List ℕ) (r : ℕ)
      (e2 : two ≡ sets one at.last (mark (weld_in at one) (λ n. 0) (marks_in at one) (nodes_in words)))
      (e3 : three ≡ sets (sets two at.pairs (flat (sort pair_le (pairs_in (region at.pairs (2 * m) two))))) at.spare (flat (sort pair_le (pairs_in (region at.pairs (2 * m) two)))))
      (e : r ≡ length (unrepeated pair_le (pairs_in (region at.pairs (2 * m) three))))
      (e4 : four ≡ sets three at.pairs (flat (unrepeated pair_le (pairs_in (region at.pairs (2 * m) three))))) where
    abbrev Z : List ℕ
    Z = replicate at.nodes 0

    abbrev S : List ℕ
    S = flat (sort pair_le Q)

    abbrev D : List (ℕ × ℕ)
    D = distinct pair_le Q

    -- the marks are all zero again
    marks_back : mark (weld_in at one) (λ n. 0) (marks_in at one) (nodes_in words) ≡ Z
    marks_back =
        let b : at.last + length M ≤ length w = omega (arith, M-length, R.second, R.third, R.fourth) in
        ap₂ (λ (ws l : List ℕ). mark (welded_by ws) (λ n. 0) l (nodes_in words)) weld_kept
        (ap (marks_in at) F.stored
        ∙ region_before at.last at.nodes (sets w at.last M) at.pairs (flat Q) R.second
        ∙ ap (λ (k : ℕ). region at.last k (sets w at.last M)) (sym M-length)
        ∙ region_same w at.last M b
        ∙ ap (λ (l : List ℕ). mark (weld_in at w) (λ n. n + 1) l (nodes_in words)) R.clean)
        ∙ put_back (weld_in at w) at.nodes (λ n. n + 1) (nodes_in words)

    two_is : two ≡ sets one at.last Z
    two_is = e2 ∙ ap (sets one at.last) marks_back

    two_length : length two ≡ length w
    two_length = ap length two_is ∙ length-sets one at.last Z ∙ one_length

    Z-length : length Z ≡ at.nodes
    Z-length = length-replicate at.nodes 0

    -- the pairs, as they were found, sorted, and each once
    found : pairs_in (region at.pairs (2 * m) two) ≡ Q
    found =
        let f = length-sets w at.last M in
        ap pairs_in
        (ap (region at.pairs (2 * m)) two_is
        ∙ region_after at.pairs (2 * m) one at.last Z (omega (arith, Z-length, R.second))
        ∙ ap (region at.pairs (2 * m)) F.stored
        ∙ read_back_lem (sets w at.last M) at.pairs m Q (sym F.count) (omega (arith, R.third, R.fourth, F.few)))
        ∙ pairs_flat Q

    three_is : three ≡ sets (sets two at.pairs S) at.spare S
    three_is = e3 ∙ ap (λ (ps : List (ℕ × ℕ)). sets (sets two at.pairs (flat (sort pair_le ps))) at.spare (flat (sort pair_le ps))) found

    sorted_length : length (sort pair_le Q) ≡ m
    sorted_length = length-sort pair_le Q ∙ sym F.count

    S-length : length S ≡ 2 * m
    S-length = omega (arith, length_flat (sort pair_le Q), sorted_length)

    three_length : length three ≡ length w
    three_length = ap length three_is ∙ length-sets (sets two at.pairs S) at.spare S ∙ length-sets two at.pairs S ∙ two_length

    once : unrepeated pair_le (pairs_in (region at.pairs (2 * m) three)) ≡ D
    once =
        ap (λ (l : List ℕ). unrepeated pair_le (pairs_in l))
        (ap (region at.pairs (2 * m)) three_is
        ∙ region_before at.pairs (2 * m) (sets two at.pairs S) at.spare S (omega (arith, R.third, F.few))
        ∙ read_back_lem two at.pairs m (sort pair_le Q) sorted_length (omega (arith, two_length, R.third, R.fourth, F.few)))
        ∙ ap (unrepeated pair_le) (pairs_flat (sort pair_le Q))
        ∙ unrepeated_sort pair_le pair_total Q

    four_is : four ≡ sets three at.pairs (flat D)
    four_is = e4 ∙ ap (λ (ps : List (ℕ × ℕ)). sets three at.pairs (flat ps)) once

    count : r ≡ length D
    count = e ∙ ap (λ (ps : List (ℕ × ℕ)). length ps) once

    fewer : r ≤ m
    fewer =
        omega (arith, count, sorted_length, unrepeated_length pair_le (sort pair_le Q), ap (λ (ps : List (ℕ × ℕ)). length ps) (unrepeated_sort pair_le pair_total Q))

    D-length : length (flat D) ≡ 2 * r
    D-length = omega (arith, length_flat D, count)

    -- what is stored in front of the pairs and behind the spare room
    front : (k : ℕ) → k ≤ at.pairs → take k four ≡ take k two
    front k h =
        ap (take k) four_is
        ∙ take_before k three at.pairs (flat D) h
        ∙ ap (take k) three_is
        ∙ take_before k (sets two at.pairs S) at.spare S (omega (arith, R.third))
        ∙ take_before k two at.pairs S h

    behind : (k : ℕ) → k ≡ at.spare + 2 * length words → drop k four ≡ drop k w
    behind k h =
        ap (drop k) four_is
        ∙ drop_after k three at.pairs (flat D) (omega (arith, D-length, fewer, F.few, R.third))
        ∙ ap (drop k) three_is
        ∙ drop_after k (sets two at.pairs S) at.spare S (omega (arith, S-length, F.few))
        ∙ drop_after k two at.pairs S (omega (arith, S-length, F.few, R.third))
        ∙ ap (drop k) two_is
        ∙ drop_after k one at.last Z (omega (arith, Z-length, R.second, R.third))
        ∙ ap (drop k) F.stored
        ∙ drop_after k (sets w at.last M) at.pairs (flat Q) (omega (arith, length_flat Q, F.count, F.few, R.third))
        ∙ drop_after k w at.last M (omega (arith, M-length, R.second, R.third))

    marks_zero : region at.last at.nodes four ≡ Z
    marks_zero =
        ap (region at.last at.nodes) four_is
        ∙ region_before at.last at.nodes three at.pairs (flat D) R.second
        ∙ ap (region at.last at.nodes) three_is
        ∙ region_before at.last at.nodes (sets two at.pairs S) at.spare S (omega (arith, R.second, R.third))
        ∙ region_before at.last at.nodes two at.pairs S R.second
        ∙ ap (region at.last at.nodes) two_is
        ∙ ap (λ (k : ℕ). region at.last k (sets one at.last Z)) (sym Z-length)
        ∙ region_same one at.last Z (omega (arith, Z-length, one_length, R.second, R.third, R.fourth))

    pub listed : Listed words w four at r
    listed =
        record {
          count = count ∙ sym (ap (λ (ps : List (ℕ × ℕ)). length ps) repeats_are);
          stored =
              ap (region at.pairs (2 * r)) four_is
              ∙ read_back_lem three at.pairs r D (sym count) (omega (arith, three_length, fewer, F.few, R.third, R.fourth))
              ∙ sym (ap flat repeats_are);
          front =
              front at.last (omega (arith, R.second))
              ∙ ap (take at.last) two_is
              ∙ take_before at.last one at.last Z (omega arith)
              ∙ ap (take at.last) F.stored
              ∙ take_before at.last (sets w at.last M) at.pairs (flat Q) (omega (arith, R.second))
              ∙ take_before at.last w at.last M (omega arith);
          clean = marks_zero;
          behind = behind (at.spare + 2 * length words) refl;
          size = ap length four_is ∙ length-sets three at.pairs (flat D) ∙ three_length;
          few = omega (arith, fewer, F.few);
        }
