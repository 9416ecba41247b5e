-- The list sorted: the marks are as before, and the list has the same cells, in order.
use Prim.Native.Nat.{ℕ, ◌+◌, ◌*◌, ◌≤◌, ◌<◌}
use mathlib.Core.Path.{◌≡◌, sym, ap, ◌∙◌, subst}
use mathlib.Core.List.{List}
use native.Mathlib.Omega.{arith}
use lib.ListN.{length, get_or, take}
use lib.Seq.{sets, length-sets}
use Rattle.laws.specs.Lists.{sort, each, up_from}
use Rattle.laws.specs.Merging.{region}
use Rattle.laws.proofs.ListLaws.{each_agree}
use Rattle.laws.proofs.Sorting.{length-sort}
use Rattle.laws.proofs.Stores.{get_or_before, take_before, region_before, region_same}
use Rattle.findings.specs.Rules.{pair_le}
use Rattle.index.specs.Faces.{input}
use Rattle.pair_sort.specs.Pairs.{flat, pairs_in, pairs_at}
use Rattle.pair_sort.proofs.PairLaws.{length_pairs, length_flat, pairs_region, pairs_flat}
use Rattle.layout.specs.declared.Layout.{Layout}
use Rattle.partially_shared.specs.Listing.{Has, Rising, Listed}
use Rattle.partially_shared.specs.Hits.{Beside, Searching, mark_tells, MarksFit, Cleared}
use Rattle.partially_shared.proofs.Listing.{has_sort, sort_has, rising_sort}
use Rattle.partially_shared.proofs.Searched.{beside_less, beside_then, searching_on, input_on}
use Rattle.partially_shared.proofs.Cleared.{tells_same}

module _ (l : Layout) (w : List ℕ) (n : ℕ) (s : Searching l w) (fits : n ≤ l.words) where
  abbrev xs : List ℕ
  xs = flat (sort pair_le (pairs_in (region l.pairs (2 * n) w)))

  room : l.pairs + 2 * n ≤ length w
  room = omega (arith, fits, s.spaced.spare_at, s.spaced.ends)

  xs_is : xs ≡ flat (sort pair_le (pairs_at l.pairs n w))
  xs_is = ap (λ (ps : List (ℕ × ℕ)). flat (sort pair_le ps)) (pairs_region l.pairs n w room)

  xs_long : length xs ≡ 2 * n
  xs_long = ap length xs_is ∙ omega (arith, length_flat (sort pair_le (pairs_at l.pairs n w)), length-sort pair_le (pairs_at l.pairs n w), length_pairs l.pairs n w)

  module _ (u : List ℕ) (is : u ≡ sets (sets w l.pairs xs) l.spare xs) where
    long : length u ≡ length w
    long = ap length is ∙ length-sets (sets w l.pairs xs) l.spare xs ∙ length-sets w l.pairs xs

    -- words before the list are as before
    word : (i : ℕ) → i < l.pairs → get_or u i 0 ≡ get_or w i 0
    word i h =
        ap (λ (v : List ℕ). get_or v i 0) is
        ∙ get_or_before (sets w l.pairs xs) l.spare xs i 0 (omega (arith, h, s.spaced.spare_at))
        ∙ get_or_before w l.pairs xs i 0 h

    mark : (b : ℕ) → b < l.at.cell_count → get_or u (l.marks + b) 0 ≡ get_or w (l.marks + b) 0
    mark b h = word (l.marks + b) (omega (arith, h, s.spaced.others_at, s.spaced.last_at, s.spaced.pairs_at))

    other : (b : ℕ) → b < l.at.cell_count → get_or u (l.others + b) 0 ≡ get_or w (l.others + b) 0
    other b h = word (l.others + b) (omega (arith, h, s.spaced.last_at, s.spaced.pairs_at))

    beside : Beside l.marks l w u
    beside = record {
      before =
          ap (take l.marks) is
          ∙ take_before l.marks (sets w l.pairs xs) l.spare xs (omega (arith, s.spaced.others_at, s.spaced.last_at, s.spaced.pairs_at, s.spaced.spare_at))
          ∙ take_before l.marks w l.pairs xs (omega (arith, s.spaced.others_at, s.spaced.last_at, s.spaced.pairs_at));
      behind =
          ap (region l.last l.at.nodes) is
          ∙ region_before l.last l.at.nodes (sets w l.pairs xs) l.spare xs (omega (arith, s.spaced.pairs_at, s.spaced.spare_at))
          ∙ region_before l.last l.at.nodes w l.pairs xs (omega (arith, s.spaced.pairs_at));
      long = long;
    }

    nearby : Beside l.at.found l w u
    nearby = beside_less l.at.found l.marks l w u (omega (arith, s.spaced.marks_at)) beside

    pub sorted_search : Searching l u
    sorted_search = searching_on l w u s nearby

    -- the list is sorted
    sorted : pairs_at l.pairs n u ≡ sort pair_le (pairs_at l.pairs n w)
    sorted =
        sym (pairs_region l.pairs n u (omega (arith, room, long)))
        ∙ ap pairs_in
        (ap (region l.pairs (2 * n)) is
        ∙ region_before l.pairs (2 * n) (sets w l.pairs xs) l.spare xs (omega (arith, fits, s.spaced.spare_at))
        ∙ ap (λ (k : ℕ). region l.pairs k (sets w l.pairs xs)) (sym xs_long)
        ∙ region_same w l.pairs xs (omega (arith, xs_long, room))
        ∙ xs_is)
        ∙ pairs_flat (sort pair_le (pairs_at l.pairs n w))

    pub sorted_rising : Rising (pairs_at l.pairs n u)
    sorted_rising = subst Rising (sym sorted) (rising_sort (pairs_at l.pairs n w))

    pub sorted_listed : Listed l w n → Listed l u n
    sorted_listed p = record {
      known = λ b h. p.known b (sort_has b (pairs_at l.pairs n w) (subst (Has b) sorted h));
      there = λ b h z. subst (Has b) (sym sorted) (has_sort b (pairs_at l.pairs n w) (p.there b h (λ e. z (mark b h ∙ e))));
    }

    pub sorted_fit : MarksFit l w → MarksFit l u
    sorted_fit p b h z = let q = p b h (λ e. z (mark b h ∙ e)) in (omega (arith, q.0, mark b h), omega (arith, q.1, other b h))

    -- the same is told
    pub sorted_tells : (c : ℕ) → each (mark_tells l (input l.at u) u c) (up_from 0 l.at.cell_count) ≡ each (mark_tells l (input l.at w) w c) (up_from 0 l.at.cell_count)
    sorted_tells c =
        each_agree (mark_tells l (input l.at u) u c) (mark_tells l (input l.at w) w c) 0 l.at.cell_count
        (λ b x y. let h : b < l.at.cell_count = omega (arith, y) in ap (λ (t : List ℕ). mark_tells l t u c b) (input_on l w u s nearby) ∙ tells_same l (input l.at w) w u c b (mark b h, other b h))

    -- and what is cleared afterwards is cleared
    pub sorted_cleared : (v : List ℕ) → Cleared l u 0 l.at.cell_count v → Cleared l w 0 l.at.cell_count v
    sorted_cleared v p = record {
      beside = beside_then l.marks l w u v beside p.beside;
      cleared = p.cleared;
      still = λ b h e. p.still b h (mark b h ∙ e);
    }
