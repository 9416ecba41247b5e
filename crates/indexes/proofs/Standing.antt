-- Built tables with their indexes stand.
use Prim.Native.Nat.{ℕ, suc, ◌+◌, ◌-◌, ◌≤◌, ◌<◌}
use mathlib.Core.Path.{◌≡◌, sym, ap, ◌∙◌, subst}
use mathlib.Core.List.{List, ◌++◌}
use native.Mathlib.Omega.{arith}
use lib.ListN.{length, get_or, take, drop}
use lib.Seq.{length-sets, length-take-le, take-take, drop-drop, get_or-take}
use Rattle.laws.specs.Merging.{region}
use Rattle.laws.proofs.Stores.{take_before, region_after, region-take}
use Rattle.counting.specs.Counts.{times, below}
use Rattle.counting.proofs.CountLaws.{below_suc}
use Rattle.index.specs.declared.Places.{Places}
use Rattle.index.specs.Faces.{input, base, words_of, faces_with, offsets_of, index_of, Laid, Indexed}
use Rattle.index.proofs.Built.{built, below_found, index_before}
use Rattle.index.proofs.Read.{below_words}
use Rattle.pairs.specs.Tables.{with_index}
use Rattle.pairs.specs.Work.{Few}
use Rattle.layout.specs.declared.Layout.{Layout}
use Rattle.layout.specs.Tables.{Faced, Spaced, Standing}
use Rattle.layout.specs.Shown.{Tabled}

-- an index stands in all words that agree on it
indexed_kept : (p : Places) (n : ℕ) (b c : List ℕ) → p.index + p.words ≤ n → n ≤ length b → take n b ≡ take n c → Indexed p c → Indexed p b
indexed_kept p n b c h k same ix = record {
  laid = subst (Laid p) (sym e) ix.laid;
  index_at = ix.index_at;
  whole = omega (arith, h, k);
  small = ix.small;
  offset =
      λ m l. sym (get_or-take n b (p.offsets + m) 0 (omega (arith, l, ix.index_at, h))) ∙ ap (λ (x : List ℕ). get_or x (p.offsets + m) 0) same
      ∙ get_or-take n c (p.offsets + m) 0 (omega (arith, l, ix.index_at, h)) ∙ ix.offset m l ∙ ap (λ (t : List ℕ). below m (words_of p t)) (sym e);
  part = λ m l. part m l;
}
  where
    e : input p b ≡ input p c
    e =
        let o : p.offsets ≤ n = omega (arith, ix.index_at, h) in
        sym (take-take p.offsets n b o) ∙ ap (take p.offsets) same ∙ take-take p.offsets n c o

    S : List ℕ
    S = words_of p (input p c)

    part : (m : ℕ) → m < p.nodes → region (p.index + below m (words_of p (input p b))) (times m (words_of p (input p b))) b ≡ faces_with p (input p b) m
    part m l =
        let fits : p.index + below m S + times m S ≤ n = omega (arith, h, below_suc m S, below_words p c ix (suc m)) in
        ap (λ (t : List ℕ). region (p.index + below m (words_of p t)) (times m (words_of p t)) b) e
        ∙ sym (region-take (p.index + below m S) (times m S) n b fits)
        ∙ ap (region (p.index + below m S) (times m S)) same
        ∙ region-take (p.index + below m S) (times m S) n c fits
        ∙ ix.part m l
        ∙ ap (λ (t : List ℕ). faces_with p t m) (sym e)

-- a region behind n is as it was
behind : (a k n : ℕ) (w v : List ℕ) → n ≤ a → drop n v ≡ drop n w → region a k v ≡ region a k w
behind a k n w v h e =
    let d : a ≡ n + (a - n) = omega arith in
    ap (λ (x : ℕ). region x k v) d ∙ ap (take k) (sym (drop-drop (a - n) n v) ∙ ap (drop (a - n)) e ∙ drop-drop (a - n) n w) ∙ ap (λ (x : ℕ). region x k w) (sym d)

module _ (l : Layout) (w : List ℕ) (b : Tabled l w) where
  abbrev ys : List ℕ
  ys = offsets_of l.at (input l.at w) ++ index_of l.at (input l.at w)

  -- the two ways' work fits
  pub few : Few l.at
  few = record { words = b.spaced.few_words; faces = b.spaced.few_faces }

  -- the index leaves the tables
  pub indexed_input : (v : List ℕ) → v ≡ with_index l.at w → input l.at v ≡ input l.at w
  indexed_input v e = ap (input l.at) e ∙ take_before l.at.offsets w l.at.offsets ys (omega arith)

  -- and all stands
  pub stands : (v : List ℕ) → v ≡ with_index l.at w → Standing l v
  stands v e =
      let before = index_before l.at w b.faced.laid b.room in
      record {
        faced = subst (Faced l) (sym (indexed_input v e)) b.faced;
        indexed = subst (λ (x : List ℕ). Indexed l.at (base l.at x)) (sym e) (built l.at w b.faced.laid b.room);
        below = below_found l.at w b.faced.laid b.room;
        spaced = subst (Spaced l) (sym (ap length e ∙ length-sets w l.at.offsets ys)) b.spaced;
        unmarked = ap (region l.marks l.at.cell_count) e ∙ region_after l.marks l.at.cell_count w l.at.offsets ys (omega (arith, before, b.spaced.marks_at)) ∙ b.unmarked;
        fresh = ap (region l.last l.at.nodes) e ∙ region_after l.last l.at.nodes w l.at.offsets ys (omega (arith, before, b.spaced.marks_at, b.spaced.others_at, b.spaced.last_at)) ∙ b.fresh;
      }

module _ (l : Layout) (w v : List ℕ) (s : Standing l w) (front : take l.second v ≡ take l.second w) (back : drop l.at.found v ≡ drop l.at.found w) (long : length v ≡ length w) where
  -- the second index leaves the tables
  pub second_input : input l.at v ≡ input l.at w
  second_input =
      let o : l.at.offsets ≤ l.second = omega (arith, s.indexed.index_at, s.spaced.second_at) in
      sym (take-take l.at.offsets l.second v o) ∙ ap (take l.at.offsets) front ∙ take-take l.at.offsets l.second w o

  -- and all stands
  pub stands_on : Standing l v
  stands_on =
      let o : l.second ≤ l.at.found = omega (arith, s.spaced.second_ends) in
      let n : l.at.found ≤ length v = omega (arith, long, s.spaced.marks_at, s.spaced.others_at, s.spaced.last_at, s.spaced.pairs_at, s.spaced.spare_at, s.spaced.ends) in
      record {
        faced = subst (Faced l) (sym second_input) s.faced;
        indexed =
            indexed_kept l.at l.second (base l.at v) (base l.at w) s.spaced.second_at (omega (arith, o, length-take-le l.at.found v n))
            (take-take l.second l.at.found v o ∙ front ∙ sym (take-take l.second l.at.found w o)) s.indexed;
        below = s.below;
        spaced = subst (Spaced l) (sym long) s.spaced;
        unmarked = behind l.marks l.at.cell_count l.at.found w v (omega (arith, s.spaced.marks_at)) back ∙ s.unmarked;
        fresh = behind l.last l.at.nodes l.at.found w v (omega (arith, s.spaced.marks_at, s.spaced.others_at, s.spaced.last_at)) back ∙ s.fresh;
      }
