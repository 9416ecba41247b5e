-- The candidates of a face, one by one, and the faces of a cell: what each adds, and that the search can go on.
use Prim.Native.Nat.{ℕ, suc, ◌+◌, ◌≤◌, ◌<◌}
use mathlib.Core.Path.{◌≡◌, refl, sym, ap, ap₂, ◌∙◌, subst}
use mathlib.Core.List.{List, [], ◌∷◌, ◌++◌, map, append-nil, append_assoc, map-append}
use native.Mathlib.Omega.{arith}
use lib.ListN.{length, get_or, take}
use lib.Seq.{length-sets, take-suc, take_all, take-take, get_or-take}
use Rattle.laws.specs.Lists.{keep, up_from}
use Rattle.laws.specs.Merging.{region}
use Rattle.laws.proofs.Bounds.{below_at, below-up_from, below-keep}
use Rattle.laws.proofs.ListLaws.{keep_append, keep-length, length-up_from}
use Rattle.laws.proofs.Stores.{get_or-region, get_or_after, region_same, region_after, take_before}
use Rattle.findings.specs.Findings.{Rules}
use Rattle.index.specs.declared.Places.{Places}
use Rattle.index.specs.Faces.{input, Indexed}
use Rattle.seek.specs.Candidates.{shares, candidates, Ready, Sought}
use Rattle.layout.specs.declared.Layout.{Layout}
use Rattle.layout.specs.Tables.{Faced, Spaced, Standing}
use Rattle.layout.proofs.Again.{same_input}
use Rattle.partially_shared.specs.declared.Range.{Range}
use Rattle.partially_shared.specs.Hits.{spans_at, passing, face_hits, hit_of, MarkIs, Marked, MarkedMore, Searching, Beside}
use Rattle.partially_shared.proofs.Listing.{listed_same}

-- ---- candidates are faces

pub candidate_low : (p : Places) (t : List ℕ) (f i : ℕ) → i < length (candidates p t f) → get_or (candidates p t f) i 0 < p.faces
unfolding candidates
candidate_low p t f i h = below_at p.faces (keep (shares p t f) (up_from 0 p.faces)) i (below-keep p.faces (shares p t f) (up_from 0 p.faces) (below-up_from p.faces 0 p.faces (omega arith))) h

-- ---- the slice between steps

-- what lies before a is before o too
pub beside_less : (a o : ℕ) (l : Layout) (w v : List ℕ) → a ≤ o → Beside o l w v → Beside a l w v
beside_less a o l w v h b = record {
  before = sym (take-take a o v h) ∙ ap (take a) b.before ∙ take-take a o w h;
  behind = b.behind;
  long = b.long;
}

pub beside_then : (o : ℕ) (l : Layout) (u v w : List ℕ) → Beside o l u v → Beside o l v w → Beside o l u w
beside_then o l u v w p q = record { before = q.before ∙ p.before; behind = q.behind ∙ p.behind; long = q.long ∙ p.long }

-- the search reads words before `found` only
pub searching_on : (l : Layout) (w v : List ℕ) → Searching l w → Beside l.at.found l w v → Searching l v
searching_on l w v s b = record {
  faced = subst (Faced l) (sym (same_input l w v s.below b.before)) s.faced;
  indexed = subst (Indexed l.at) (sym b.before) s.indexed;
  below = s.below;
  spaced = subst (Spaced l) (sym b.long) s.spaced;
}

pub input_on : (l : Layout) (w v : List ℕ) → Searching l w → Beside l.at.found l w v → input l.at v ≡ input l.at w
input_on l w v s b = same_input l w v s.below b.before

-- a word before `marks` is as it was
pub word_on : (l : Layout) (w v : List ℕ) (i : ℕ) → Beside l.marks l w v → i < l.marks → get_or v i 0 ≡ get_or w i 0
word_on l w v i b h = sym (get_or-take l.marks v i 0 h) ∙ ap (λ (k : List ℕ). get_or k i 0) b.before ∙ get_or-take l.marks w i 0 h

-- a standing slice can be searched
pub searches : (l : Layout) (w : List ℕ) → Standing l w → Searching l w
searches l w s = record { faced = s.faced; indexed = s.indexed; below = s.below; spaced = s.spaced }

-- and any of its faces
pub face_ready : (l : Layout) (w : List ℕ) (f : ℕ) → Searching l w → f < l.at.faces → Ready l.at f w
face_ready l w f s h = record {
  indexed = s.indexed;
  below = s.below;
  face = h;
  room = omega (arith, s.spaced.marks_at, s.spaced.others_at, s.spaced.last_at, s.spaced.pairs_at, s.spaced.spare_at, s.spaced.ends);
}

-- ---- what is marked

module _ (R : Rules) (l : Layout) (t : List ℕ) (f : ℕ) where
  -- candidates one after the other
  passing_append : (xs ys : List ℕ) → passing R l t f (xs ++ ys) ≡ passing R l t f xs ++ passing R l t f ys
  unfolding passing
  passing_append xs ys = ap (map (λ (g : ℕ). (f, g))) (keep_append (spans_at R l t f) xs ys) ∙ map-append (λ (g : ℕ). (f, g)) (keep (spans_at R l t f) xs) (keep (spans_at R l t f) ys)

  passing_none : passing R l t f [] ≡ []
  unfolding passing
  passing_none = refl

  -- no candidate yet
  pub more_start : (gs : List ℕ) (w : List ℕ) (r : Range) → MarkedMore l t (passing R l t f (take 0 gs)) w w r r
  more_start gs w r hits p = subst (λ (H : List (ℕ × ℕ)). Marked l t H w r) (sym (ap (λ (Z : List (ℕ × ℕ)). hits ++ Z) passing_none ∙ append-nil hits)) p

  -- one more
  pub more_next : (gs : List ℕ) (i g : ℕ) (u w v : List ℕ) (q r s : Range) → i < length gs → g ≡ get_or gs i 0
      → MarkedMore l t (passing R l t f (take i gs)) u w q r → MarkedMore l t (passing R l t f (g ∷ [])) w v r s → MarkedMore l t (passing R l t f (take (i + 1) gs)) u v q s
  more_next gs i g u w v q r s h e a b hits p =
      let j : i + 1 ≡ suc i = omega arith in
      let x : take (i + 1) gs ≡ take i gs ++ (g ∷ []) = ap (λ (k : ℕ). take k gs) j ∙ take-suc gs i 0 h ∙ ap (λ (k : ℕ). take i gs ++ (k ∷ [])) (sym e) in
      let y : passing R l t f (take (i + 1) gs) ≡ passing R l t f (take i gs) ++ passing R l t f (g ∷ []) = ap (passing R l t f) x ∙ passing_append (take i gs) (g ∷ []) in
      subst (λ (H : List (ℕ × ℕ)). Marked l t H v s) (append_assoc hits (passing R l t f (take i gs)) (passing R l t f (g ∷ [])) ∙ ap (λ (Z : List (ℕ × ℕ)). hits ++ Z) (sym y))
      (b (hits ++ passing R l t f (take i gs)) (a hits p))

-- all candidates
pub more_all : (R : Rules) (l : Layout) (t : List ℕ) (f i : ℕ) (u v : List ℕ) (q s : Range) → length (candidates l.at t f) ≤ i
    → MarkedMore l t (passing R l t f (take i (candidates l.at t f))) u v q s → MarkedMore l t (face_hits R l t f) u v q s
unfolding face_hits
more_all R l t f i u v q s h a = subst (λ (gs : List ℕ). MarkedMore l t (passing R l t f gs) u v q s) (take_all i (candidates l.at t f) h) a

-- marks under another slice with the same words from `marks` on
pub more_from : (l : Layout) (t : List ℕ) (more : List (ℕ × ℕ)) (u w v : List ℕ) (q s : Range) → ((i : ℕ) → l.marks ≤ i → get_or w i 0 ≡ get_or u i 0)
    → l.marks ≤ l.others → l.marks ≤ l.pairs → MarkedMore l t more w v q s → MarkedMore l t more u v q s
more_from l t more u w v q s same h j a hits p = a hits record {
  marks = λ b k. subst (λ (x : ℕ). MarkIs x (get_or w (l.others + b) 0) (hit_of l t b hits)) (sym (same (l.marks + b) (omega arith)))
      (subst (λ (x : ℕ). MarkIs (get_or u (l.marks + b) 0) x (hit_of l t b hits)) (sym (same (l.others + b) (omega (arith, h)))) (p.marks b k));
  within = λ b k z. p.within b k (λ e. z (same (l.marks + b) (omega arith) ∙ e));
  listed = listed_same l q.listed u w same j p.listed;
}

-- ---- the candidates of a face, in turn

-- i of them are noted
pub record Noting (R : Rules) (l : Layout) (f : ℕ) (w : List ℕ) (r : Range) (v : List ℕ) (s : Range) (i : ℕ) : Type 0 where
  pub beside : Beside l.marks l w v
  pub more : MarkedMore l (input l.at w) (passing R l (input l.at w) f (take i (candidates l.at (input l.at w) f))) w v r s
  pub high : s.hi ≤ l.at.cell_count
  pub seen : i ≤ length (candidates l.at (input l.at w) f)
  pub search : Searching l v

module _ (R : Rules) (l : Layout) (f : ℕ) (w : List ℕ) (r : Range) (search : Searching l w) where
  abbrev t₀ : List ℕ
  t₀ = input l.at w

  abbrev gs : List ℕ
  gs = candidates l.at t₀ f

  pub noting_start : r.hi ≤ l.at.cell_count → Noting R l f w r w r 0
  noting_start h = record { beside = record { before = refl; behind = refl; long = refl }; more = more_start R l t₀ f gs w r; high = h; seen = omega arith; search = search }

  -- the next one stands in the slice, and is a face
  pub next_is : (n : ℕ) (v : List ℕ) (s : Range) (i : ℕ) → Noting R l f w r v s i → n ≡ length gs → n ≤ l.at.faces → region l.at.found n w ≡ gs → i < n → get_or v (l.at.found + i) 0 ≡ get_or gs i 0
  next_is n v s i p e few found h =
      word_on l w v (l.at.found + i) p.beside (omega (arith, h, few, search.spaced.marks_at))
      ∙ sym (get_or-region l.at.found n w i 0 h)
      ∙ ap (λ (k : List ℕ). get_or k i 0) found

  pub noting_next : (v u : List ℕ) (s q : Range) (i g : ℕ) → Noting R l f w r v s i → i < length gs → g ≡ get_or gs i 0
      → MarkedMore l (input l.at v) (passing R l (input l.at v) f (g ∷ [])) v u s q → Beside l.marks l v u → q.hi ≤ l.at.cell_count → Noting R l f w r u q (i + 1)
  noting_next v u s q i g p h e a b k =
      let lower : l.at.found ≤ l.marks = omega (arith, search.spaced.marks_at) in
      let same = input_on l w v search (beside_less l.at.found l.marks l w v lower p.beside) in
      record {
        beside = beside_then l.marks l w v u p.beside b;
        more = more_next R l t₀ f gs i g w v u r s q h e p.more (subst (λ (t : List ℕ). MarkedMore l t (passing R l t f (g ∷ [])) v u s q) same a);
        high = k;
        seen = omega (arith, h);
        search = searching_on l v u p.search (beside_less l.at.found l.marks l v u lower b);
      }

-- there are no more candidates than faces
pub candidates_few : (p : Places) (t : List ℕ) (f : ℕ) → length (candidates p t f) ≤ p.faces
unfolding candidates
candidates_few p t f = omega (arith, keep-length (shares p t f) (up_from 0 p.faces), length-up_from 0 p.faces)

-- ---- after a face's search

module _ (l : Layout) (w u : List ℕ) (f n : ℕ) (s : Searching l w) (found : Sought l.at f w u n) where
  abbrev cs : List ℕ
  cs = candidates l.at (input l.at w) f

  fits : l.at.found + length cs ≤ l.marks
  fits = omega (arith, candidates_few l.at (input l.at w) f, s.spaced.marks_at)

  pub sought_beside : Beside l.at.found l w u
  sought_beside = record {
    before = ap (take l.at.found) found.filled ∙ take_before l.at.found w l.at.found cs (omega arith);
    behind = ap (region l.last l.at.nodes) found.filled ∙ region_after l.last l.at.nodes w l.at.found cs (omega (arith, fits, s.spaced.others_at, s.spaced.last_at));
    long = ap length found.filled ∙ length-sets w l.at.found cs;
  }

  -- the candidates stand there
  pub sought_there : region l.at.found n u ≡ candidates l.at (input l.at u) f
  sought_there =
      ap₂ (λ (k : ℕ) (v : List ℕ). region l.at.found k v) found.number found.filled
      ∙ region_same w l.at.found cs (omega (arith, fits, s.spaced.others_at, s.spaced.last_at, s.spaced.pairs_at, s.spaced.spare_at, s.spaced.ends))
      ∙ ap (λ (t : List ℕ). candidates l.at t f) (sym (input_on l w u s sought_beside))

  pub sought_number : n ≡ length (candidates l.at (input l.at u) f)
  sought_number = found.number ∙ ap (λ (t : List ℕ). length (candidates l.at t f)) (sym (input_on l w u s sought_beside))

  -- the marks are as they were
  pub sought_marks : (i : ℕ) → l.marks ≤ i → get_or u i 0 ≡ get_or w i 0
  sought_marks i h = ap (λ (v : List ℕ). get_or v i 0) found.filled ∙ get_or_after w l.at.found cs i 0 (omega (arith, fits, h))

  -- so what is marked after it is marked from before it
  pub sought_more : (R : Rules) (v : List ℕ) (q r : Range) → MarkedMore l (input l.at u) (face_hits R l (input l.at u) f) u v q r → MarkedMore l (input l.at w) (face_hits R l (input l.at w) f) w v q r
  sought_more R v q r a =
      more_from l (input l.at w) (face_hits R l (input l.at w) f) w u v q r sought_marks (omega (arith, s.spaced.others_at)) (omega (arith, s.spaced.others_at, s.spaced.last_at, s.spaced.pairs_at))
      (subst (λ (t : List ℕ). MarkedMore l t (face_hits R l t f) u v q r) (input_on l w u s sought_beside) a)
