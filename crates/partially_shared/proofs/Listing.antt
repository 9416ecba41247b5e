-- The list of marked cells: a cell put behind it, and the list in order.
use Prim.Native.Nat.{ℕ, zero, suc, ◌+◌, ◌*◌, ◌≤◌, ◌<◌}
use mathlib.Core.Path.{◌≡◌, refl, sym, ap, ap₂, ◌∙◌, subst}
use mathlib.Core.Logic.{◌⊎◌, inl, inr, ◌≢◌}
use mathlib.Core.Bool.{Bool, true, false, cond}
use mathlib.Core.List.{List, [], ◌∷◌, ◌++◌}
use native.Mathlib.Omega.{arith}
use borrow.Author.Tests.{ltb-true, ltb-false, lt-ltb, le-ltb, eqb-true, eqb-false}
use lib.Dec.{ltb, eqb}
use Rattle.std.specs.Prelude.{Option, Some, None}
use lib.ListN.{length, get_or, set, drop, length-set}
use lib.Seq.{get_or-set_same, get_or-set_other, take-set-le}
use Rattle.laws.specs.Lists.{insert, sort}
use Rattle.laws.proofs.Tests.{clash}
use Rattle.std.proofs.lemmas.Bool.{cases_Bool}
use Rattle.laws.proofs.Stores.{region_set_after}
use Rattle.findings.specs.Rules.{pair_le}
use Rattle.pair_sort.specs.Pairs.{pairs_at}
use Rattle.pair_sort.proofs.PairLaws.{pairs_add, pairs_from}
use Rattle.pair_sort.proofs.PairOrder.{le_more, pair_total}
use Rattle.layout.specs.declared.Layout.{Layout}
use Rattle.layout.specs.Tables.{Spaced}
use Rattle.partially_shared.specs.Listing.{Has, Rising, Listed, ListedIf, list_count, list_with}
use Rattle.partially_shared.specs.Hits.{Beside}

-- ---- what pairs have

pub has_append : (b : ℕ) (ps qs : List (ℕ × ℕ)) → Has b ps ⊎ Has b qs → Has b (ps ++ qs)
has_append b [] qs (inl h) = absurd h
has_append b [] qs (inr h) = h
has_append b (p ∷ ps) qs (inl (inl h)) = inl h
has_append b (p ∷ ps) qs (inl (inr h)) = inr (has_append b ps qs (inl h))
has_append b (p ∷ ps) qs (inr h) = inr (has_append b ps qs (inr h))

pub has_parts : (b : ℕ) (ps qs : List (ℕ × ℕ)) → Has b (ps ++ qs) → Has b ps ⊎ Has b qs
has_parts b [] qs h = inr h
has_parts b (p ∷ ps) qs (inl h) = inl (inl h)
has_parts b (p ∷ ps) qs (inr h) = go (has_parts b ps qs h)
  where
    go : Has b ps ⊎ Has b qs → ((p.0 ≡ b) ⊎ Has b ps) ⊎ Has b qs
    go (inl k) = inl (inr k)
    go (inr k) = inr k

-- ---- sorted

has_insert : (b : ℕ) (p : ℕ × ℕ) (ps : List (ℕ × ℕ)) → Has b (p ∷ ps) → Has b (insert pair_le p ps)
has_insert b p [] h = h
has_insert b p (q ∷ ps) h = go (has_insert b p ps) (cases_Bool (pair_le p q))
  where
    on : (Has b (p ∷ ps) → Has b (insert pair_le p ps)) → (p.0 ≡ b) ⊎ Has b (q ∷ ps) → Has b (q ∷ insert pair_le p ps)
    on f (inl k) = inr (f (inl k))
    on f (inr (inl k)) = inl k
    on f (inr (inr k)) = inr (f (inr k))

    go : (Has b (p ∷ ps) → Has b (insert pair_le p ps)) → (pair_le p q ≡ true) ⊎ (pair_le p q ≡ false) → Has b (cond (pair_le p q) (p ∷ q ∷ ps) (q ∷ insert pair_le p ps))
    go f (inl e) = subst (λ (x : Bool). Has b (cond x (p ∷ q ∷ ps) (q ∷ insert pair_le p ps))) (sym e) h
    go f (inr e) = subst (λ (x : Bool). Has b (cond x (p ∷ q ∷ ps) (q ∷ insert pair_le p ps))) (sym e) (on f h)

insert_has : (b : ℕ) (p : ℕ × ℕ) (ps : List (ℕ × ℕ)) → Has b (insert pair_le p ps) → Has b (p ∷ ps)
insert_has b p [] h = h
insert_has b p (q ∷ ps) h = go (insert_has b p ps) (cases_Bool (pair_le p q))
  where
    back : (p.0 ≡ b) ⊎ Has b ps → (p.0 ≡ b) ⊎ Has b (q ∷ ps)
    back (inl j) = inl j
    back (inr j) = inr (inr j)

    on : (Has b (insert pair_le p ps) → Has b (p ∷ ps)) → (q.0 ≡ b) ⊎ Has b (insert pair_le p ps) → (p.0 ≡ b) ⊎ Has b (q ∷ ps)
    on f (inl k) = inr (inl k)
    on f (inr k) = back (f k)

    go : (Has b (insert pair_le p ps) → Has b (p ∷ ps)) → (pair_le p q ≡ true) ⊎ (pair_le p q ≡ false) → Has b (p ∷ q ∷ ps)
    go f (inl e) = subst (λ (x : Bool). Has b (cond x (p ∷ q ∷ ps) (q ∷ insert pair_le p ps))) e h
    go f (inr e) = on f (subst (λ (x : Bool). Has b (cond x (p ∷ q ∷ ps) (q ∷ insert pair_le p ps))) e h)

-- a sorted list has what the list has
pub has_sort : (b : ℕ) (ps : List (ℕ × ℕ)) → Has b ps → Has b (sort pair_le ps)
has_sort b [] h = h
has_sort b (p ∷ ps) (inl h) = has_insert b p (sort pair_le ps) (inl h)
has_sort b (p ∷ ps) (inr h) = has_insert b p (sort pair_le ps) (inr (has_sort b ps h))

-- and nothing else
pub sort_has : (b : ℕ) (ps : List (ℕ × ℕ)) → Has b (sort pair_le ps) → Has b ps
sort_has b [] h = h
sort_has b (p ∷ ps) h = go (sort_has b ps) (insert_has b p (sort pair_le ps) h)
  where
    go : (Has b (sort pair_le ps) → Has b ps) → (p.0 ≡ b) ⊎ Has b (sort pair_le ps) → (p.0 ≡ b) ⊎ Has b ps
    go f (inl k) = inl k
    go f (inr k) = inr (f k)

-- the order is by the first words
le_first : (p q : ℕ × ℕ) → pair_le p q ≡ true → p.0 ≤ q.0
le_first p q e = go (cases_Bool (ltb q.0 p.0))
  where
    go : (ltb q.0 p.0 ≡ true) ⊎ (ltb q.0 p.0 ≡ false) → p.0 ≤ q.0
    go (inl k) = clash e (le_more p q (ltb-true q.0 p.0 k))
    go (inr k) = ltb-false q.0 p.0 k

not_le_first : (p q : ℕ × ℕ) → pair_le p q ≡ false → q.0 ≤ p.0
not_le_first p q e = le_first q p (pair_total.total p q e)

rising_insert : (p : ℕ × ℕ) (ps : List (ℕ × ℕ)) → Rising ps → Rising (insert pair_le p ps)
rising_insert p [] r = (λ b h. absurd h, tt)
rising_insert p (q ∷ ps) r = go (rising_insert p ps r.1) (cases_Bool (pair_le p q))
  where
    before : p.0 ≤ q.0 → (b : ℕ) → (q.0 ≡ b) ⊎ Has b ps → p.0 ≤ b
    before k b (inl h) = omega (arith, k, h)
    before k b (inr h) = let j = r.0 b h in omega (arith, k, j)

    behind : q.0 ≤ p.0 → (b : ℕ) → (p.0 ≡ b) ⊎ Has b ps → q.0 ≤ b
    behind k b (inl h) = omega (arith, k, h)
    behind k b (inr h) = r.0 b h

    go : Rising (insert pair_le p ps) → (pair_le p q ≡ true) ⊎ (pair_le p q ≡ false) → Rising (cond (pair_le p q) (p ∷ q ∷ ps) (q ∷ insert pair_le p ps))
    go i (inl e) = subst (λ (x : Bool). Rising (cond x (p ∷ q ∷ ps) (q ∷ insert pair_le p ps))) (sym e) (before (le_first p q e), r)
    go i (inr e) = subst (λ (x : Bool). Rising (cond x (p ∷ q ∷ ps) (q ∷ insert pair_le p ps))) (sym e) (λ b h. behind (not_le_first p q e) b (insert_has b p ps h), i)

pub rising_sort : (ps : List (ℕ × ℕ)) → Rising (sort pair_le ps)
rising_sort [] = tt
rising_sort (p ∷ ps) = rising_insert p (sort pair_le ps) (rising_sort ps)

-- ---- one cell more

-- pairs before a store
pairs_set : (o n i x : ℕ) (w : List ℕ) → o + 2 * n ≤ i → pairs_at o n (set w i x) ≡ pairs_at o n w
pairs_set o zero i x w h = refl
pairs_set o (suc n) i x w h =
    ap₂ (λ (p : ℕ × ℕ) (ps : List (ℕ × ℕ)). p ∷ ps)
    (ap₂ (λ (a b : ℕ). (a, b)) (get_or-set_other w i o x 0 (λ e. absurd (omega (arith, e, h)))) (get_or-set_other w i (o + 1) x 0 (λ e. absurd (omega (arith, e, h)))))
    (pairs_set (o + 2) n i x w (omega (arith, h)))

-- what becomes of the list where it has room, and where not
pub list_room : (l : Layout) (b n : ℕ) (w : List ℕ) → n < l.words → (Some (n + 1) ≡ list_count l (Some n)) × (set w (l.pairs + 2 * n) b ≡ list_with l b (Some n) w)
unfolding list_count list_with
list_room l b n w h = (
  sym (ap (λ (y : Bool). cond y (Some (n + 1)) None) (lt-ltb n l.words h)),
  sym (ap (λ (y : Bool). cond y (set w (l.pairs + 2 * n) b) w) (lt-ltb n l.words h)),
)

pub list_full : (l : Layout) (b n : ℕ) (w : List ℕ) → l.words ≤ n → (None ≡ list_count l (Some n)) × (w ≡ list_with l b (Some n) w)
unfolding list_count list_with
list_full l b n w h = (
  sym (ap (λ (y : Bool). cond y (Some (n + 1)) None) (le-ltb n l.words h)),
  sym (ap (λ (y : Bool). cond y (set w (l.pairs + 2 * n) b) w) (le-ltb n l.words h)),
)

pub list_none : (l : Layout) (b : ℕ) (w : List ℕ) → (None ≡ list_count l None) × (w ≡ list_with l b None w)
unfolding list_count list_with
list_none l b w = (refl, refl)

-- a word before the list is as it was
pub list_before : (l : Layout) (b : ℕ) (n : Option ℕ) (w : List ℕ) (i : ℕ) → i < l.pairs → get_or (list_with l b n w) i 0 ≡ get_or w i 0
unfolding list_with
list_before l b None w i h = refl
list_before l b (Some n) w i h = go (ltb n l.words)
  where
    go : (x : Bool) → get_or (cond x (set w (l.pairs + 2 * n) b) w) i 0 ≡ get_or w i 0
    go true = get_or-set_other w (l.pairs + 2 * n) i b 0 (λ e. absurd (omega (arith, e, h)))
    go false = refl

pub list_beside : (l : Layout) (b : ℕ) (n : Option ℕ) (w : List ℕ) → Spaced l (length w) → Beside l.marks l w (list_with l b n w)
unfolding list_with
list_beside l b None w sp = record { before = refl; behind = refl; long = refl }
list_beside l b (Some n) w sp = go (ltb n l.words)
  where
    go : (x : Bool) → Beside l.marks l w (cond x (set w (l.pairs + 2 * n) b) w)
    go true = record {
      before = take-set-le l.marks w (l.pairs + 2 * n) b (omega (arith, sp.others_at, sp.last_at, sp.pairs_at));
      behind = region_set_after l.last l.at.nodes w (l.pairs + 2 * n) b (omega (arith, sp.pairs_at));
      long = length-set w (l.pairs + 2 * n) b;
    }
    go false = record { before = refl; behind = refl; long = refl }

-- the list of w, of which v is the next state, with c behind it: c is marked in v, and no other that was not
pub listed_more : (l : Layout) (c : ℕ) (n : Option ℕ) (w v : List ℕ) → Spaced l (length w) → length v ≡ length w → c < l.at.cell_count → drop l.pairs v ≡ drop l.pairs w
    → ((b : ℕ) → b < l.at.cell_count → c ≢ b → get_or v (l.marks + b) 0 ≡ get_or w (l.marks + b) 0)
    → ListedIf l w n → ListedIf l (list_with l c n v) (list_count l n)
unfolding list_count list_with
listed_more l c None w v sp long low same other p = tt
listed_more l c (Some n) w v sp long low same other p = go (cases_Bool (ltb n l.words))
  where
    u : List ℕ
    u = set v (l.pairs + 2 * n) c

    ps : List (ℕ × ℕ)
    ps = pairs_at l.pairs n w

    grown : n < l.words → pairs_at l.pairs (n + 1) u ≡ ps ++ ((c, get_or u (l.pairs + 2 * n + 1) 0) ∷ [])
    grown h =
        pairs_add l.pairs n 1 u
        ∙ ap₂ (λ (a : List (ℕ × ℕ)) (x : ℕ). a ++ ((x, get_or u (l.pairs + 2 * n + 1) 0) ∷ []))
        (pairs_set l.pairs n (l.pairs + 2 * n) c v (omega arith) ∙ pairs_from l.pairs l.pairs n v w same (omega arith))
        (get_or-set_same v (l.pairs + 2 * n) c 0 (omega (arith, long, h, sp.spare_at, sp.ends)))

    mark : (b : ℕ) → b < l.at.cell_count → get_or u (l.marks + b) 0 ≡ get_or v (l.marks + b) 0
    mark b h = get_or-set_other v (l.pairs + 2 * n) (l.marks + b) c 0 (λ e. absurd (omega (arith, e, h, sp.others_at, sp.last_at, sp.pairs_at)))

    more : n < l.words → Listed l u (n + 1)
    more h =
        record {
          known = λ b a. low_one b (has_parts b ps ((c, get_or u (l.pairs + 2 * n + 1) 0) ∷ []) (subst (Has b) (grown h) a));
          there = λ b a m. subst (Has b) (sym (grown h)) (has_append b ps ((c, get_or u (l.pairs + 2 * n + 1) 0) ∷ []) (has_one b a m (cases_Bool (eqb c b))));
        }
      where
        low_one : (b : ℕ) → Has b ps ⊎ Has b ((c, get_or u (l.pairs + 2 * n + 1) 0) ∷ []) → b < l.at.cell_count
        low_one b (inl a) = p.1.known b a
        low_one b (inr (inl a)) = omega (arith, a, low)
        low_one b (inr (inr a)) = absurd a

        has_one : (b : ℕ) → b < l.at.cell_count → get_or u (l.marks + b) 0 ≢ 0 → (eqb c b ≡ true) ⊎ (eqb c b ≡ false) → Has b ps ⊎ Has b ((c, get_or u (l.pairs + 2 * n + 1) 0) ∷ [])
        has_one b a m (inl e) = inr (inl (eqb-true c b e))
        has_one b a m (inr e) = inl (p.1.there b a (λ z. m (mark b a ∙ other b a (eqb-false c b e) ∙ z)))

    go : (ltb n l.words ≡ true) ⊎ (ltb n l.words ≡ false) → ListedIf l (cond (ltb n l.words) u v) (cond (ltb n l.words) (Some (n + 1)) None)
    go (inl e) =
        let h = ltb-true n l.words e in
        subst (λ (x : Bool). ListedIf l (cond x u v) (cond x (Some (n + 1)) None)) (sym e) (omega (arith, h), more h)
    go (inr e) = subst (λ (x : Bool). ListedIf l (cond x u v) (cond x (Some (n + 1)) None)) (sym e) tt

-- a list that has had room for all, by its number
pub list_there : (l : Layout) (w : List ℕ) (x : Option ℕ) (n : ℕ) → x ≡ Some n → ListedIf l w x → (n ≤ l.words) × Listed l w n
list_there l w x n e p = subst (ListedIf l w) e p

pairs_alike : (l : Layout) (n : ℕ) (u w : List ℕ) → ((i : ℕ) → l.marks ≤ i → get_or w i 0 ≡ get_or u i 0) → (o : ℕ) → l.marks ≤ o → pairs_at o n w ≡ pairs_at o n u
pairs_alike l zero u w same o h = refl
pairs_alike l (suc n) u w same o h =
    ap₂ (λ (p : ℕ × ℕ) (ps : List (ℕ × ℕ)). p ∷ ps)
    (ap₂ (λ (a b : ℕ). (a, b)) (same o h) (same (o + 1) (omega (arith, h))))
    (pairs_alike l n u w same (o + 2) (omega (arith, h)))

-- the list stands in another slice with the same words from `marks` on
pub listed_same : (l : Layout) (n : Option ℕ) (u w : List ℕ) → ((i : ℕ) → l.marks ≤ i → get_or w i 0 ≡ get_or u i 0) → l.marks ≤ l.pairs → ListedIf l u n → ListedIf l w n
listed_same l None u w same h p = tt
listed_same l (Some n) u w same h p = (
  p.0,
  record {
    known = λ b a. p.1.known b (subst (Has b) (pairs_alike l n u w same l.pairs h) a);
    there = λ b a z. subst (Has b) (sym (pairs_alike l n u w same l.pairs h)) (p.1.there b a (λ e. z (same (l.marks + b) (omega arith) ∙ e)));
  },
)
