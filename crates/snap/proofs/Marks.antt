-- Marks: which nodes are taken once a group is marked, and the numbers that marks give.
use Prim.Native.Nat.{ℕ, zero, suc, ◌+◌, ◌-◌, ◌≤◌, ◌<◌}
use mathlib.Core.Path.{◌≡◌, refl, sym, ap, ◌∙◌, subst}
use mathlib.Core.Logic.{◌⊎◌, inl, inr}
use mathlib.Core.Bool.{Bool, true, false, not, ◌||◌}
use mathlib.Core.List.{List, [], ◌∷◌}
use native.Mathlib.Numerals.{add-one}
use native.Mathlib.Omega.{arith}
use borrow.Author.Tests.{eqb-true, eqb-false, ne_eqb}
use lib.Dec.{eqb}
use lib.ListN.{length, get_or, set, take, drop, replicate, length-set}
use lib.Seq.{sets, get_or-set_same, get_or-set_other, take-set-le, take-set-lt, drop-set-lt, drop-set-add, drop-cons}
use Rattle.laws.specs.Lists.{elem, up_from}
use Rattle.laws.specs.Merging.{region, AllBelow}
use Rattle.std.proofs.lemmas.Bool.{cases_Bool}
use Rattle.laws.proofs.Stores.{get_or_after}
use Rattle.snap.specs.Weld.{give}
use Rattle.snap.specs.Steps.{marked, put_all, number_of, numbers}

-- three tests in another order
or_turn : (a b m : Bool) → (a || (b || m)) ≡ ((b || a) || m)
or_turn true true m = refl
or_turn true false m = refl
or_turn false true m = refl
or_turn false false m = refl

module _ (k size v : ℕ) (some : 0 < v) where
  -- a store of one mark
  marked_one : (l : List ℕ) (x n : ℕ) → n < size → k + size ≤ length l → marked k (set l (k + x) v) n ≡ (eqb n x || marked k l n)
  marked_one l x n h b = go (cases_Bool (eqb n x))
    where
      go : (eqb n x ≡ true) ⊎ (eqb n x ≡ false) → marked k (set l (k + x) v) n ≡ (eqb n x || marked k l n)
      go (inl e) =
          let s : n ≡ x = eqb-true n x e in
          let w : get_or (set l (k + x) v) (k + n) 0 ≡ v = subst (λ (y : ℕ). get_or (set l (k + y) v) (k + n) 0 ≡ v) s (get_or-set_same l (k + n) v 0 (omega arith)) in
          rw (w, e, ne_eqb v 0 (λ (z : v ≡ 0). omega arith))
      go (inr e) =
          let o : get_or (set l (k + x) v) (k + n) 0 ≡ get_or l (k + n) 0 = get_or-set_other l (k + x) (k + n) v 0 (λ q. eqb-false n x e (omega arith)) in
          rw (o, e)

  -- the nodes of G are taken besides
  pub marked_all : (G l : List ℕ) (n : ℕ) → n < size → k + size ≤ length l → marked k (put_all k v G l) n ≡ (elem n G || marked k l n)
  marked_all [] l n h b = refl
  marked_all (x ∷ G) l n h b =
      marked_all G (set l (k + x) v) n h (omega (arith, length-set l (k + x) v))
      ∙ ap (λ (m : Bool). elem n G || m) (marked_one l x n h b)
      ∙ or_turn (elem n G) (eqb n x) (marked k l n)

module _ (k size v : ℕ) where
  -- what lies before the marks stays
  pub take_put : (G l : List ℕ) → take k (put_all k v G l) ≡ take k l
  take_put [] l = refl
  take_put (x ∷ G) l = take_put G (set l (k + x) v) ∙ take-set-le k l (k + x) v (omega arith)

  -- the length stays
  pub length_put : (G l : List ℕ) → length (put_all k v G l) ≡ length l
  length_put [] l = refl
  length_put (x ∷ G) l = length_put G (set l (k + x) v) ∙ length-set l (k + x) v

  -- what lies behind them stays
  pub drop_put : (G l : List ℕ) → AllBelow size G → drop (k + size) (put_all k v G l) ≡ drop (k + size) l
  drop_put [] l h = refl
  drop_put (x ∷ G) l h = drop_put G (set l (k + x) v) h.1 ∙ drop-set-lt (k + size) l (k + x) v (omega (arith, h.0))

  -- the marks are given to the nodes
  pub region_put : (G l : List ℕ) → AllBelow size G → region k size (put_all k v G l) ≡ give v G (region k size l)
  region_put [] l h = refl
  region_put (x ∷ G) l h =
      region_put G (set l (k + x) v) h.1
      ∙ ap (give v G) (ap (take size) (drop-set-add k l x v) ∙ take-set-lt size (drop k l) x v h.0)

-- stores before the marks
pub marked_sets : (k g : ℕ) (xs l : List ℕ) (n : ℕ) → g + length xs ≤ k → marked k (sets l g xs) n ≡ marked k l n
marked_sets k g xs l n h = ap (λ (v : ℕ). not (eqb v 0)) (get_or_after l g xs (k + n) 0 (omega arith))

-- ---- numbers

-- the mark of the number m gives m
number_mark : (i m : ℕ) → number_of i (m + 1) ≡ m
unfolding number_of
number_mark i m = rw (ne_eqb (m + 1) 0 (λ (z : m + 1 ≡ 0). omega arith)) (omega arith)

-- a mark set is a number set
numbers_set : (i : ℕ) (l : List ℕ) (n m : ℕ) → numbers i (set l n (m + 1)) ≡ set (numbers i l) n m
numbers_set i [] n m = refl
numbers_set i (w ∷ l) zero m = ap (λ (x : ℕ). x ∷ numbers (suc i) l) (number_mark i m)
numbers_set i (w ∷ l) (suc n) m = ap (λ (r : List ℕ). number_of i w ∷ r) (numbers_set (suc i) l n m)

-- marks of a group give the group its number
pub numbers_give : (m : ℕ) (G l : List ℕ) → numbers 0 (give (m + 1) G l) ≡ give m G (numbers 0 l)
numbers_give m [] l = refl
numbers_give m (x ∷ G) l = numbers_give m G (set l x (m + 1)) ∙ ap (give m G) (numbers_set 0 l x m)

-- no marks: each node's own number
pub numbers_none : (i n : ℕ) → numbers i (replicate n 0) ≡ up_from i n
unfolding number_of
numbers_none i zero = refl
numbers_none i (suc n) = ap (λ (r : List ℕ). i ∷ r) (numbers_none (suc i) n)

-- a number for each mark
pub length_numbers : (i : ℕ) (l : List ℕ) → length (numbers i l) ≡ length l
length_numbers i [] = refl
length_numbers i (w ∷ l) = ap suc (length_numbers (suc i) l)

-- a turn of settling: l is the list at entry, from i on still as it was
pub settle_step : (v l : List ℕ) (i : ℕ) → i < length l → sets (set v i (number_of i (get_or l i 0))) (i + 1) (numbers (i + 1) (drop (i + 1) l)) ≡ sets v i (numbers i (drop i l))
settle_step v l i h = rw (add-one i) (sym (ap (λ (r : List ℕ). sets v i (numbers i r)) (drop-cons l i 0 h)))

-- a turn of numbering
pub number_step : (l : List ℕ) (i n : ℕ) → i < n → sets (set l i i) (i + 1) (up_from (i + 1) (n - (i + 1))) ≡ sets l i (up_from i (n - i))
number_step l i n h =
    let e : n - i ≡ suc (n - (i + 1)) = omega arith in
    rw (e, add-one i)
