-- A number added to an ascending list, by its seat.
use Prim.Native.Nat.{ℕ, zero, suc, ◌+◌, ◌-◌, ◌≤◌, ◌<◌}
use mathlib.Core.Path.{◌≡◌, refl, sym, ap, ap₂, ◌∙◌}
use mathlib.Core.Bool.{Bool, true, false, ◌||◌}
use mathlib.Core.List.{List, [], ◌∷◌, ◌++◌}
use native.Mathlib.Omega.{arith}
use native.Mathlib.Numerals.{add-one}
use borrow.Author.Tests.{le-leb, lt-leb, le-ltb, ne_eqb}
use lib.Dec.{leb, eqb}
use lib.ListN.{length, get_or, take, drop}
use lib.Seq.{sets, length-take-le}
use Rattle.laws.specs.Merging.{region, Asc}
use Rattle.laws.specs.Lists.{add, elem}
use Rattle.laws.proofs.Tests.{eqb_self}
use Rattle.laws.proofs.ListLaws.{get_or_any}
use Rattle.laws.proofs.Stores.{sets_append, sets_self, drop-region, take-region, length-region}
use Rattle.std.specs.List.Sorted.{IsSorted, IsNonDecreasingBy, IsPartitionPoint}
use Rattle.std.specs.Ordering.{nat_cmp, ordering_index, is_lt}
use Rattle.std.specs.declared.cmp.Ordering.TheVariants.{Less, Greater}
use Rattle.std.proofs.lemmas.Cmp.{nat_cmp_total, ranked}
use Rattle.std.proofs.lemmas.List.Sorted.{searchable_from_sorted}

-- an element is a member
pub get_or_in : (l : List ℕ) (j : ℕ) → j < length l → elem (get_or l j 0) l ≡ true
get_or_in [] j h = absurd (omega arith)
get_or_in (x ∷ l) zero h = rw (eqb_self x)
get_or_in (x ∷ l) (suc j) h = go (eqb (get_or l j 0) x) (get_or_in l j (omega arith))
  where
    go : (b : Bool) → elem (get_or l j 0) l ≡ true → (b || elem (get_or l j 0) l) ≡ true
    go true e = refl
    go false e = e

-- an ascending list is in the library's order
pub rises : (l : List ℕ) (i : ℕ) → Asc l → suc i < length l → get_or l i 0 < get_or l (suc i) 0
rises [] i a h = absurd (omega arith)
rises (x ∷ l) zero a h = a.0 (get_or l 0 0) (get_or_in l 0 (omega arith))
rises (x ∷ l) (suc i) a h = rises l i a.1 (omega arith)

in_order : (l : List ℕ) → Asc l → IsSorted nat_cmp l
in_order l a k d z h = below (get_or l k d) (get_or l (k + 1) d)
    (rw (get_or_any l k d 0 (omega arith), get_or_any l (k + 1) d 0 h, add-one k) (rises l k a (omega arith)))
  where
    below : (x y : ℕ) → x < y → is_lt (nat_cmp y x) ≡ false
    below x y e = rw (le-ltb y x (omega arith), ne_eqb y x (λ q. omega arith)) refl

-- a member is not added
pub add_there : (l : List ℕ) (i : ℕ) → Asc l → i < length l → add leb (get_or l i 0) l ≡ l
add_there [] i a h = absurd (omega arith)
add_there (x ∷ l) zero a h = rw (le-leb x x (omega arith))
add_there (x ∷ l) (suc i) a h =
    let up : x < get_or l i 0 = a.0 (get_or l i 0) (get_or_in l i (omega arith)) in
    rw (lt-leb (get_or l i 0) x up) (ap (λ (r : List ℕ). x ∷ r) (add_there l i a.1 (omega arith)))

-- another goes where those below it end
pub add_new : (v : ℕ) (l : List ℕ) (p : ℕ) → p ≤ length l → ((k : ℕ) → k < p → get_or l k 0 < v) → (p < length l → v < get_or l p 0) → add leb v l ≡ take p l ++ (v ∷ drop p l)
add_new v [] zero h b g = refl
add_new v [] (suc p) h b g = absurd (omega arith)
add_new v (y ∷ l) zero h b g = let up : v < y = g (omega arith) in rw (le-leb v y (omega arith), lt-leb y v up)
add_new v (y ∷ l) (suc p) h b g =
    rw (lt-leb v y (b 0 (omega arith))) (ap (λ (r : List ℕ). y ∷ r) (add_new v l p (omega arith) (λ k e. b (suc k) (omega arith)) (λ e. g (omega arith))))

-- what the library's search says of a number that it does not find
pub sought : (v : ℕ) (l : List ℕ) (p : ℕ) → Asc l → p ≤ length l
    → (IsNonDecreasingBy (λ y. ordering_index (nat_cmp y v)) l → IsPartitionPoint (λ y. nat_cmp y v ≡ Less) (λ y. nat_cmp y v ≡ Greater) l p)
    → add leb v l ≡ take p l ++ (v ∷ drop p l)
sought v l p a h search =
    let at = search (searchable_from_sorted nat_cmp_total (λ y. y) l v (in_order l a)) in
    add_new v l p h
    (λ k b. ranked (get_or l k 0) v Less (sym (at.0 k 0 (omega arith) b)))
    (λ b. ranked (get_or l p 0) v Greater (sym (at.1 p 0 (omega arith) b)))

-- the words moved up are the list with the number added
pub moved_up : (w : List ℕ) (o n x p : ℕ) → o + n ≤ length w → p ≤ n → add leb x (region o n w) ≡ take p (region o n w) ++ (x ∷ drop p (region o n w))
    → sets w (o + p) (x ∷ region (o + p) (n - p) w) ≡ sets w o (add leb x (region o n w))
moved_up w o n x p h p≤n e =
    let l : List ℕ = region o n w in
    let long : length l ≡ n = length-region o n w h in
    let first : length (take p l) ≡ p = length-take-le p l (omega arith) in
    sym
    (ap (sets w o) e
    ∙ sets_append w o (take p l) (x ∷ drop p l)
    ∙ ap₂ (λ (v : List ℕ) (k : ℕ). sets v (o + k) (x ∷ drop p l)) (ap (sets w o) (take-region o n p w p≤n) ∙ sets_self w o p (omega arith)) first
    ∙ ap (λ (r : List ℕ). sets w (o + p) (x ∷ r)) (drop-region o n p w p≤n))
