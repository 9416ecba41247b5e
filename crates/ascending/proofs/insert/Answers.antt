-- `ascending::insert` meets its contract. Found, nothing changes; else the words from its place on move up (`moved_up`).
use Prim.Native.Nat.{ℕ, suc, ◌+◌, ◌-◌, ◌≤◌}
use mathlib.Core.Path.{◌≡◌, sym, ap, ◌∙◌, subst}
use mathlib.Core.List.{List, ◌∷◌, ◌++◌}
use native.Mathlib.Omega.{arith}
use lib.Dec.{leb}
use lib.ListN.{length, get_or, take, drop, length-take, length-drop, length-append}
use lib.Seq.{sets}
use Rattle.laws.specs.Merging.{region, Asc}
use Rattle.laws.specs.Lists.{add}
use Rattle.laws.proofs.Stores.{length-region, sets_self}
use Rattle.std.proofs.lemmas.Cmp.{ranked}
use Rattle.std.specs.declared.cmp.Ordering.TheVariants.{Equal, Less, Greater}
use Rattle.std.specs.Ordering.{nat_cmp, ordering_index}
use Rattle.std.specs.List.Sorted.{IsNonDecreasingBy, IsPartitionPoint}
use Rattle.ascending.proofs.Adding.{add_there, sought, moved_up}
use Rattle.ascending.proofs.insert.Goals as goal

-- the part that is searched is the region, under another name
part_is : (o n : ℕ) (w : List ℕ) → region o n w ≡ take (o + n - o) (drop o w)
part_is o n w = let e : n ≡ o + n - o = omega arith in ap (λ (k : ℕ). region o k w) e

module _ (w : List ℕ) (o n v p : ℕ) (h : o + n ≤ length w) (a : Asc (region o n w)) (b : p ≤ length (take (o + n - o) (drop o w)))
    (s : IsNonDecreasingBy (λ y. ordering_index (nat_cmp y v)) (take (o + n - o) (drop o w)) → IsPartitionPoint (λ y. nat_cmp y v ≡ Less) (λ y. nat_cmp y v ≡ Greater) (take (o + n - o) (drop o w)) p) where
  -- the place is within the list
  within : p ≤ n
  within = omega (arith, length-region o n w h, ap length (part_is o n w))

  -- and is where the number goes
  new : add leb v (region o n w) ≡ take p (region o n w) ++ (v ∷ drop p (region o n w))
  new = rw (part_is o n w) (sought v (take (o + n - o) (drop o w)) p (subst Asc (part_is o n w) a) b s)

  -- the list gets longer by one
  longer : length (add leb v (region o n w)) ≡ suc n
  longer =
      let l : List ℕ = region o n w in
      ap length new ∙ length-append (take p l) (v ∷ drop p l) ∙ omega (arith, length-take p l, length-drop p l, length-region o n w h, within)

pub shift-requires : goal.shift-requires
shift-requires c =
    let a = c.args in
    let e = c.in-Err.ensures in
    omega (arith, within a.work.now a.o a.n a.v c.in-Err.p c.requires.0 c.requires.2 e.bound e.position, longer a.work.now a.o a.n a.v c.in-Err.p c.requires.0 c.requires.2 e.bound e.position)

pub returns-in-Ok : goal.returns-in-Ok
returns-in-Ok c =
    let a = c.args in
    let w = a.work.now in
    let l = region a.o a.n w in
    let long = length-region a.o a.n w c.requires.0 in
    let i = c.in-Ok.field-0 in
    let there : get_or l i 0 ≡ a.v = ap (λ (r : List ℕ). get_or r i 0) (part_is a.o a.n w) ∙ ranked _ a.v Equal (sym (c.in-Ok.ensures.ok 0)) in
    let e : add leb a.v l ≡ l = subst (λ (x : ℕ). add leb x l ≡ l) there (add_there l i c.requires.2 (omega (arith, c.in-Ok.ensures.bound, ap length (part_is a.o a.n w)))) in
    (sym (ap length e ∙ long), sym (ap (sets w a.o) e ∙ sets_self w a.o a.n c.requires.0))

pub returns-in-Err : goal.returns-in-Err
returns-in-Err c =
    let a = c.args in
    let w = a.work.now in
    let p = c.in-Err.p in
    let e = c.in-Err.ensures in (
      omega (arith, longer w a.o a.n a.v p c.requires.0 c.requires.2 e.bound e.position),
      c.shift.ensures
          ∙ moved_up w a.o a.n a.v p c.requires.0 (within w a.o a.n a.v p c.requires.0 c.requires.2 e.bound e.position) (new w a.o a.n a.v p c.requires.0 c.requires.2 e.bound e.position),
    )
