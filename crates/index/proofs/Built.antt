-- What the index leaves is what a search asks: a caller of both goes by this.
use Prim.Native.Nat.{ℕ, zero, suc, ◌+◌, ◌-◌, ◌≤◌, ◌<◌}
use mathlib.Core.Path.{◌≡◌, refl, sym, ap, ◌∙◌, subst}
use mathlib.Core.Logic.{◌⊎◌, inl, inr}
use mathlib.Core.Bool.{true, false}
use mathlib.Core.List.{List, [], ◌∷◌, ◌++◌, append-nil}
use native.Mathlib.Omega.{arith}
use native.Mathlib.Nat.{zero-add}
use lib.Dec.{eqb}
use lib.ListN.{length, get_or, take, length-append, get_or-append}
use lib.Seq.{sets, length-sets, length-take-le, take-take, get_or-take, drop_at, take_at, drop-append-add}
use Rattle.laws.specs.Merging.{region}
use Rattle.laws.specs.Lists.{each, up_from}
use Rattle.std.proofs.lemmas.Bool.{cases_Bool}
use Rattle.laws.proofs.ListLaws.{each_append, up_from_snoc}
use Rattle.laws.proofs.Stores.{take_before, get_or_within, region-take, region_within}
use Rattle.counting.specs.Counts.{times, below}
use Rattle.counting.proofs.CountLaws.{numbered, length_numbered, below_suc, below_mono, below_zero, below_length}
use Rattle.index.specs.declared.Places.{Places}
use Rattle.index.specs.Faces.{input, base, words_of, faces_with, offsets_of, index_of, Laid, Room, Indexed}
use Rattle.index.specs.Steps.{entries_to, pick}
use Rattle.index.proofs.Placing.{nodes}
use Rattle.index.proofs.Entries.{words_long, entries_all, picked_all, up_from_split}

-- as many faces are picked at n as n stands among the nodes
pick_long : (n : ℕ) (E : List (ℕ × ℕ)) → length (pick n E) ≡ times n (nodes E)
unfolding pick
pick_long n [] = refl
pick_long n (k ∷ E) = go (pick_long n E) (cases_Bool (eqb n k.0))
  where
    go : length (pick n E) ≡ times n (nodes E) → (eqb n k.0 ≡ true) ⊎ (eqb n k.0 ≡ false) → length (pick n (k ∷ E)) ≡ times n (nodes (k ∷ E))
    go ih (inl a) = rw a (ap suc ih)
    go ih (inr a) = rw a ih

module _ (p : Places) (t : List ℕ) (laid : Laid p t) where
  abbrev S : List ℕ
  S = words_of p t

  abbrev f : ℕ → List ℕ
  f = faces_with p t

  -- a list is as long as its node is frequent
  pub list_long : (n : ℕ) → length (f n) ≡ times n S
  list_long n = ap length (sym (picked_all p t laid n)) ∙ pick_long n (entries_to p t p.faces) ∙ ap (times n) (entries_all p t laid)

  -- the lists of the nodes below n
  lists_long : (n : ℕ) → length (each f (up_from 0 n)) ≡ below n S
  lists_long zero = sym (below_zero S)
  lists_long (suc n) =
      ap (λ (l : List ℕ). length (each f l)) (up_from_snoc 0 n ∙ ap (λ (j : ℕ). up_from 0 n ++ (j ∷ [])) (zero-add n))
      ∙ ap length (each_append f (up_from 0 n) (n ∷ []) ∙ ap (λ (l : List ℕ). each f (up_from 0 n) ++ l) (append-nil (f n)))
      ∙ length-append (each f (up_from 0 n)) (f n)
      ∙ omega (arith, lists_long n, list_long n, below_suc n S)

  -- the list of n within all lists
  list_part : (n : ℕ) → n < p.nodes → region (below n S) (times n S) (index_of p t) ≡ f n
  unfolding index_of
  list_part n h =
      let k : ℕ = p.nodes - suc n in
      let e : p.nodes ≡ n + suc k = omega arith in
      let r : List ℕ = each f (up_from (suc n) k) in
      let split : each f (up_from 0 p.nodes) ≡ each f (up_from 0 n) ++ (f n ++ r) =
      ap (λ (j : ℕ). each f (up_from 0 j)) e ∙ ap (each f) (up_from_split 0 n k ∙ ap (λ (j : ℕ). up_from 0 n ++ (j ∷ up_from (suc j) k)) (zero-add n)) ∙ each_append f (up_from 0 n) (n ∷ up_from (suc n) k) in
      ap (region (below n S) (times n S)) split
      ∙ ap (take (times n S)) (drop_at (each f (up_from 0 n)) (f n ++ r) (below n S) (lists_long n))
      ∙ take_at (f n) r (times n S) (list_long n)

module _ (p : Places) (w : List ℕ) (laid : Laid p (input p w)) (room : Room p (length w)) where
  abbrev o : ℕ
  o = p.offsets

  abbrev t₀ : List ℕ
  t₀ = input p w

  abbrev ys : List ℕ
  ys = offsets_of p t₀ ++ index_of p t₀

  abbrev v : List ℕ
  v = sets w o ys

  -- how many offsets there are
  offsets_long : length (offsets_of p t₀) ≡ p.nodes + 2
  unfolding offsets_of
  offsets_long = length_numbered (λ n. below n (words_of p t₀)) (p.nodes + 2)

  -- the index has room
  index_long : length (index_of p t₀) ≤ p.words
  unfolding index_of
  index_long = omega (arith, lists_long p t₀ laid p.nodes, below_length p.nodes (words_of p t₀), words_long p t₀ laid)

  -- and is as long as all lists
  index_exact : length (index_of p t₀) ≡ below p.nodes (words_of p t₀)
  unfolding index_of
  index_exact = lists_long p t₀ laid p.nodes

  -- both fit
  all_long : (length ys ≡ p.nodes + 2 + length (index_of p t₀)) × (o + length ys ≤ length w)
  all_long =
      let e : length ys ≡ p.nodes + 2 + length (index_of p t₀) = length-append (offsets_of p t₀) (index_of p t₀) ∙ omega (arith, offsets_long) in
      (e, omega (arith, index_long, room.index_at, room.found_at, room.ends))

  -- before `found`
  pub index_before : o + length ys ≤ p.found
  index_before = omega (arith, all_long.0, index_long, room.index_at, room.found_at)

  -- what a search reads is whole
  base_long : length (base p v) ≡ p.found
  base_long = length-take-le p.found v (omega (arith, length-sets w o ys, room.ends))

  -- the index lies below `found`
  pub below_found : o ≤ p.found
  below_found = omega (arith, room.index_at, room.found_at)

  -- the input stays
  same_input : input p v ≡ t₀
  same_input = take_before o w o ys (omega arith)

  -- also in what a search reads
  pub input_is : input p (base p v) ≡ t₀
  input_is = take-take o p.found v below_found ∙ same_input

  -- an offset, read
  offset_there : (n : ℕ) → n < p.nodes + 2 → get_or (base p v) (o + n) 0 ≡ below n (words_of p t₀)
  unfolding offsets_of
  offset_there n h =
      get_or-take p.found v (o + n) 0 (omega (arith, room.index_at, room.found_at))
      ∙ get_or_within w o ys n 0 (omega (arith, all_long.0)) all_long.1
      ∙ get_or-append (offsets_of p t₀) (index_of p t₀) 0 n (omega (arith, offsets_long))
      ∙ numbered (λ k. below k (words_of p t₀)) (p.nodes + 2) n h

  -- a list, read
  part_there : (n : ℕ) → n < p.nodes → region (p.index + below n (words_of p t₀)) (times n (words_of p t₀)) (base p v) ≡ faces_with p t₀ n
  part_there n h =
      let S₀ : List ℕ = words_of p t₀ in
      let fit : below n S₀ + times n S₀ ≤ length (index_of p t₀) = omega (arith, below_suc n S₀, below_mono (suc n) p.nodes S₀ h, index_exact) in
      let fit' : below n S₀ + times n S₀ ≤ p.words = omega (arith, index_long) in
      let e : p.index + below n S₀ ≡ o + (p.nodes + 2 + below n S₀) = omega (arith, room.index_at) in
      let d : p.nodes + 2 + below n S₀ ≡ length (offsets_of p t₀) + below n S₀ = omega (arith, offsets_long) in
      region-take (p.index + below n S₀) (times n S₀) p.found v (omega (arith, room.found_at))
      ∙ ap (λ (k : ℕ). region k (times n S₀) v) e
      ∙ region_within (p.nodes + 2 + below n S₀) (times n S₀) w o ys (omega (arith, all_long.0)) all_long.1
      ∙ ap (λ (k : ℕ). region k (times n S₀) ys) d
      ∙ ap (take (times n S₀)) (drop-append-add (offsets_of p t₀) (index_of p t₀) (below n S₀))
      ∙ list_part p t₀ laid n h

  -- all that a search asks
  pub built : Indexed p (base p v)
  built = record {
    laid = subst (Laid p) (sym input_is) laid;
    index_at = room.index_at;
    whole = omega (arith, base_long, room.found_at);
    small = room.small;
    offset = λ n h. subst (λ (s : List ℕ). get_or (base p v) (o + n) 0 ≡ below n (words_of p s)) (sym input_is) (offset_there n h);
    part = λ n h. subst (λ (s : List ℕ). region (p.index + below n (words_of p s)) (times n (words_of p s)) (base p v) ≡ faces_with p s n) (sym input_is) (part_there n h);
  }
