-- Every accepted model is renumbered by dropping its loose nodes.
use Prim.Native.Nat.{ℕ, zero, suc, ◌+◌, ◌*◌, ◌%◌, ◌≤◌, ◌<◌}
use mathlib.Core.Path.{◌≡◌, refl, sym, ap, ◌∙◌}
use mathlib.Core.Logic.{◌⊎◌, inl, inr}
use mathlib.Core.Bool.{true, false, not, false≢true}
use mathlib.Core.List.{List, [], ◌∷◌, map}
use native.Mathlib.Omega.{arith}
use borrow.Author.Tests.{ltb-true, ltb-false, lt-ltb, le-ltb, eqb-true, eq-eqb}
use lib.Dec.{ltb, eqb}
use lib.ListN.{length, get_or}
use lib.Ieee.{Float}
use Rattle.laws.specs.Lists.{any, each, keep, elem, up_from}
use Rattle.laws.specs.Limits.{node_limit}
use Rattle.laws.specs.Merging.{Asc}
use Rattle.std.proofs.lemmas.Bool.{cases_Bool, or_cases, or_parts}
use Rattle.laws.proofs.ListLaws.{keep_le, keep-length, length-up_from}
use Rattle.laws.proofs.Ascending.{head_in, later_in, keep_none}
use Rattle.laws.proofs.Members.{kept_distinct}
use Rattle.geometry.specs.Points.{coordinate, point_at}
use Rattle.geometry.specs.Coordinates.{node_count, count_off, coordinate_off}
use Rattle.mesh.specs.Model.{Model, cells_of}
use Rattle.mesh.specs.Rings.{nodes_in}
use Rattle.mesh.specs.Acceptance.{model_refusal}
use Rattle.mesh.proofs.Accepts.{accepts}
use Rattle.mesh.proofs.CellWords.{words_low}
use Rattle.welding.specs.Used.{used_nodes}
use Rattle.welding.proofs.Used.{used-ascend, used-words}
use Rattle.findings.specs.Rules.{full_of}
use Rattle.renumber.specs.Renumbering.{Renumbering, renamed}
use Rattle.renumber.specs.Dropped.{rank, three, dropped}
use Rattle.renumber.proofs.Models.{used_low}
use Rattle.renumber.proofs.Renumbered.{full_renumbered}

-- ---- ranks

-- a member's rank is below the length
rank_within : (a : ℕ) (l : List ℕ) → elem a l ≡ true → rank l a < length l
rank_within a [] e = absurd (false≢true e)
rank_within a (x ∷ l) e = go (cases_Bool (ltb x a)) (or_cases (eqb a x) (elem a l) e) (rank_within a l)
  where
    go : (ltb x a ≡ true) ⊎ (ltb x a ≡ false) → (eqb a x ≡ true) ⊎ (elem a l ≡ true) → (elem a l ≡ true → rank l a < length l)
        → rank (x ∷ l) a < suc (length l)
    go (inl t) (inl s) ih = absurd (omega (arith, ltb-true x a t, eqb-true a x s))
    go (inl t) (inr s) ih = rw t (omega (arith, ih s))
    go (inr t) s ih = rw t (omega (arith, keep-length (λ u. ltb u a) l))

-- ranks rise
rank_rises : (a b : ℕ) (l : List ℕ) → elem a l ≡ true → a < b → rank l a < rank l b
rank_rises a b [] e h = absurd (false≢true e)
rank_rises a b (x ∷ l) e h =
    go (cases_Bool (ltb x a)) (cases_Bool (ltb x b)) (or_cases (eqb a x) (elem a l) e) (λ s. rank_rises a b l s h)
    (keep_le (λ u. ltb u a) (λ u. ltb u b) (λ u t. lt-ltb u b (omega (arith, ltb-true u a t))) l)
  where
    go : (ltb x a ≡ true) ⊎ (ltb x a ≡ false) → (ltb x b ≡ true) ⊎ (ltb x b ≡ false) → (eqb a x ≡ true) ⊎ (elem a l ≡ true)
        → (elem a l ≡ true → rank l a < rank l b) → rank l a ≤ rank l b → rank (x ∷ l) a < rank (x ∷ l) b
    go (inl s) (inl t) (inl q) ih k = absurd (omega (arith, ltb-true x a s, eqb-true a x q))
    go (inl s) (inl t) (inr q) ih k = rw (s, t) (omega (arith, ih q))
    go (inl s) (inr t) q ih k = absurd (omega (arith, ltb-true x a s, ltb-false x b t))
    go (inr s) (inl t) q ih k = rw (s, t) (omega arith)
    go (inr s) (inr t) (inl q) ih k = absurd (omega (arith, eqb-true a x q, ltb-false x b t))
    go (inr s) (inr t) (inr q) ih k = rw (s, t) (ih q)

-- a member stands at its rank
rank_at : (a d : ℕ) (l : List ℕ) → Asc l → elem a l ≡ true → get_or l (rank l a) d ≡ a
rank_at a d [] h e = absurd (false≢true e)
rank_at a d (x ∷ l) h e = go (or_cases (eqb a x) (elem a l) e) (rank_at a d l h.1)
  where
    go : (eqb a x ≡ true) ⊎ (elem a l ≡ true) → (elem a l ≡ true → get_or l (rank l a) d ≡ a) → get_or (x ∷ l) (rank (x ∷ l) a) d ≡ a
    go (inl s) ih =
        let q : a ≡ x = eqb-true a x s in
        let n : keep (λ u. ltb u a) l ≡ [] = keep_none (λ u. ltb u a) l (λ y f. le-ltb y a (omega (arith, h.0 y f))) in
        rw (le-ltb x a (omega arith), n) (sym q)
    go (inr s) ih = rw (lt-ltb x a (h.0 a s)) (ih s)

-- ---- coordinates

length_threes : (c : List Float) (us : List ℕ) → length (each (three c) us) ≡ 3 * length us
length_threes c [] = refl
length_threes c (u ∷ us) = omega (arith, length_threes c us)

three_at : (c : List Float) (us : List ℕ) (j d : ℕ) → j < length us → point_at (each (three c) us) j ≡ point_at c (get_or us j d)
unfolding point_at
three_at c [] j d h = absurd (omega arith)
three_at c (u ∷ us) zero d h = refl
three_at c (u ∷ us) (suc j) d h =
    let l = each (three c) (u ∷ us) in
    let p : suc j * 3 ≡ suc (suc (suc (j * 3))) = omega arith in
    let q : suc j * 3 + 1 ≡ suc (suc (suc (j * 3 + 1))) = omega arith in
    let r : suc j * 3 + 2 ≡ suc (suc (suc (j * 3 + 2))) = omega arith in
    (λ i. record { x = coordinate l (p i); y = coordinate l (q i); z = coordinate l (r i) }) ∙ three_at c us j d (omega arith)

-- a coordinate of an accepted list is accepted
get_or_passes : (c : List Float) (i : ℕ) → any coordinate_off c ≡ false → i < length c → coordinate_off (coordinate c i) ≡ false
get_or_passes [] i e h = absurd (omega arith)
get_or_passes (x ∷ c) zero e h = (or_parts (coordinate_off x) (any coordinate_off c) e).0
get_or_passes (x ∷ c) (suc i) e h = get_or_passes c i (or_parts (coordinate_off x) (any coordinate_off c) e).1 (omega arith)

threes_pass : (c : List Float) (us : List ℕ) → any coordinate_off c ≡ false → ((u : ℕ) → elem u us ≡ true → u * 3 + 2 < length c)
    → any coordinate_off (each (three c) us) ≡ false
threes_pass c [] e h = refl
threes_pass c (u ∷ us) e h =
    let k : u * 3 + 2 < length c = h u (head_in u us) in
    rw (get_or_passes c (u * 3) e (omega arith), get_or_passes c (u * 3 + 1) e (omega arith), get_or_passes c (u * 3 + 2) e k)
    (threes_pass c us e (λ v f. h v (later_in u us v f)))

-- ---- the model

module _ (m : Model) (ok : model_refusal m ≡ 0) where
  -- the nodes used
  abbrev us : List ℕ
  us = used_nodes (cells_of m)

  -- they are kept among all nodes, so no more
  few_used : length us ≤ node_count m.coords
  few_used =
      let ns = nodes_in m.words in
      let N = node_count m.coords in
      let kept = kept_distinct N ns (words_low m (accepts m ok)) in
      omega (arith, ap length (used-words m (accepts m ok)), ap length kept, keep-length (λ a. elem a ns) (up_from 0 N), length-up_from 0 N)

  new_count : node_count (each (three m.coords) us) ≡ length us
  new_count = omega (arith, length_threes m.coords us)

  not_off : count_off (length (each (three m.coords) us)) ≡ false
  not_off =
      let p = or_parts (ltb (3 * node_limit) (length m.coords)) (not (eqb (length m.coords % 3) 0)) (accepts m ok).coordinates in
      let l = length (each (three m.coords) us) in
      let k : l ≡ 3 * length us = length_threes m.coords us in
      rw (le-ltb (3 * node_limit) l (omega (arith, few_used, ltb-false (3 * node_limit) (length m.coords) p.0)), eq-eqb (l % 3) 0 (omega arith))

  -- dropping the loose nodes renumbers
  pub dropped_renumbers : Renumbering (rank us) m (dropped m)
  unfolding dropped
  dropped_renumbers =
      record {
        kinds = refl;
        ends = refl;
        words = refl;
        tolerance = refl;
        flags = refl;
        cap = refl;
        count = not_off;
        places = threes_pass m.coords us (accepts m ok).places (λ u e. omega (arith, used_low m (accepts m ok) u e));
        within = λ a e. omega (arith, new_count, rank_within a us e);
        rises = λ a b e f h. rank_rises a b us e h;
        points = λ a e. three_at m.coords us (rank us a) 0 (rank_within a us e) ∙ ap (point_at m.coords) (rank_at a 0 us (used-ascend (cells_of m)) e);
      }

  -- so its full list is the same, its nodes renamed
  pub dropped_full : full_of (dropped m) ≡ map (renamed (rank us)) (full_of m)
  dropped_full = full_renumbered (rank us) m (dropped m) dropped_renumbers ok
