-- A leader's walk: what is still to be taken, put behind what is there, is all that is taken put behind the leader.
use Prim.Native.Nat.{ℕ, ◌+◌, ◌-◌, ◌≤◌, ◌<◌}
use mathlib.Core.Path.{◌≡◌, refl, sym, ap, ap₂, ◌∙◌}
use mathlib.Core.Bool.{Bool, true, false, not}
use mathlib.Core.List.{List, []}
use native.Mathlib.Numerals.{add-one}
use native.Mathlib.Nat.{add-zero}
use native.Mathlib.Omega.{arith}
use lib.Dec.{eqb}
use lib.Ieee.{Float}
use lib.ListN.{length, get_or, set, take, drop, length-set}
use lib.Seq.{slice, sets, take-set-le, drop-set-lt}
use Rattle.laws.specs.Merging.{AllBelow}
use Rattle.geometry.specs.declared.Point.{Point}
use Rattle.geometry.specs.Points.{point_at}
use Rattle.geometry.specs.Coordinates.{node_count}
use Rattle.snap.specs.Weld.{takes, far_of, near_of}
use Rattle.snap.specs.Steps.{marked, far_points, near_points, InOrder, PassedOver}
use Rattle.snap.proofs.Parts.{in_slice, slice_to, nodes_rest, read_to, read_from}
use Rattle.snap.proofs.Groups.{step_skip, step_stop, step_take, takes_none}
use Rattle.snap.proofs.Between.{takes_over, order_kept, passed_kept}

-- what the node at g takes of those in [j, e), with the marks at k
abbrev pub taken : List Float → Float → List ℕ → ℕ → ℕ → ℕ → ℕ → List ℕ
taken c t u e g k j = takes c t (get_or u g 0) (marked k u) (slice j e u)

-- the words were u and are w; of [i, e) those before j were looked at, and the group ends with `last`
pub record Taking (c : List Float) (t : Float) (u : List ℕ) (i e g k : ℕ) (w : List ℕ) (j last : ℕ) : Type 0 where
  pub from : i ≤ j
  pub to : j ≤ e
  pub grown : g ≤ last
  pub room : last + i ≤ g + j
  pub size : length w ≡ length u
  pub front : take (g + 1) w ≡ take (g + 1) u
  pub back : drop k w ≡ drop k u
  pub count : last + 1 + length (taken c t u e g k j) ≡ g + 1 + length (taken c t u e g k i)
  pub rest : sets w (last + 1) (taken c t u e g k j) ≡ sets u (g + 1) (taken c t u e g k i)

-- at first none was looked at
pub begun : (c : List Float) (t : Float) (u : List ℕ) (i e g k : ℕ) → i ≤ e → Taking c t u i e g k u i g
begun c t u i e g k h =
    record { from = omega arith; to = h; grown = omega arith; room = omega arith; size = refl; front = refl; back = refl; count = refl; rest = refl }

module _ {c : List Float} {t : Float} {u : List ℕ} {i e g k : ℕ} {w : List ℕ} {j last : ℕ} (v : Taking c t u i e g k w j last) where
  -- on to m, where those from m on are all that is left to be taken
  on : (m : ℕ) → j ≤ m → m ≤ e → taken c t u e g k j ≡ taken c t u e g k m → Taking c t u i e g k w m last
  on m p q s =
      record {
        from = omega (arith, v.from);
        to = q;
        grown = v.grown;
        room = omega (arith, v.room);
        size = v.size;
        front = v.front;
        back = v.back;
        count = ap (λ (l : List ℕ). last + 1 + length l) (sym s) ∙ v.count;
        rest = ap (sets w (last + 1)) (sym s) ∙ v.rest;
      }

  -- where no more is taken the group is whole
  whole : taken c t u e g k j ≡ [] → (last + 1 ≡ g + 1 + length (taken c t u e g k i)) × (w ≡ sets u (g + 1) (taken c t u e g k i))
  whole s =
      (sym (add-zero (last + 1)) ∙ ap (λ (l : List ℕ). last + 1 + length l) (sym s) ∙ v.count, ap (sets w (last + 1)) (sym s) ∙ v.rest)

  pub ended : e ≤ j → (last + 1 ≡ g + 1 + length (taken c t u e g k i)) × (w ≡ sets u (g + 1) (taken c t u e g k i))
  ended h = whole (takes_none c t (get_or u g 0) (marked k u) u j e h)

  module _ (l : j < e) (b : e ≤ g) (h : e ≤ length u) where
    -- the node that is looked at is as it was
    same : get_or w j 0 ≡ get_or u j 0
    same = read_to (g + 1) j w u v.front (omega arith)

    was : {o : Bool} (f : ℕ → Bool) → f (get_or w j 0) ≡ o → f (get_or u j 0) ≡ o
    was f q = ap f (sym same) ∙ q

    -- it is one of the nodes
    pub is_node : (n : ℕ) → AllBelow n (slice i e u) → get_or w j 0 < n
    is_node n ns = rw same (in_slice n i e j u h ns v.from l)

    -- its mark stands as it was
    mark_was : {r o : Bool} → r ≡ marked k w (get_or w j 0) → r ≡ o → marked k u (get_or u j 0) ≡ o
    mark_was p q =
        was (marked k u) (sym (ap (λ (x : ℕ). not (eqb x 0)) (read_from k (k + get_or w j 0) w u v.back (omega arith))) ∙ sym p ∙ q)

    -- a taken node is skipped
    pub skipped : {r : Bool} → r ≡ marked k w (get_or w j 0) → r ≡ true → Taking c t u i e g k w (j + 1) last
    skipped p q = on (j + 1) (omega arith) (omega arith) (step_skip c t (get_or u g 0) (marked k u) u j e l h (mark_was p q))

    -- those that are passed over are
    pub jumped : (r : ℕ) → (j < r) × (r ≤ e) × PassedOver c t (get_or u g 0) j r w → Taking c t u i e g k w r last
    jumped r (p, q, o) =
        let d : j ≤ r = omega arith in
        on r d q (takes_over c t (get_or u g 0) (marked k u) u j r e d q h (passed_kept c t (get_or u g 0) (g + 1) j r w u v.front (omega arith) o))

    -- what the tests on points say
    module _ {p q : Point} (ep : p ≡ point_at c (get_or u g 0)) (eq : q ≡ point_at c (get_or w j 0)) where
      far_is : {r o : Bool} → r ≡ far_points t p q → r ≡ o → far_of c t (get_or u g 0) (get_or w j 0) ≡ o
      unfolding far_of
      far_is x y = ap₂ (far_points t) (sym ep) (sym eq) ∙ sym x ∙ y

      near_is : {r o : Bool} → r ≡ near_points t p q → r ≡ o → near_of c t (get_or u g 0) (get_or w j 0) ≡ o
      unfolding near_of
      near_is x y = ap₂ (near_points t) (sym ep) (sym eq) ∙ sym x ∙ y

      -- a node that is too far ends it
      pub stopped : {r s : Bool} → r ≡ far_points t p q → r ≡ true → s ≡ marked k w (get_or w j 0) → s ≡ false
          → (last + 1 ≡ g + 1 + length (taken c t u e g k i)) × (w ≡ sets u (g + 1) (taken c t u e g k i))
      stopped f f' m m' =
          whole (step_stop c t (get_or u g 0) (marked k u) u j e l h (mark_was m m') (was (far_of c t (get_or u g 0)) (far_is f f')))

      -- a near one is taken
      pub joined : {r s o : Bool} → g + 1 + (e - i) ≤ k → r ≡ far_points t p q → r ≡ false → s ≡ near_points t p q → s ≡ true → o ≡ marked k w (get_or w j 0) → o ≡ false
          → Taking c t u i e g k (set w (last + 1) (get_or w j 0)) (j + 1) (last + 1)
      joined room f f' n n' m m' =
          let s = step_take c t (get_or u g 0) (marked k u) u j e l h (mark_was m m') (was (far_of c t (get_or u g 0)) (far_is f f')) (was (near_of c t (get_or u g 0)) (near_is n n')) in
          record {
            from = omega (arith, v.from);
            to = omega arith;
            grown = omega (arith, v.grown);
            room = omega (arith, v.room);
            size = length-set w (last + 1) (get_or w j 0) ∙ v.size;
            front = take-set-le (g + 1) w (last + 1) (get_or w j 0) (omega (arith, v.grown)) ∙ v.front;
            back = drop-set-lt k w (last + 1) (get_or w j 0) (omega (arith, v.from, v.room)) ∙ v.back;
            count = omega (arith, ap length s, v.count);
            rest = rw (add-one (last + 1), same) (ap (sets w (last + 1)) (sym s) ∙ v.rest);
          }

      -- another is passed over: what `past` asks
      pub past_asks : {r s : Bool} → r ≡ far_points t p q → r ≡ false → s ≡ near_points t p q → s ≡ false
          → get_or u g 0 < node_count c → AllBelow (node_count c) (slice i e u) → InOrder c i e u
          → (j < e) × (e ≤ length w) × (get_or u g 0 < node_count c) × AllBelow (node_count c) (slice j e w) × InOrder c j e w × (far_of c t (get_or u g 0) (get_or w j 0) ≡ false) × (near_of c t (get_or u g 0) (get_or w j 0) ≡ false)
      past_asks f f' n n' x ns o = (
        l,
        omega (arith, v.size),
        x,
        rw (slice_to (g + 1) j e w u v.front (omega arith)) (nodes_rest (node_count c) i j e u v.from ns),
        order_kept c (g + 1) i j e w u v.front (omega arith) v.from o,
        far_is f f',
        near_is n n',
      )
