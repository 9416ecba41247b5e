-- Faces with the same sorted ring have the same nodes, and so the same keys in the second index: all stand in the list of each.
use Prim.Native.Nat.{ℕ, ◌+◌, ◌-◌, ◌≤◌, ◌<◌}
use mathlib.Core.Path.{◌≡◌, refl, sym, ap, ◌∙◌}
use mathlib.Core.Logic.{◌⊎◌, inl, inr}
use mathlib.Core.Bool.{Bool, true, false, ◌||◌, false≢true}
use mathlib.Core.List.{List, [], ◌∷◌, ◌++◌}
use native.Mathlib.Omega.{arith}
use borrow.Author.Tests.{leb-true, ltb-true}
use lib.Dec.{leb, ltb}
use lib.ListN.{length}
use Rattle.laws.specs.Lists.{only_if, keep, up_from, elem, add}
use Rattle.laws.proofs.Tests.{clash, eqb_self}
use Rattle.std.proofs.lemmas.Bool.{and_parts, cases_Bool}
use Rattle.laws.proofs.ListLaws.{eql_true}
use Rattle.laws.proofs.Ascending.{asc_ext, elem-add, elem-up_from, head_in, later_in}
use Rattle.laws.proofs.Members.{elem-sort, elem-distinct}
use Rattle.mesh.specs.Rings.{node_set}
use Rattle.index.specs.declared.Places.{Places}
use Rattle.index.specs.Faces.{nodes_of, faces_with}
use Rattle.triple_keys.specs.Keys.{triple_key, keys_of}
use Rattle.layout.specs.declared.Layout.{Layout}
use Rattle.layout.specs.Tables.{ring_row, key_row, Faced}
use Rattle.overfull.specs.Alike.{same_as, alike}

-- a list with a member is not empty
member_some : (x : ℕ) (l : List ℕ) → elem x l ≡ true → 0 < length l
member_some x [] e = absurd (false≢true e)
member_some x (y ∷ l) e = omega arith

-- nor is a ring's node set
set_some : (r : List ℕ) → 3 ≤ length r → 0 < length (node_set r)
set_some [] h = absurd (omega (arith, h))
set_some (x ∷ r) h = member_some x (node_set (x ∷ r)) (elem-distinct x (x ∷ r) ∙ head_in x r)

-- a number in a run of numbers
pub in_run : (x i n : ℕ) → elem x (up_from i n) ≡ true → (i ≤ x) × (x < i + n)
in_run x i n e = let p = and_parts (leb i x) (ltb x (i + n)) (sym (elem-up_from x i n) ∙ e) in (leb-true i x p.0, ltb-true x (i + n) p.1)

-- kept among those kept by a test that is weaker on the members
keep_weaker : (p q : ℕ → Bool) (l : List ℕ) → ((x : ℕ) → elem x l ≡ true → p x ≡ true → q x ≡ true) → keep p (keep q l) ≡ keep p l
keep_weaker p q [] h = refl
keep_weaker p q (x ∷ l) h = go (keep_weaker p q l (λ y e. h y (later_in x l y e))) (cases_Bool (q x)) (cases_Bool (p x))
  where
    go : keep p (keep q l) ≡ keep p l → (q x ≡ true) ⊎ (q x ≡ false) → (p x ≡ true) ⊎ (p x ≡ false) → keep p (keep q (x ∷ l)) ≡ keep p (x ∷ l)
    go ih (inl a) b = rw a (ap (λ (r : List ℕ). only_if (p x) (x ∷ []) ++ r) ih)
    go ih (inr a) (inl b) = clash (h x (head_in x l) b) a
    go ih (inr a) (inr b) = rw (a, b) ih

-- keys of a face that has nodes
some_key : (N B : ℕ) (l : List ℕ) → 0 < length l → 0 < length (keys_of N B l)
some_key N B [] h = h
some_key N B (a ∷ []) h = omega arith
some_key N B (a ∷ b ∷ []) h = omega arith
some_key N B (a ∷ b ∷ c ∷ []) h = omega arith
some_key N B (a ∷ b ∷ c ∷ d ∷ []) h =
    let l = add leb (triple_key N B a b d) (add leb (triple_key N B a c d) (triple_key N B b c d ∷ [])) in
    member_some (triple_key N B a b c) (add leb (triple_key N B a b c) l) (elem-add (triple_key N B a b c) (triple_key N B a b c) l ∙ ap (λ (x : Bool). x || elem (triple_key N B a b c) l) (eqb_self (triple_key N B a b c)))
some_key N B (a ∷ b ∷ c ∷ d ∷ e ∷ l) h = omega arith

module _ (l : Layout) (t : List ℕ) (f : Faced l t) (g : ℕ) (h : g < l.at.faces) where
  -- a face has nodes
  some_node : 0 < length (nodes_of l.at t g)
  some_node = rw (f.noded g h) (set_some (ring_row l t g) (f.some g h))

  -- a face's nodes are the words of its key
  node_key : (v x : ℕ) → x < l.at.faces → elem v (nodes_of l.at t x) ≡ elem v (key_row l t x)
  node_key v x k =
      ap (elem v) (f.noded x k) ∙ elem-distinct v (ring_row l t x) ∙ sym (elem-sort leb v (ring_row l t x)) ∙ ap (elem v) (sym (f.keyed x k))

  -- a face with g's sorted ring has g's nodes
  same_nodes : (x : ℕ) → x < l.at.faces → same_as l t g x ≡ true → nodes_of l.at t x ≡ nodes_of l.at t g
  unfolding same_as
  same_nodes x k s =
      asc_ext (nodes_of l.at t x) (nodes_of l.at t g) (f.laid.asc x k) (f.laid.asc g h)
      (λ v. node_key v x k ∙ ap (elem v) (sym (eql_true (key_row l t g) (key_row l t x) s)) ∙ sym (node_key v g h))

  module _ (q : Places) (u : List ℕ) (faces : q.faces ≡ l.at.faces)
      (keys : (x : ℕ) → x < l.at.faces → nodes_of q u x ≡ keys_of l.at.nodes (q.nodes - l.at.nodes) (nodes_of l.at t x)) where
    -- a face has keys
    pub has_keys : 0 < length (nodes_of q u g)
    has_keys = rw (keys g h) (some_key l.at.nodes (q.nodes - l.at.nodes) (nodes_of l.at t g) some_node)

    -- a face with g's sorted ring has each key of g
    shared_key : (v x : ℕ) → x < l.at.faces → elem v (nodes_of q u g) ≡ true → same_as l t g x ≡ true → elem v (nodes_of q u x) ≡ true
    shared_key v x k e s = ap (elem v) (keys x k ∙ ap (keys_of l.at.nodes (q.nodes - l.at.nodes)) (same_nodes x k s) ∙ sym (keys g h)) ∙ e

    -- so the list of a key of g holds all faces with g's sorted ring
    pub in_list : (v : ℕ) → elem v (nodes_of q u g) ≡ true → keep (same_as l t g) (faces_with q u v) ≡ alike l t g
    unfolding faces_with alike
    in_list v e =
        ap (λ (n : ℕ). keep (same_as l t g) (keep (λ x. elem v (nodes_of q u x)) (up_from 0 n))) faces
        ∙ keep_weaker (same_as l t g) (λ x. elem v (nodes_of q u x)) (up_from 0 l.at.faces)
        (λ x m s. shared_key v x (omega (arith, in_run x 0 l.at.faces m)) e s)
