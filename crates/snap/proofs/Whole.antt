-- From the sort, the cleared marks, the sweep and the settling to the welded numbers.
use Prim.Native.Nat.{ℕ, ◌+◌, ◌-◌, ◌≤◌, ◌<◌}
use mathlib.Core.Path.{◌≡◌, sym, ap, ap₂, ◌∙◌, subst}
use mathlib.Core.Bool.{Bool, true, false, not, cond}
use mathlib.Core.List.{List, ◌++◌}
use native.Mathlib.Omega.{arith}
use lib.Dec.{eqb}
use lib.Ieee.{Float, eq}
use lib.ListN.{length, get_or, take, drop, replicate, length-replicate, get_or-replicate}
use lib.Seq.{slice, sets, length-sets, take-take, get_or-drop, get_or-take}
use Rattle.laws.specs.Lists.{sort, up_from}
use Rattle.laws.specs.Merging.{region, AllBelow}
use Rattle.laws.proofs.ListLaws.{length-up_from}
use Rattle.laws.proofs.Stores.{take_before, drop_after, region_before, region_same, length-region, slice-region, get_or_within, lent_sets}
use Rattle.laws.proofs.Sorting.{length-sort, sort_rises}
use Rattle.floats.specs.Floats.{zero64}
use Rattle.snap.specs.Weld.{before_of, groups, spread, welded}
use Rattle.geometry.specs.Coordinates.{node_count, coordinates_off}
use Rattle.sorting.specs.Rows.{both}
use Rattle.snap.specs.Steps.{But, InOrder, marked, numbers, weld_from}
use Rattle.snap.proofs.Order.{before_total}
use Rattle.laws.proofs.Bounds.{below-sort}
use Rattle.snap.proofs.Groups.{groups_ext, length_spread}
use Rattle.snap.proofs.Marks.{numbers_none, length_numbers}

-- a run of `size` words at k
module _ (l xs : List ℕ) (a k size : ℕ) (d : length xs ≡ size) where
  -- it stands there
  pub run_there : k + size ≤ length l → region k size (sets l k xs) ≡ xs
  run_there h = subst (λ (m : ℕ). region k m (sets l k xs) ≡ xs) d (region_same l k xs (omega arith))

  -- all else stays
  run_but : a ≤ k → But a (k + size) l (sets l k xs)
  run_but h = (take_before a l k xs h, drop_after (k + size) l k xs (omega arith))

-- m words lent out, which come back as a list of their number, or as the numbers of their marks
module _ (l : List ℕ) (k m n : ℕ) (q : m ≡ n) (h : k + n ≤ length l) where
  lent : take (k + m - k) (drop k l) ≡ region k n l
  lent = let d : k + m - k ≡ n = omega arith in rw d

  pub filled : (f : ℕ → List ℕ) → length (f n) ≡ n → {new : List ℕ} → new ≡ f (length (take (k + m - k) (drop k l))) → take k l ++ (new ++ drop (k + m - k) (drop k l)) ≡ sets l k (f n)
  filled f d e =
      let long : length (take (k + m - k) (drop k l)) ≡ n = rw lent (length-region k n l h) in
      rw (e, long, q) (lent_sets n l (f n) k d h)

  pub zeroed : {new : List ℕ} → new ≡ replicate (length (take (k + m - k) (drop k l))) 0 → take k l ++ (new ++ drop (k + m - k) (drop k l)) ≡ sets l k (replicate n 0)
  zeroed = filled (λ i. replicate i 0) (length-replicate n 0)

  pub numbered : {new : List ℕ} → new ≡ numbers 0 (take (k + m - k) (drop k l)) → take k l ++ (new ++ drop (k + m - k) (drop k l)) ≡ sets l k (numbers 0 (region k n l))
  numbered e =
      rw (e, lent, q) (lent_sets n l (numbers 0 (region k n l)) k (length_numbers 0 (region k n l) ∙ length-region k n l h) h)

-- as before twice
but_but : (a b t : ℕ) (l v w : List ℕ) → a ≤ b → But a t l v → But b t v w → But a t l w
but_but a b t l v w h p q = (sym (take-take a b w h) ∙ ap (take a) q.0 ∙ take-take a b v h ∙ p.0, q.1 ∙ p.1)

-- n nodes at a, room for them at s, and marks of all nodes at k
pub record Lent (c : List Float) (t : Float) (l : List ℕ) (a s k n : ℕ) : Type 0 where
  pub first : a + n ≤ s
  pub second : s + n ≤ k
  pub marks : k + node_count c ≤ length l
  pub nodes : AllBelow (node_count c) (region a n l)

module _ {c : List Float} {t : Float} {l : List ℕ} {a s k n : ℕ} (L : Lent c t l a s k n) where
  abbrev size : ℕ
  size = node_count c

  abbrev S : List ℕ
  S = sort (before_of c) (region a n l)

  abbrev l₁ : List ℕ
  l₁ = both l a s S

  abbrev l₂ : List ℕ
  l₂ = sets l₁ k (replicate size 0)

  -- as many nodes as before
  sorted_length : length S ≡ n
  sorted_length = length-sort (before_of c) (region a n l) ∙ length-region a n l (omega arith)

  -- sorting keeps the length of the work
  l₁_length : length l₁ ≡ length l
  l₁_length = length-sets (sets l a S) s S ∙ length-sets l a S

  -- a zero for each node
  zeros : length {A = ℕ} (replicate size 0) ≡ size
  zeros = length-replicate size 0

  -- the sorted nodes are still at a
  sorted_run : slice a (a + n) l₂ ≡ S
  sorted_run =
      slice-region a n l₂
      ∙ region_before a n l₁ k (replicate size 0) (omega arith)
      ∙ region_before a n (sets l a S) s S (omega arith)
      ∙ run_there l S 0 a n sorted_length (omega arith)

  -- they are nodes
  sorted_nodes : AllBelow size (slice a (a + n) l₂)
  sorted_nodes = rw sorted_run (below-sort (before_of c) size (region a n l) L.nodes)

  -- and stand in order
  sorted_order : coordinates_off c ≡ false → InOrder c a (a + n) l₂
  sorted_order ok i j p q r =
      rw (at i p (omega arith), at j (omega arith) r)
      (sort_rises (before_of c) (before_total c ok) (region a n l) 0 (i - a) (j - a) (omega arith) (omega (arith, sorted_length)))
    where
      at : (x : ℕ) → a ≤ x → x < a + n → get_or l₂ x 0 ≡ get_or S (x - a) 0
      at x u v =
          let y : a + (x - a) ≡ x = omega arith in
          sym (ap (λ (k : ℕ). get_or l₂ k 0) y) ∙ sym (get_or-take (a + n) l₂ (a + (x - a)) 0 (omega arith)) ∙ sym (get_or-drop a (take (a + n) l₂) (x - a) 0)
          ∙ ap (λ (r : List ℕ). get_or r (x - a) 0) sorted_run

  -- no node is taken yet
  no_marks : (x : ℕ) → x < size → marked k l₂ x ≡ false
  no_marks x q =
      ap (λ (v : ℕ). not (eqb v 0))
      (get_or_within l₁ k (replicate size 0) x 0 (omega (arith, zeros)) (omega (arith, zeros, l₁_length)) ∙ get_or-replicate size x 0 0 q)

  -- the sweep from the start
  swept : weld_from c t k size a (a + n) l₂ ≡ spread (groups c t (λ x. false) S) (up_from 0 size)
  swept =
      ap₂ (λ (r m : List ℕ). spread (groups c t (marked k l₂) r) m) sorted_run
      (ap (numbers 0) (run_there l₁ (replicate size 0) 0 k size zeros (omega (arith, l₁_length))) ∙ numbers_none 0 size)
      ∙ ap (λ (gs : List (List ℕ)). spread gs (up_from 0 size))
      (groups_ext c t size (marked k l₂) (λ x. false) S (below-sort (before_of c) size (region a n l) L.nodes) no_marks)

  -- nothing else has changed so far
  ready_but : But a (k + size) l l₂
  ready_but =
      but_but a a (k + size) l l₁ l₂ (omega arith)
      (but_but a a (k + size) l (sets l a S) l₁ (omega arith)
      (take_before a l a S (omega arith), drop_after (k + size) l a S (omega (arith, sorted_length)))
      (take_before a (sets l a S) s S (omega arith), drop_after (k + size) (sets l a S) s S (omega (arith, sorted_length))))
      (run_but l₁ (replicate size 0) a k size zeros (omega arith))

  -- w is the work after the sweep, which is then settled
  module _ (w : List ℕ) (m : length w ≡ length l) (e : numbers 0 (region k size w) ≡ weld_from c t k size a (a + n) l₂) (b : But s (k + size) l₂ w) where
    -- a number for each node
    settled_length : length (numbers 0 (region k size w)) ≡ size
    settled_length = length_numbers 0 (region k size w) ∙ length-region k size w (omega arith)

    -- the settled marks are the welded numbers
    settled : eq t zero64 ≡ false → region k size (sets w k (numbers 0 (region k size w))) ≡ welded c t size (region a n l)
    unfolding welded
    settled z = run_there w (numbers 0 (region k size w)) 0 k size settled_length (omega arith) ∙ e ∙ rw z swept

    -- nothing else has changed
    settled_but : But a (k + size) l (sets w k (numbers 0 (region k size w)))
    settled_but =
        but_but a a (k + size) l w (sets w k (numbers 0 (region k size w))) (omega arith)
        (but_but a s (k + size) l l₂ w (omega arith) ready_but b)
        (run_but w (numbers 0 (region k size w)) a k size settled_length (omega arith))

  -- u is l with the nodes sorted, v is u with the marks cleared
  module _ {u v : List ℕ} (d : u ≡ l₁) (q : v ≡ sets u k (replicate size 0)) where
    v_is : v ≡ l₂
    v_is = q ∙ ap (λ (r : List ℕ). sets r k (replicate size 0)) d

    v_length : length v ≡ length l
    v_length = ap length v_is ∙ length-sets l₁ k (replicate size 0) ∙ l₁_length

    -- what the sweep asks
    pub sweep_asks : coordinates_off c ≡ false → (a ≤ a + n) × (a + n ≤ s) × (s + (a + n - a) ≤ k) × (k + size ≤ length v) × AllBelow size (slice a (a + n) v) × InOrder c a (a + n) v
    sweep_asks z = (omega arith, L.first, omega (arith, L.second), omega (arith, L.marks, v_length), rw v_is sorted_nodes, rw v_is (sorted_order z))

    -- w is v swept, x is w settled: the marks are the welded numbers
    pub all_settled : (w : List ℕ) {x : List ℕ} → length w ≡ length v → (numbers 0 (region k size w) ≡ weld_from c t k size a (a + n) v) × But s (k + size) v w
        → x ≡ sets w k (numbers 0 (region k size w)) → eq t zero64 ≡ false → (region k size x ≡ welded c t size (region a n l)) × But a (k + size) l x
    all_settled w m b p z =
        let e = b.0 ∙ ap (weld_from c t k size a (a + n)) v_is in
        let o : But s (k + size) l₂ w = rw (← v_is) b.1 in
        rw p (settled w (m ∙ v_length) e o z, settled_but w (m ∙ v_length) e o)

-- with tolerance 0 each node has its own number, whichever are to be welded
pub unwelded : (c : List Float) (t : Float) (ns l x : List ℕ) (k size : ℕ) → k + size ≤ length l → x ≡ sets l k (up_from 0 size) → eq t zero64 ≡ true
    → (region k size x ≡ welded c t size ns) × But 0 (k + size) l x
unfolding welded
unwelded c t ns l x k size h p z =
    rw (p, z) (run_there l (up_from 0 size) 0 k size (length-up_from 0 size) h, run_but l (up_from 0 size) 0 k size (length-up_from 0 size) (omega arith))

-- a welded number for each node
pub length_welded : (c : List Float) (t : Float) (n : ℕ) (ns : List ℕ) → length (welded c t n ns) ≡ n
unfolding welded
length_welded c t n ns = go (eq t zero64)
  where
    go : (b : Bool) → length (cond b (up_from 0 n) (spread (groups c t (λ x. false) (sort (before_of c) ns)) (up_from 0 n))) ≡ n
    go true = length-up_from 0 n
    go false = length_spread (groups c t (λ x. false) (sort (before_of c) ns)) (up_from 0 n) ∙ length-up_from 0 n
