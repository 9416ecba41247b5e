-- A leader's turn: the group that it leads, and the work once the group is marked.
use Prim.Native.Nat.{ℕ, ◌+◌, ◌-◌, ◌≤◌, ◌<◌}
use mathlib.Core.Path.{◌≡◌, sym, ap, ap₂, ◌∙◌, subst, fun_ext}
use mathlib.Core.Bool.{Bool, true, false, ◌||◌}
use mathlib.Core.List.{List, [], ◌∷◌}
use native.Mathlib.Numerals.{add-one}
use native.Mathlib.Omega.{arith}
use lib.Ieee.{Float}
use lib.ListN.{length, get_or, set, take, drop, length-set}
use lib.Seq.{slice, slice-cons, length-slice, sets, length-sets, take-set-le, take-take, get_or-set_same}
use Rattle.laws.specs.Lists.{elem}
use Rattle.laws.specs.Merging.{region, AllBelow}
use Rattle.laws.proofs.Stores.{take_before, drop_after, region_after, region_same, slice-region}
use Rattle.snap.specs.Weld.{takes, groups, spread, give, least}
use Rattle.geometry.specs.Coordinates.{node_count}
use Rattle.snap.specs.Steps.{But, marked, put_all, numbers, weld_from, InOrder}
use Rattle.snap.proofs.Parts.{slice_to, nodes_rest}
use Rattle.snap.proofs.Groups.{groups_ext, nodes_takes, length_takes, least_low}
use Rattle.snap.proofs.Between.{order_kept}
use Rattle.snap.proofs.Marks.{marked_all, marked_sets, take_put, drop_put, region_put, numbers_give}

-- the group that the node at i leads, among those in [i, e) of w
abbrev group : List Float → Float → List ℕ → ℕ → ℕ → ℕ → List ℕ
group c t w i e k = get_or w i 0 ∷ takes c t (get_or w i 0) (marked k w) (slice (i + 1) e w)

-- the words after its turn
abbrev after : List Float → Float → List ℕ → ℕ → ℕ → ℕ → ℕ → List ℕ
after c t w i e g k = put_all k (least (group c t w i e k) + 1) (group c t w i e k) (sets w g (group c t w i e k))

-- the node at i is to lead: the nodes in [i, e) of w, room for a group from g on, marks of all nodes at k
pub record Leading (c : List Float) (t : Float) (w : List ℕ) (i e g k : ℕ) : Type 0 where
  pub some : i < e
  pub before : e ≤ g
  pub room : g + (e - i) ≤ k
  pub marks : k + node_count c ≤ length w
  pub nodes : AllBelow (node_count c) (slice i e w)

module _ {c : List Float} {t : Float} {w : List ℕ} {i e g k : ℕ} (L : Leading c t w i e g k) where
  abbrev size : ℕ
  size = node_count c

  abbrev G : List ℕ
  G = group c t w i e k

  abbrev v : List ℕ
  v = after c t w i e g k

  -- the words once the leader stands at g
  abbrev u : List ℕ
  u = set w g (get_or w i 0)

  -- the nodes lie in the work
  in_work : e ≤ length w
  in_work = omega arith

  -- the leader, and those behind it
  next : slice i e w ≡ get_or w i 0 ∷ slice (i + 1) e w
  next = rw add-one (slice-cons i e w 0 L.some in_work)

  -- once it stands at g it takes the same
  stands : get_or (set w g (get_or w i 0)) g 0 ≡ get_or w i 0
  stands = get_or-set_same w g (get_or w i 0) 0 (omega arith)

  same_takes : takes c t (get_or (set w g (get_or w i 0)) g 0) (marked k (set w g (get_or w i 0))) (slice (i + 1) e (set w g (get_or w i 0))) ≡ takes c t (get_or w i 0) (marked k w) (slice (i + 1) e w)
  same_takes =
      let x = get_or w i 0 in
      ap (λ (y : ℕ). takes c t y (marked k (set w g x)) (slice (i + 1) e (set w g x))) stands
      ∙ ap₂ (λ (a : ℕ → Bool) (l : List ℕ). takes c t x a l) (fun_ext (λ (n : ℕ). marked_sets k g (x ∷ []) w n (omega arith)))
      (slice_to g (i + 1) e (set w g x) w (take-set-le g w g x (omega arith)) L.before)

  -- the group fits before the marks
  group_length : g + length G ≤ k
  group_length = omega (arith, length_takes c t size (get_or w i 0) (marked k w) (slice (i + 1) e w), length-slice (i + 1) e w in_work)

  -- its members are nodes
  group_nodes : AllBelow size G
  group_nodes =
      let s = subst (λ (l : List ℕ). AllBelow size l) next L.nodes in
      (s.0, nodes_takes c t size (get_or w i 0) (marked k w) (slice (i + 1) e w) s.1)

  -- the leader is a node
  pub leader_node : get_or w i 0 < size
  leader_node = group_nodes.0

  -- its smallest number is a node
  least_node : least G < size
  least_node = omega (arith, least_low (get_or w i 0) (takes c t (get_or w i 0) (marked k w) (slice (i + 1) e w)), group_nodes.0)

  -- it stands at g
  group_run : slice g (g + length G) (sets w g G) ≡ G
  group_run = slice-region g (length G) (sets w g G) ∙ region_same w g G (omega (arith, group_length))

  -- what lies before g stays
  low : take g v ≡ take g w
  low =
      let q : g ≤ k = omega arith in
      sym (take-take g k v q) ∙ ap (take g) (take_put k size (least G + 1) G (sets w g G)) ∙ take-take g k (sets w g G) q ∙ take_before g w g G (omega arith)

  -- and what lies behind the marks
  turn_but : But g (k + size) w v
  turn_but = (low, drop_put k size (least G + 1) G (sets w g G) group_nodes ∙ drop_after (k + size) w g G (omega (arith, group_length)))

  -- a node that is taken leads none
  pub skipped : {r : Bool} → r ≡ marked k w (get_or w i 0) → r ≡ true → weld_from c t k size (i + 1) e w ≡ weld_from c t k size i e w
  skipped q o = sym (ap (λ (l : List ℕ). spread (groups c t (marked k w) l) (numbers 0 (region k size w))) next ∙ rw (← q, o))

  -- the marks give the group its number
  given : numbers 0 (region k size v) ≡ give (least G) G (numbers 0 (region k size w))
  given =
      ap (numbers 0) (region_put k size (least G + 1) G (sets w g G) group_nodes ∙ ap (give (least G + 1) G) (region_after k size w g G group_length))
      ∙ numbers_give (least G) G (region k size w)

  -- the turn of a leader: what is left to be swept comes to the same
  turn : marked k w (get_or w i 0) ≡ false → weld_from c t k size (i + 1) e v ≡ weld_from c t k size i e w
  turn n =
      let z : i ≤ i + 1 = omega arith in
      let m = numbers 0 (region k size w) in
      let rest : AllBelow size (slice (i + 1) e w) = nodes_rest size i (i + 1) e w z L.nodes in
      let some : 0 < least G + 1 = omega arith in
      let same : (x : ℕ) → x < size → marked k v x ≡ (elem x G || marked k w x) =
      λ x p. marked_all k size (least G + 1) some G (sets w g G) x p (omega (arith, length-sets w g G)) ∙ ap (λ (y : Bool). elem x G || y) (marked_sets k g G w x group_length) in
      ap₂ (λ (l u : List ℕ). spread (groups c t (marked k v) l) u) (slice_to g (i + 1) e v w low L.before) given
      ∙ ap (λ (gs : List (List ℕ)). spread gs (give (least G) G m)) (groups_ext c t size (marked k v) (λ x. elem x G || marked k w x) (slice (i + 1) e w) rest same)
      ∙ sym (ap (λ (l : List ℕ). spread (groups c t (marked k w) l) m) next ∙ rw n)

  -- what `takes` asks, once the leader stands at g
  pub takes_asks : InOrder c i e w
      → (i + 1 ≤ e) × (e ≤ g) × (g + 1 + (e - (i + 1)) ≤ k) × (k + node_count c ≤ length u) × (get_or u g 0 < node_count c) × AllBelow (node_count c) (slice (i + 1) e u) × InOrder c (i + 1) e u
  takes_asks o =
      let d : i ≤ i + 1 = omega arith in
      let same = take-set-le g w g (get_or w i 0) (omega arith) in (
        omega arith,
        L.before,
        omega arith,
        omega (arith, length-set w g (get_or w i 0)),
        rw stands leader_node,
        rw (slice_to g (i + 1) e u w same L.before) (nodes_rest size i (i + 1) e w d L.nodes),
        order_kept c g i (i + 1) e u w same L.before d o,
      )

  -- m and x are what `takes` answers and leaves
  module _ {m : ℕ} {x : List ℕ} (d : (m ≡ g + 1 + length (takes c t (get_or u g 0) (marked k u) (slice (i + 1) e u))) × (x ≡ sets u (g + 1) (takes c t (get_or u g 0) (marked k u) (slice (i + 1) e u)))) where
    end_is : m ≡ g + length G
    end_is = d.0 ∙ omega (arith, ap length same_takes)

    stored : x ≡ sets w g G
    stored = d.1 ∙ rw (same_takes, add-one g)

    pub size_is : length x ≡ length w
    size_is = ap length stored ∙ length-sets w g G

    run : slice g m x ≡ G
    run = rw (end_is, stored) group_run

    -- lent out it is a part of the work
    part : take (m - g) (drop g x) ≡ G
    part =
        let e : m - g ≡ length G = omega (arith, end_is) in
        rw (e, stored) (region_same w g G (omega (arith, group_length)))

    pub end_within : m ≤ length x
    end_within = omega (arith, end_is, group_length, size_is)

    -- what `least` asks, and that its answer is a node
    pub least_asks : 0 < length (take (m - g) (drop g x))
    least_asks = rw part (omega arith)

    pub least_below : {n : ℕ} → n ≡ least (take (m - g) (drop g x)) → n < size
    least_below q = rw (q, part) least_node

    -- what `put` asks
    pub put_asks : (g ≤ m) × (m ≤ k) × (k + size ≤ length x) × AllBelow size (slice g m x)
    put_asks = (omega (arith, end_is), omega (arith, end_is, group_length), omega (arith, size_is), rw run group_nodes)

    -- what is left to be swept comes to the same once the group is marked
    pub turned : {n : ℕ} {y : List ℕ} {r : Bool} → r ≡ marked k w (get_or w i 0) → r ≡ false → n ≡ least (take (m - g) (drop g x)) → y ≡ put_all k (n + 1) (slice g m x) x
        → (weld_from c t k size (i + 1) e y ≡ weld_from c t k size i e w) × But g (k + size) w y
    turned o o' p q = rw (q, p, part, run, stored) (turn (sym o ∙ o'), turn_but)
