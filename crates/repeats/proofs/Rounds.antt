-- A turn of the two passes over a cell's words.
use Prim.Native.Nat.{ℕ, ◌+◌, ◌-◌, ◌*◌, ◌≤◌, ◌<◌}
use mathlib.Core.Path.{◌≡◌, refl, sym, ap, ap₂, ◌∙◌}
use mathlib.Core.Bool.{Bool, true, false, not, ◌&&◌}
use mathlib.Core.List.{List, [], ◌∷◌, ◌++◌}
use native.Mathlib.Numerals.{add-one}
use native.Mathlib.Omega.{arith}
use borrow.Author.Tests.{eq-eqb, ne_eqb}
use lib.Dec.{eqb}
use lib.ListN.{length, get_or, set, take, drop, length-append}
use lib.Seq.{sets, drop-cons, drop-set-add, take-set-lt, take-set-le}
use Rattle.laws.specs.Lists.{only_if}
use Rattle.laws.specs.Merging.{region, AllBelow}
use Rattle.laws.proofs.Bounds.{below_at}
use Rattle.laws.proofs.ListLaws.{get_or_any}
use Rattle.laws.proofs.Stores.{get_or-region, length-region, region_before, sets_cover, sets_comm, sets_append, take_before}
use Rattle.mesh.specs.Rings.{separator, nodes_in}
use Rattle.snap.proofs.Parts.{read_to}
use Rattle.findings.specs.Rules.{pair_of}
use Rattle.pair_sort.specs.Pairs.{flat}
use Rattle.pair_sort.proofs.PairLaws.{length_flat}
use Rattle.repeats.specs.declared.Regions.{Regions}
use Rattle.repeats.specs.Marks.{hit, hits, mark, weld_in, marks_in, place_of, Noted, Numbered, Sound}
use Rattle.repeats.proofs.Walk.{length_mark}

-- ---- words

module _ (ws : List ℕ) (i : ℕ) (h : i < length ws) where
  next : drop i ws ≡ get_or ws i 0 ∷ drop (i + 1) ws
  next = drop-cons ws i 0 h ∙ ap (λ (k : ℕ). get_or ws i 0 ∷ drop k ws) (sym (add-one i))

  -- a separator is skipped
  pub nodes_skip : get_or ws i 0 ≡ separator → nodes_in (drop i ws) ≡ nodes_in (drop (i + 1) ws)
  nodes_skip e =
      ap nodes_in next ∙ ap (λ (b : Bool). only_if (not b) (get_or ws i 0 ∷ []) ++ nodes_in (drop (i + 1) ws)) (eq-eqb (get_or ws i 0) separator e)

  -- any other word is a node
  pub nodes_next : (get_or ws i 0 ≡ separator → ⊥) → nodes_in (drop i ws) ≡ get_or ws i 0 ∷ nodes_in (drop (i + 1) ws)
  nodes_next e =
      ap nodes_in next ∙ ap (λ (b : Bool). only_if (not b) (get_or ws i 0 ∷ []) ++ nodes_in (drop (i + 1) ws)) (ne_eqb (get_or ws i 0) separator e)

-- ---- welded numbers

module _ (at : Regions) (w₀ : List ℕ) (f : at.weld + at.nodes ≤ at.last) (g : at.last ≤ length w₀) (n : ℕ) (h : n < at.nodes) where
  read_in : get_or w₀ (at.weld + n) 0 ≡ weld_in at w₀ n
  read_in =
      sym (get_or-region at.weld at.nodes w₀ n 0 h)
      ∙ get_or_any (region at.weld at.nodes w₀) n 0 n (omega (arith, length-region at.weld at.nodes w₀ (omega arith)))

  -- the word that holds the number, as long as nothing is stored there
  weld_read : (w : List ℕ) → take at.last w ≡ take at.last w₀ → get_or w (at.weld + n) 0 ≡ weld_in at w₀ n
  weld_read w e = read_to at.last (at.weld + n) w w₀ e (omega arith) ∙ read_in

  -- it is a node
  pub weld_inside : AllBelow at.nodes (region at.weld at.nodes w₀) → weld_in at w₀ n < at.nodes
  weld_inside b =
      let l : n < length (region at.weld at.nodes w₀) = omega (arith, length-region at.weld at.nodes w₀ (omega arith)) in
      omega (arith, below_at at.nodes (region at.weld at.nodes w₀) n b l, get_or_any (region at.weld at.nodes w₀) n 0 n l)

-- ---- the node at the head of a turn

-- the work was w₀ and is w, nothing before the marks has changed, i of the words are passed, and the next is a node
pub record Head (ws w₀ : List ℕ) (at : Regions) (w : List ℕ) (i : ℕ) : Type 0 where
  pub sound : Sound ws w₀ at
  pub here : i < length ws
  pub long : length w ≡ length w₀
  pub front : take at.last w ≡ take at.last w₀
  pub left : AllBelow at.nodes (nodes_in (drop i ws))
  pub node : get_or ws i 0 ≡ separator → ⊥

module _ {ws w₀ : List ℕ} {at : Regions} {w : List ℕ} {i : ℕ} (t : Head ws w₀ at w i) where
  -- it and the nodes behind it are nodes
  pub nodes_below : AllBelow at.nodes (get_or ws i 0 ∷ nodes_in (drop (i + 1) ws))
  nodes_below = rw (nodes_next ws i t.here t.node) at t.left

  marks_in_work : at.last ≤ length w₀
  marks_in_work = omega (arith, t.sound.second, t.sound.third)

  -- so is its welded number
  pub head_inside : weld_in at w₀ (get_or ws i 0) < at.nodes
  head_inside = weld_inside at w₀ t.sound.first marks_in_work (get_or ws i 0) nodes_below.0 t.sound.welded

  -- which still stands
  pub head_read : get_or w (at.weld + get_or ws i 0) 0 ≡ weld_in at w₀ (get_or ws i 0)
  head_read = weld_read at w₀ t.sound.first marks_in_work (get_or ws i 0) nodes_below.0 w t.front

  pub head_numbered : Numbered w at (get_or ws i 0)
  head_numbered =
      record {
        first = t.sound.first;
        second = omega (arith, t.long, t.sound.second, t.sound.third);
        node = nodes_below.0;
        number = omega (arith, head_read, head_inside);
      }

-- ---- pairs

pub flat_append : (ps qs : List (ℕ × ℕ)) → flat (ps ++ qs) ≡ flat ps ++ flat qs
flat_append [] qs = refl
flat_append (p ∷ ps) qs = ap (λ (r : List ℕ). p.0 ∷ p.1 ∷ r) (flat_append ps qs)

-- a node gives at most one
pub hit_short : (n p : ℕ) → length (hit n p) ≤ 1
hit_short n p = short (not (eqb p 0) && not (eqb p (n + 1))) (pair_of n (p - 1))
  where
    short : (b : Bool) (q : ℕ × ℕ) → length (only_if b (q ∷ [])) ≤ 1
    short true q = omega arith
    short false q = omega arith

-- ---- marks

-- a store within a region
region-set : (a k : ℕ) (w : List ℕ) (m v : ℕ) → m < k → region a k (set w (a + m) v) ≡ set (region a k w) m v
region-set a k w m v h = ap (take k) (drop-set-add a w m v) ∙ take-set-lt k (drop a w) m v h

-- a run over a store
over : (w X : List ℕ) (a k m v : ℕ) → length X ≡ k → m < k → a + k ≤ length w → sets (set w (a + m) v) a X ≡ sets w a X
over w X a k m v l h b = sets_cover w (a + m) (v ∷ []) a X (omega arith) (omega arith) (omega arith)

module _ (at : Regions) (weld : ℕ → ℕ) (w : List ℕ) (n : ℕ) (b : weld n < at.nodes) (g : at.last + at.nodes ≤ length w) where
  marks_length : length (marks_in at w) ≡ at.nodes
  marks_length = length-region at.last at.nodes w g

  -- one mark put
  marks_set : (x : ℕ) → marks_in at (set w (at.last + weld n) x) ≡ set (marks_in at w) (weld n) x
  marks_set x = region-set at.last at.nodes w (weld n) x b

  -- the rest of the marks, put after it
  pub turn_mark : (value : ℕ → ℕ) (ns : List ℕ)
      → sets (set w (at.last + weld n) (value n)) at.last (mark weld value (marks_in at (set w (at.last + weld n) (value n))) ns)
      ≡ sets w at.last (mark weld value (marks_in at w) (n ∷ ns))
  turn_mark value ns =
      let X = mark weld value (marks_in at w) (n ∷ ns) in
      ap (λ (m : List ℕ). sets (set w (at.last + weld n) (value n)) at.last (mark weld value m ns)) (marks_set (value n))
      ∙ over w X at.last at.nodes (weld n) (value n)
      (length_mark weld value (marks_in at w) (n ∷ ns) ∙ marks_length) b g

  -- a node's pair and mark, and then the rest
  module _ (v : List ℕ) (k r : ℕ) (ns : List ℕ) (f : at.last + at.nodes ≤ at.pairs) (q : get_or w (at.weld + n) 0 ≡ weld n) (N : Noted w v at k n r) where
    abbrev H : List (ℕ × ℕ)
    H = hit n (get_or (marks_in at w) (weld n) 0)

    -- the pair, by the marks
    same_hit : hit n (get_or w (place_of at w n) 0) ≡ H
    same_hit = ap (hit n) (ap (λ (m : ℕ). get_or w (at.last + m) 0) q ∙ sym (get_or-region at.last at.nodes w (weld n) 0 b))

    count : r ≡ k + length H
    count = N.count ∙ ap (λ (ps : List (ℕ × ℕ)). k + length ps) same_hit

    stored : v ≡ sets (set w (at.last + weld n) (n + 1)) (at.pairs + 2 * k) (flat H)
    stored =
        N.stored
        ∙ ap₂ (λ (m : ℕ) (ps : List (ℕ × ℕ)). sets (set w (at.last + m) (n + 1)) (at.pairs + 2 * k) (flat ps)) q same_hit

    marks_now : marks_in at v ≡ set (marks_in at w) (weld n) (n + 1)
    marks_now =
        ap (marks_in at) stored
        ∙ region_before at.last at.nodes (set w (at.last + weld n) (n + 1)) (at.pairs + 2 * k) (flat H) (omega arith)
        ∙ marks_set (n + 1)

    pub turn_count : r + length (hits weld (marks_in at v) ns) ≡ k + length (hits weld (marks_in at w) (n ∷ ns))
    turn_count =
        let R = hits weld (set (marks_in at w) (weld n) (n + 1)) ns in
        ap₂ (λ (j : ℕ) (m : List ℕ). j + length (hits weld m ns)) count marks_now
        ∙ omega (arith, length-append H R)

    pub turn_front : take at.last v ≡ take at.last w
    turn_front =
        ap (take at.last) stored
        ∙ take_before at.last (set w (at.last + weld n) (n + 1)) (at.pairs + 2 * k) (flat H) (omega arith)
        ∙ take-set-le at.last w (at.last + weld n) (n + 1) (omega arith)

    pub turn_stored : sets (sets v at.last (mark weld (λ x. x + 1) (marks_in at v) ns)) (at.pairs + 2 * r) (flat (hits weld (marks_in at v) ns))
        ≡ sets (sets w at.last (mark weld (λ x. x + 1) (marks_in at w) (n ∷ ns))) (at.pairs + 2 * k) (flat (hits weld (marks_in at w) (n ∷ ns)))
    turn_stored =
        let u = set w (at.last + weld n) (n + 1) in
        let M = set (marks_in at w) (weld n) (n + 1) in
        let X = mark weld (λ x. x + 1) M ns in
        let R = hits weld M ns in
        let long : length X ≡ at.nodes = length_mark weld (λ x. x + 1) (marks_in at w) (n ∷ ns) ∙ marks_length in
        let next : at.pairs + 2 * r ≡ at.pairs + 2 * k + length (flat H) = omega (arith, count, length_flat H) in
        ap (λ (m : List ℕ). sets (sets v at.last (mark weld (λ x. x + 1) m ns)) (at.pairs + 2 * r) (flat (hits weld m ns))) marks_now
        ∙ ap₂ (λ (l : List ℕ) (j : ℕ). sets (sets l at.last X) j (flat R)) stored next
        ∙ ap (λ (l : List ℕ). sets l (at.pairs + 2 * k + length (flat H)) (flat R))
        (sym (sets_comm u at.last X (at.pairs + 2 * k) (flat H) (omega arith))
        ∙ ap (λ (l : List ℕ). sets l (at.pairs + 2 * k) (flat H)) (over w X at.last at.nodes (weld n) (n + 1) long b g))
        ∙ sym (sets_append (sets w at.last X) (at.pairs + 2 * k) (flat H) (flat R))
        ∙ ap (sets (sets w at.last X) (at.pairs + 2 * k)) (sym (flat_append H R))
