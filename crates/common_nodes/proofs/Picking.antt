-- Common nodes, one by one, and that they are nodes.
use Prim.Native.Nat.{ℕ, suc, ◌+◌, ◌≤◌, ◌<◌}
use mathlib.Core.Path.{◌≡◌, refl, sym, ap, ap₂, ◌∙◌}
use mathlib.Core.Bool.{Bool, true, false}
use mathlib.Core.List.{List, [], ◌∷◌, ◌++◌, append-nil}
use native.Mathlib.Omega.{arith}
use lib.ListN.{length, get_or, take, length-take}
use lib.Seq.{take-suc}
use lib.Ieee.{Float}
use Rattle.laws.specs.Lists.{only_if, keep, elem}
use Rattle.laws.proofs.Bounds.{below_at, below_each, below-keep}
use Rattle.laws.proofs.ListLaws.{keep_append, keep-length}
use Rattle.index.specs.declared.by_node.Index.{Index}
use Rattle.index.specs.Read.{set_of}
use Rattle.index.proofs.Read.{node_low}
use Rattle.geometry.specs.Steps.{InNodes}
use Rattle.geometry.specs.Coordinates.{node_count}
use Rattle.seek.specs.Candidates.{common}

-- what one more node adds
grown : (A B : List ℕ) (i : ℕ) → i < length A → common (take (i + 1) A) B ≡ common (take i A) B ++ only_if (elem (get_or A i 0) B) (get_or A i 0 ∷ [])
unfolding common
grown A B i h =
    let e : i + 1 ≡ suc i = omega arith in
    ap (λ (k : ℕ). keep (λ n. elem n B) (take k A)) e
    ∙ ap (keep (λ n. elem n B)) (take-suc A i 0 h)
    ∙ keep_append (λ n. elem n B) (take i A) (get_or A i 0 ∷ [])
    ∙ ap (λ (l : List ℕ). keep (λ n. elem n B) (take i A) ++ l) (append-nil (only_if (elem (get_or A i 0) B) (get_or A i 0 ∷ [])))

-- of no words there are none
pub picked_start : (B : List ℕ) → common [] B ≡ []
unfolding common
picked_start B = refl

-- the first i words are picked: v is the next
module _ (A B own : List ℕ) (i v : ℕ) (p : own ≡ common (take i A) B) (h : i < length A) (is : v ≡ get_or A i 0) where
  -- there is room for it
  pub room : length A ≤ 64 → length own < 64
  unfolding common
  room k = omega (arith, ap length p, keep-length (λ n. elem n B) (take i A), length-take i A, h)

  -- a common one
  pub picked_in : elem v B ≡ true → own ++ (v ∷ []) ≡ common (take (i + 1) A) B
  picked_in e =
      let q : elem (get_or A i 0) B ≡ true = ap (λ (x : ℕ). elem x B) (sym is) ∙ e in
      ap₂ (λ (l : List ℕ) (x : ℕ). l ++ (x ∷ [])) p is
      ∙ sym (grown A B i h ∙ ap (λ (b : Bool). common (take i A) B ++ only_if b (get_or A i 0 ∷ [])) q)

  -- another
  pub picked_out : elem v B ≡ false → own ≡ common (take (i + 1) A) B
  picked_out e =
      let q : elem (get_or A i 0) B ≡ false = ap (λ (x : ℕ). elem x B) (sym is) ∙ e in
      p ∙ sym (grown A B i h ∙ ap (λ (b : Bool). common (take i A) B ++ only_if b (get_or A i 0 ∷ [])) q ∙ append-nil (common (take i A) B))

-- the common nodes of two faces are nodes
pub common_in : (c : List Float) (i : Index) (f g : ℕ) → f < i.at.faces → i.at.nodes ≡ node_count c → InNodes c (common (set_of i f) (set_of i g))
unfolding common
common_in c i f g h e k l =
    let A = set_of i f in
    let B = set_of i g in
    let low : (j : ℕ) → j < length A → get_or A j 0 < i.at.nodes = λ j m. node_low i.at i.base.now i.indexed f j h m in
    omega (arith, e, below_at i.at.nodes (common A B) k (below-keep i.at.nodes (λ n. elem n B) A (below_each i.at.nodes A low)) l)

-- and at most 64
pub common_few : (i : Index) (f g : ℕ) → f < i.at.faces → length (common (set_of i f) (set_of i g)) ≤ 64
unfolding common
common_few i f g h = omega (arith, keep-length (λ k. elem k (set_of i g)) (set_of i f), i.indexed.laid.few f h)
