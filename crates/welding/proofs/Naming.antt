-- The nodes that words name, marked and then listed, and the map over them.
use Prim.Native.Nat.{ℕ, zero, suc, ◌+◌, ◌*◌, ◌≤◌, ◌<◌}
use mathlib.Core.Path.{◌≡◌, refl, sym, ap, ◌∙◌, subst}
use mathlib.Core.Logic.{◌≢◌}
use mathlib.Core.Bool.{Bool, true, false, not, or-false}
use mathlib.Core.List.{List, [], ◌∷◌, ◌++◌, append-nil}
use native.Mathlib.Nat.{zero-add}
use native.Mathlib.Numerals.{add-one}
use native.Mathlib.Omega.{arith}
use borrow.Author.Tests.{ltb-true, eq-eqb, ne_eqb}
use lib.Dec.{leb, ltb, eqb}
use lib.Ieee.{Float}
use lib.ListN.{length, get_or, set, drop, replicate, length-append, length-replicate, get_or-replicate}
use lib.Seq.{sets, length-sets, drop-cons}
use Rattle.laws.specs.Lists.{only_if, keep, elem, distinct, up_from}
use Rattle.laws.specs.Merging.{region, AllBelow}
use Rattle.std.proofs.lemmas.Bool.{and_parts}
use Rattle.laws.proofs.Bounds.{below_right}
use Rattle.laws.proofs.ListLaws.{keep_append, keep-length, length-up_from, up_from_snoc}
use Rattle.laws.proofs.Ascending.{keep_cong, elem-up_from}
use Rattle.laws.proofs.Members.{kept_distinct}
use Rattle.laws.proofs.Stores.{sets_snoc, drop_after, region_same, get_or_after, get_or_within}
use Rattle.geometry.specs.Coordinates.{node_count}
use Rattle.mesh.specs.Rings.{separator, nodes_in}
use Rattle.snap.specs.Weld.{welded}
use Rattle.snap.specs.Steps.{But, marked, put_all}
use Rattle.snap.proofs.Marks.{marked_all, drop_put, length_put}

-- ---- words one by one

module _ (n : ℕ) where
  -- a word that is no separator is a node
  pub named_at : (ws : List ℕ) (i : ℕ) → AllBelow n (nodes_in ws) → i < length ws → get_or ws i 0 ≢ separator → get_or ws i 0 < n
  named_at [] i b h s = absurd (omega (arith, h))
  named_at (w ∷ ws) zero b h s = let t = ne_eqb w separator s in (rw t at b).0
  named_at (w ∷ ws) (suc i) b h s = named_at ws i (below_right n (only_if (not (eqb w separator)) (w ∷ [])) (nodes_in ws) b) (omega (arith, h)) s

-- a separator adds nothing to the nodes,
pub nodes_skip : (ws : List ℕ) (i : ℕ) → i < length ws → get_or ws i 0 ≡ separator → nodes_in (drop i ws) ≡ nodes_in (drop (i + 1) ws)
nodes_skip ws i h s = ap nodes_in (drop-cons ws i 0 h) ∙ rw (add-one i, eq-eqb (get_or ws i 0) separator s)

-- any other word itself
pub nodes_next : (ws : List ℕ) (i : ℕ) → i < length ws → get_or ws i 0 ≢ separator → nodes_in (drop i ws) ≡ get_or ws i 0 ∷ nodes_in (drop (i + 1) ws)
nodes_next ws i h s = ap nodes_in (drop-cons ws i 0 h) ∙ rw (add-one i, ne_eqb (get_or ws i 0) separator s)

-- ---- marks one by one

module _ (p : ℕ → Bool) where
  -- the numbers that pass, up to i
  keep-up_to : (i : ℕ) → keep p (up_from 0 (i + 1)) ≡ keep p (up_from 0 i) ++ only_if (p i) (i ∷ [])
  keep-up_to i =
      ap (λ (k : ℕ). keep p (up_from 0 k)) (add-one i) ∙ ap (keep p) (up_from_snoc 0 i ∙ ap (λ (k : ℕ). up_from 0 i ++ (k ∷ [])) (zero-add i)) ∙ keep_append p (up_from 0 i) (i ∷ [])
      ∙ ap (λ (l : List ℕ). keep p (up_from 0 i) ++ l) (append-nil (only_if (p i) (i ∷ [])))

  -- one that passes is stored behind them,
  pub list_more : (w₀ w : List ℕ) (i : ℕ) → w ≡ sets w₀ 0 (keep p (up_from 0 i)) → p i ≡ true
      → (length (keep p (up_from 0 i)) + 1 ≡ length (keep p (up_from 0 (i + 1)))) × (set w (length (keep p (up_from 0 i))) i ≡ sets w₀ 0 (keep p (up_from 0 (i + 1))))
  list_more w₀ w i e t =
      let q : keep p (up_from 0 (i + 1)) ≡ keep p (up_from 0 i) ++ (i ∷ []) = keep-up_to i ∙ rw t in (
        sym (ap length q ∙ length-append (keep p (up_from 0 i)) (i ∷ [])),
        ap (λ (l : List ℕ). set l (length (keep p (up_from 0 i))) i) e
            ∙ ap (λ (k : ℕ). set (sets w₀ 0 (keep p (up_from 0 i))) k i) (sym (zero-add (length (keep p (up_from 0 i)))))
            ∙ sym (sets_snoc w₀ 0 (keep p (up_from 0 i)) i) ∙ ap (sets w₀ 0) (sym q),
      )

  -- another is not
  pub list_less : (i : ℕ) → p i ≡ false → keep p (up_from 0 (i + 1)) ≡ keep p (up_from 0 i)
  list_less i t = keep-up_to i ∙ rw t (append-nil (keep p (up_from 0 i)))

  pub list_most : (i : ℕ) → length (keep p (up_from 0 i)) ≤ i
  list_most i = omega (arith, keep-length p (up_from 0 i), length-up_from 0 i)

-- a mark is read as it stood before the list was begun in front of it
pub mark_read : (w₀ w xs : List ℕ) (k i : ℕ) → w ≡ sets w₀ 0 xs → length xs ≤ k → get_or w (k + i) 0 ≡ get_or w₀ (k + i) 0
mark_read w₀ w xs k i e h = ap (λ (l : List ℕ). get_or l (k + i) 0) e ∙ get_or_after w₀ 0 xs (k + i) 0 (omega arith)

-- ---- all of them

module _ (n : ℕ) (ns w : List ℕ) (room : 3 * n ≤ length w) (low : AllBelow n ns) where
  -- no marks yet
  abbrev w₁ : List ℕ
  w₁ = sets w (n + n) (replicate n 0)

  -- those of ns
  abbrev w₂ : List ℕ
  w₂ = put_all (n + n) 1 ns w₁

  zeros : length {A = ℕ} (replicate n 0) ≡ n
  zeros = length-replicate n 0

  long₁ : length w₁ ≡ length w
  long₁ = length-sets w (n + n) (replicate n 0)

  unmarked : (a : ℕ) → a < n → marked (n + n) w₁ a ≡ false
  unmarked a h =
      ap (λ (v : ℕ). not (eqb v 0)) (get_or_within w (n + n) (replicate n 0) a 0 (omega (arith, zeros)) (omega (arith, zeros)) ∙ get_or-replicate n a 0 0 h)

  -- the nodes that are marked are those of ns
  marks_are : (a : ℕ) → a < n → marked (n + n) w₂ a ≡ elem a ns
  marks_are a h = marked_all (n + n) n 1 (omega arith) ns w₁ a h (omega (arith, long₁)) ∙ rw (unmarked a h) (or-false (elem a ns))

  -- listed they are ns, each once, ascending
  listed : keep (marked (n + n) w₂) (up_from 0 n) ≡ distinct leb ns
  listed = keep_cong (marked (n + n) w₂) (λ a. elem a ns) (up_from 0 n) (λ a e. marks_are a (below a e)) ∙ kept_distinct n ns low
    where
      below : (a : ℕ) → elem a (up_from 0 n) ≡ true → a < n
      below a e = omega (arith, ltb-true a (0 + n) (and_parts (leb 0 a) (ltb a (0 + n)) (sym (elem-up_from a 0 n) ∙ e)).1)

  -- so they stand in front, and nothing else has changed but the marks
  pub named_listed : (r : ℕ) (v : List ℕ) → r ≡ length (keep (marked (n + n) w₂) (up_from 0 n)) → v ≡ sets w₂ 0 (keep (marked (n + n) w₂) (up_from 0 n))
      → (r ≤ n) × (region 0 r v ≡ distinct leb ns) × But 0 (n + n + n) w v
  named_listed r v e q =
      let most = list_most (marked (n + n) w₂) n in
      let K = keep (marked (n + n) w₂) (up_from 0 n) in
      let long : length w₂ ≡ length w = length_put (n + n) n 1 ns w₁ ∙ long₁ in (
        omega (arith, e, most),
        ap (λ (j : ℕ). region 0 j v) e ∙ ap (region 0 (length K)) q ∙ region_same w₂ 0 K (omega (arith, most, long)) ∙ listed,
        (
          refl,
          ap (drop (n + n + n)) q ∙ drop_after (n + n + n) w₂ 0 K (omega (arith, most)) ∙ drop_put (n + n) n 1 ns w₁ low
              ∙ drop_after (n + n + n) w (n + n) (replicate n 0) (omega (arith, zeros)),
        ),
      )

-- ---- the map over them

module _ (c : List Float) (t : Float) (n : ℕ) (is : n ≡ node_count c) where
  -- the map of n nodes is that of all nodes
  pub all_nodes : (l w v : List ℕ) → (region (n + n) n v ≡ welded c t n l) × But 0 (n + n + n) w v
      → (region (node_count c + node_count c) (node_count c) v ≡ welded c t (node_count c) l) × But 0 (node_count c + node_count c + node_count c) w v
  all_nodes l w v q = subst (λ (k : ℕ). (region (k + k) k v ≡ welded c t k l) × But 0 (k + k + k) w v) is q

  -- l is the list in front of w, which is then welded to v
  pub named_welded : (r : ℕ) (l w₀ w v : List ℕ) → region 0 r w ≡ l → But 0 (n + n + n) w₀ w
      → (region (n + n) (node_count c) v ≡ welded c t (node_count c) (region 0 r w)) × But 0 (n + n + node_count c) w v
      → (region (node_count c + node_count c) (node_count c) v ≡ welded c t (node_count c) l) × But 0 (node_count c + node_count c + node_count c) w₀ v
  named_welded r l w₀ w v e b q =
      all_nodes l w₀ v (subst (λ (k : ℕ). (region (n + n) k v ≡ welded c t k (region 0 r w)) × But 0 (n + n + k) w v → (region (n + n) n v ≡ welded c t n l) × But 0 (n + n + n) w₀ v) is
      (λ p. (p.0 ∙ ap (welded c t n) e, (refl, p.1.1 ∙ b.1))) q)
