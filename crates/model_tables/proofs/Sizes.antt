-- The rings of an accepted model's cells: each has 3 to 64 words, and each word is a node.
use Prim.Native.Nat.{ℕ, zero, suc, ◌*◌, ◌≤◌, ◌<◌}
use mathlib.Core.Path.{◌≡◌, refl, sym, subst}
use mathlib.Core.Logic.{◌⊎◌, inl, inr}
use mathlib.Core.Bool.{true, false}
use mathlib.Core.List.{List, [], ◌∷◌, ◌++◌, map}
use native.Mathlib.Omega.{arith}
use borrow.Author.Tests.{eqb-true, eqb-false, leb-true, ltb-false}
use lib.Dec.{leb, eqb}
use lib.ListN.{length, get_or, length-append}
use Rattle.laws.specs.Limits.{ring_limit}
use Rattle.laws.specs.Lists.{any, each, keep, sort}
use Rattle.laws.specs.Merging.{AllBelow}
use Rattle.laws.proofs.Bounds.{below_append, below_left, below_right, below-add}
use Rattle.findings.proofs.Fits.{set-length}
use Rattle.laws.proofs.Sorting.{length-sort}
use Rattle.std.proofs.lemmas.Bool.{cases_Bool, or_parts}
use Rattle.mesh.specs.Model.{Raw}
use Rattle.mesh.specs.Rings.{runs, rings_of, node_set}
use Rattle.mesh.specs.Acceptance.{count_wrong}
use Rattle.mesh.specs.Steps.{ring_total, too_long, cell_with, WellCell, WellCells}
use Rattle.mesh.proofs.ByKind.{tet_is, hex_is, wedge_is, phed_is}
use Rattle.mesh.proofs.CellKinds.{the_fourth}

-- ---- 3 to 64 words

-- each ring has 3 to 64 words
abbrev pub Sized : List (List ℕ) → Type 0
Sized [] = Unit {0}
Sized (r ∷ rs) = (3 ≤ length r) × (length r ≤ 64) × Sized rs

-- rings behind rings
sized_append : (a b : List (List ℕ)) → Sized a → Sized b → Sized (a ++ b)
sized_append [] b h k = k
sized_append (r ∷ a) b h k = (h.0, h.1, sized_append a b h.2 k)

-- one of them
pub sized_at : (rs : List (List ℕ)) (g : ℕ) → Sized rs → g < length rs → (3 ≤ length (get_or rs g [])) × (length (get_or rs g []) ≤ 64)
sized_at [] g s h = absurd (omega arith)
sized_at (r ∷ rs) zero s h = (s.0, s.1)
sized_at (r ∷ rs) (suc g) s h = sized_at rs g s.2 (omega arith)

-- there are three times as many words as rings, or more
pub sized_many : (rs : List (List ℕ)) → Sized rs → 3 * length rs ≤ ring_total rs
sized_many [] s = omega arith
sized_many (r ∷ rs) s = omega (arith, s.0, sized_many rs s.2, length-append r (each (λ (l : List ℕ). l) rs))

-- runs that are kept for their length, none too long
sized_keep : (rs : List (List ℕ)) → any too_long rs ≡ false → Sized (keep (λ r. leb 3 (length r)) rs)
sized_keep [] e = tt
sized_keep (r ∷ rs) e =
    let q = or_parts (too_long r) (any too_long rs) e in
    go (cases_Bool (leb 3 (length r))) (ltb-false ring_limit (length r) q.0) (sized_keep rs q.1)
  where
    go : (leb 3 (length r) ≡ true) ⊎ (leb 3 (length r) ≡ false) → length r ≤ 64 → Sized (keep (λ r. leb 3 (length r)) rs) → Sized (keep (λ r. leb 3 (length r)) (r ∷ rs))
    go (inl a) s ih = rw a (leb-true 3 (length r) a, s, ih)
    go (inr a) s ih = rw a ih

-- the rings of a cell
sized_cell : (k : ℕ) (ws : List ℕ) → WellCell (cell_with k ws) → Sized (rings_of (cell_with k ws))
sized_cell k ws w = go (cases_Bool (eqb k 1)) (cases_Bool (eqb k 2)) (cases_Bool (eqb k 3))
  where
    go : (eqb k 1 ≡ true) ⊎ (eqb k 1 ≡ false) → (eqb k 2 ≡ true) ⊎ (eqb k 2 ≡ false) → (eqb k 3 ≡ true) ⊎ (eqb k 3 ≡ false) → Sized (rings_of (cell_with k ws))
    go (inl a) b c =
        let x : 3 ≤ 3 = omega arith in
        let y : 3 ≤ 64 = omega arith in
        subst Sized (sym (tet_is k ws (eqb-true k 1 a) w).1) (x, y, (x, y, (x, y, (x, y, tt))))
    go (inr a) (inl b) c =
        let x : 3 ≤ 4 = omega arith in
        let y : 4 ≤ 64 = omega arith in
        subst Sized (sym (hex_is k ws (eqb-true k 2 b) w).1) (x, y, (x, y, (x, y, (x, y, (x, y, (x, y, tt))))))
    go (inr a) (inr b) (inl c) =
        let x : 3 ≤ 3 = omega arith in
        let y : 3 ≤ 64 = omega arith in
        let z : 3 ≤ 4 = omega arith in
        let u : 4 ≤ 64 = omega arith in
        subst Sized (sym (wedge_is k ws (eqb-true k 3 c) w).1) (x, y, (x, y, (z, u, (z, u, (z, u, tt)))))
    go (inr a) (inr b) (inr c) =
        let e = the_fourth k w.kind (eqb-false k 1 a) (eqb-false k 2 b) (eqb-false k 3 c) in
        let n : count_wrong (cell_with 4 ws) ≡ false = subst (λ (j : ℕ). count_wrong (cell_with j ws) ≡ false) e w.count in
        subst Sized (sym (phed_is k ws e)) (sized_keep (runs ws) (or_parts (eqb (length ws) 0) (any too_long (runs ws)) n).1)

-- the rings of cells
pub sized_cells : (cs : List Raw) → WellCells cs → Sized (each rings_of cs)
sized_cells [] w = tt
sized_cells (c ∷ cs) w = sized_append (rings_of c) (each rings_of cs) (sized_cell c.kind c.words w.0) (sized_cells cs w.1)

-- ---- words below a bound

-- a list among others whose words are all below n
pub below_ring : (n : ℕ) (rs : List (List ℕ)) (g : ℕ) → AllBelow n (each (λ r. r) rs) → g < length rs → AllBelow n (get_or rs g [])
below_ring n [] g h k = absurd (omega arith)
below_ring n (r ∷ rs) zero h k = below_left n r (each (λ (l : List ℕ). l) rs) h
below_ring n (r ∷ rs) (suc g) h k = below_ring n rs g (below_right n r (each (λ (l : List ℕ). l) rs) h) (omega arith)

-- the node set of a ring
below_set : (n : ℕ) (r : List ℕ) → AllBelow n r → AllBelow n (node_set r)
below_set n [] h = tt
below_set n (x ∷ r) h = below-add n x (node_set r) h.0 (below_set n r h.1)

-- the node sets of rings
pub below-sets : (n : ℕ) (rs : List (List ℕ)) → AllBelow n (each (λ r. r) rs) → AllBelow n (each node_set rs)
below-sets n [] h = tt
below-sets n (r ∷ rs) h =
    let rest = each (λ (l : List ℕ). l) rs in
    below_append n (node_set r) (each node_set rs) (below_set n r (below_left n r rest h)) (below-sets n rs (below_right n r rest h))

-- all node sets have at most as many words as all rings
pub sets_total : (rs : List (List ℕ)) → ring_total (map node_set rs) ≤ ring_total rs
sets_total [] = omega arith
sets_total (r ∷ rs) =
    omega (
      arith,
      sets_total rs,
      set-length r,
      length-append (node_set r) (each (λ (l : List ℕ). l) (map node_set rs)),
      length-append r (each (λ (l : List ℕ). l) rs),
    )

-- all keys have as many words as all rings
pub keys_total : (rs : List (List ℕ)) → ring_total (map (sort leb) rs) ≡ ring_total rs
keys_total [] = refl
keys_total (r ∷ rs) =
    omega (
      arith,
      keys_total rs,
      length-sort leb r,
      length-append (sort leb r) (each (λ (l : List ℕ). l) (map (sort leb) rs)),
      length-append r (each (λ (l : List ℕ). l) rs),
    )
