-- How many rings cells have, and how long these are.
use Prim.Native.Nat.{ℕ, zero, suc, ◌≤◌, ◌<◌, ◌+◌}
use mathlib.Core.Path.{◌≡◌, refl, sym, subst}
use mathlib.Core.Logic.{◌⊎◌, inl, inr, ◌≢◌}
use mathlib.Core.Bool.{Bool, true, false}
use mathlib.Core.List.{List, [], ◌∷◌}
use native.Mathlib.Omega.{arith}
use borrow.Author.Tests.{eqb-true, eqb-false, ltb-false}
use lib.Dec.{leb, eqb}
use lib.ListN.{length, get_or}
use Rattle.laws.specs.Limits.{ring_limit}
use Rattle.laws.specs.Lists.{any, keep}
use Rattle.std.proofs.lemmas.Bool.{cases_Bool, or_parts}
use Rattle.mesh.specs.Rings.{at, tet_rings, hex_rings, wedge_rings, runs, phed_rings, rings_of}
use Rattle.mesh.specs.Acceptance.{count_wrong}
use Rattle.mesh.specs.Steps.{ring_total, too_long, cell_with, WellCell}
use Rattle.mesh.proofs.ByKind.{tet_is, hex_is, wedge_is, phed_is}
use Rattle.mesh.proofs.RunTallies.{phed_few}
use Rattle.mesh.proofs.CellKinds.{the_fourth}

-- what holds of the rings of each kind holds of a cell's rings
by_kind : (P : List (List ℕ) → Type 0) (k : ℕ) (ws : List ℕ) → WellCell (cell_with k ws) → P (at ws tet_rings) → P (at ws hex_rings) → P (at ws wedge_rings) → (k ≡ 4 → P (phed_rings ws)) → P (rings_of (cell_with k ws))
by_kind P k ws w t h d p = go (cases_Bool (eqb k 1)) (cases_Bool (eqb k 2)) (cases_Bool (eqb k 3))
  where
    go : (eqb k 1 ≡ true) ⊎ (eqb k 1 ≡ false) → (eqb k 2 ≡ true) ⊎ (eqb k 2 ≡ false) → (eqb k 3 ≡ true) ⊎ (eqb k 3 ≡ false) → P (rings_of (cell_with k ws))
    go (inl a) b c = subst P (sym (tet_is k ws (eqb-true k 1 a) w).1) t
    go (inr a) (inl b) c = subst P (sym (hex_is k ws (eqb-true k 2 b) w).1) h
    go (inr a) (inr b) (inl c) = subst P (sym (wedge_is k ws (eqb-true k 3 c) w).1) d
    go (inr a) (inr b) (inr c) =
        let e = the_fourth k w.kind (eqb-false k 1 a) (eqb-false k 2 b) (eqb-false k 3 c) in
        subst P (sym (phed_is k ws e)) (p e)

-- ---- lengths

-- no kept run is too long where none is
keep_short : (p : List ℕ → Bool) (rs : List (List ℕ)) → any too_long rs ≡ false → any too_long (keep p rs) ≡ false
keep_short p [] e = refl
keep_short p (r ∷ rs) e =
    let q = or_parts (too_long r) (any too_long rs) e in
    go (cases_Bool (p r)) q.0 (keep_short p rs q.1)
  where
    go : (p r ≡ true) ⊎ (p r ≡ false) → too_long r ≡ false → any too_long (keep p rs) ≡ false → any too_long (keep p (r ∷ rs)) ≡ false
    go (inl a) s ih = rw (a, s) ih
    go (inr a) s ih = rw a ih

-- no ring of a PHED is too long
phed_short : (k : ℕ) (ws : List ℕ) → WellCell (cell_with k ws) → k ≡ 4 → any too_long (phed_rings ws) ≡ false
phed_short k ws w e =
    let c : count_wrong (cell_with 4 ws) ≡ false = subst (λ (j : ℕ). count_wrong (cell_with j ws) ≡ false) e w.count in
    keep_short (λ r. leb 3 (length r)) (runs ws) (or_parts (eqb (length ws) 0) (any too_long (runs ws)) c).1

-- no ring of a cell is too long
rings_short : (k : ℕ) (ws : List ℕ) → WellCell (cell_with k ws) → any too_long (rings_of (cell_with k ws)) ≡ false
rings_short k ws w = by_kind (λ rs. any too_long rs ≡ false) k ws w refl refl refl (phed_short k ws w)

-- a ring of a list without too long ones
short_at : (rs : List (List ℕ)) (f : ℕ) → any too_long rs ≡ false → f < length rs → length (get_or rs f []) ≤ ring_limit
short_at [] f e h = absurd (omega arith)
short_at (r ∷ rs) zero e h = ltb-false ring_limit (length r) (or_parts (too_long r) (any too_long rs) e).0
short_at (r ∷ rs) (suc f) e h = short_at rs f (or_parts (too_long r) (any too_long rs) e).1 (omega arith)

-- a ring of a cell has at most 64 words
pub ring_short : (k : ℕ) (ws : List ℕ) (f : ℕ) → WellCell (cell_with k ws) → f < length (rings_of (cell_with k ws)) → length (get_or (rings_of (cell_with k ws)) f []) ≤ ring_limit
ring_short k ws f w h = short_at (rings_of (cell_with k ws)) f (rings_short k ws w) h

-- the rings of a cell that is no PHED have at most 24 words
pub fixed_total : (k : ℕ) (ws : List ℕ) → WellCell (cell_with k ws) → k ≢ 4 → ring_total (rings_of (cell_with k ws)) ≤ 24
fixed_total k ws w z = by_kind (λ rs. ring_total rs ≤ 24) k ws w (omega arith) (omega arith) (omega arith) (λ e. absurd (z e))

-- a cell has at most so many rings
pub rings_few : (k : ℕ) (ws : List ℕ) → WellCell (cell_with k ws) → length (rings_of (cell_with k ws)) ≤ 6 + length ws
rings_few k ws w = by_kind (λ rs. length rs ≤ 6 + length ws) k ws w (omega arith) (omega arith) (omega arith) (λ e. omega (arith, phed_few ws))

-- and its rings so many words
pub rings_total : (k : ℕ) (ws : List ℕ) → WellCell (cell_with k ws) → ring_total (rings_of (cell_with k ws)) ≤ 24 + length ws
rings_total k ws w = by_kind (λ rs. ring_total rs ≤ 24 + length ws) k ws w (omega arith) (omega arith) (omega arith) (λ e. omega (arith, phed_few ws))
