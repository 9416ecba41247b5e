-- The rings of a cell that passes, by its kind.
use Prim.Native.Nat.{ℕ}
use mathlib.Core.Path.{◌≡◌, ap, subst}
use mathlib.Core.Bool.{false}
use mathlib.Core.List.{List}
use borrow.Author.Tests.{eqb-true, not-false}
use lib.Dec.{eqb}
use lib.ListN.{length}
use Rattle.mesh.specs.Rings.{at, tet_rings, hex_rings, wedge_rings, phed_rings, rings_of}
use Rattle.mesh.specs.Acceptance.{count_wrong}
use Rattle.mesh.specs.Steps.{cell_with, WellCell}

-- the word count of a cell of fixed count
tet_words : (ws : List ℕ) → count_wrong (cell_with 1 ws) ≡ false → length ws ≡ 4
tet_words ws h = eqb-true (length ws) 4 (not-false (eqb (length ws) 4) h)

hex_words : (ws : List ℕ) → count_wrong (cell_with 2 ws) ≡ false → length ws ≡ 8
hex_words ws h = eqb-true (length ws) 8 (not-false (eqb (length ws) 8) h)

wedge_words : (ws : List ℕ) → count_wrong (cell_with 3 ws) ≡ false → length ws ≡ 6
wedge_words ws h = eqb-true (length ws) 6 (not-false (eqb (length ws) 6) h)

-- a cell's rings and word count, where its kind is known
pub tet_is : (k : ℕ) (ws : List ℕ) → k ≡ 1 → WellCell (cell_with k ws) → (length ws ≡ 4) × (rings_of (cell_with k ws) ≡ at ws tet_rings)
unfolding rings_of
tet_is k ws e w = (tet_words ws (subst (λ (j : ℕ). count_wrong (cell_with j ws) ≡ false) e w.count), ap (λ (j : ℕ). rings_of (cell_with j ws)) e)

pub hex_is : (k : ℕ) (ws : List ℕ) → k ≡ 2 → WellCell (cell_with k ws) → (length ws ≡ 8) × (rings_of (cell_with k ws) ≡ at ws hex_rings)
unfolding rings_of
hex_is k ws e w = (hex_words ws (subst (λ (j : ℕ). count_wrong (cell_with j ws) ≡ false) e w.count), ap (λ (j : ℕ). rings_of (cell_with j ws)) e)

pub wedge_is : (k : ℕ) (ws : List ℕ) → k ≡ 3 → WellCell (cell_with k ws) → (length ws ≡ 6) × (rings_of (cell_with k ws) ≡ at ws wedge_rings)
unfolding rings_of
wedge_is k ws e w = (wedge_words ws (subst (λ (j : ℕ). count_wrong (cell_with j ws) ≡ false) e w.count), ap (λ (j : ℕ). rings_of (cell_with j ws)) e)

pub phed_is : (k : ℕ) (ws : List ℕ) → k ≡ 4 → rings_of (cell_with k ws) ≡ phed_rings ws
unfolding rings_of
phed_is k ws e = ap (λ (j : ℕ). rings_of (cell_with j ws)) e
