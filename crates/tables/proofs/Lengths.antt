-- How many words the rings of cells have.
use Prim.Native.Nat.{ℕ, ◌+◌, ◌*◌, ◌≤◌}
use mathlib.Core.Path.{◌≡◌, ap}
use mathlib.Core.Logic.{◌⊎◌, inl, inr}
use mathlib.Core.Bool.{true, false}
use mathlib.Core.List.{List, [], ◌∷◌}
use native.Mathlib.Omega.{arith}
use borrow.Author.Tests.{eqb-true, eqb-false}
use lib.Dec.{eqb}
use lib.ListN.{length, length-append}
use Rattle.laws.specs.Lists.{each}
use Rattle.std.proofs.lemmas.Bool.{cases_Bool}
use Rattle.mesh.specs.Model.{Raw}
use Rattle.mesh.specs.Rings.{rings_of}
use Rattle.mesh.specs.Steps.{ring_total, cell_with, WellCell, WellCells}
use Rattle.mesh.proofs.ByKind.{phed_is}
use Rattle.mesh.proofs.RunTallies.{phed_few}
use Rattle.mesh.proofs.CellTallies.{total_append}
use Rattle.faces.proofs.Bounds.{fixed_total}

-- a cell's rings have at most so many words
rings_small : (k : ℕ) (ws : List ℕ) → WellCell (cell_with k ws) → ring_total (rings_of (cell_with k ws)) ≤ 24 + length ws
rings_small k ws w = go (cases_Bool (eqb k 4))
  where
    go : (eqb k 4 ≡ true) ⊎ (eqb k 4 ≡ false) → ring_total (rings_of (cell_with k ws)) ≤ 24 + length ws
    go (inl a) = omega (arith, ap ring_total (phed_is k ws (eqb-true k 4 a)), phed_few ws)
    go (inr a) = omega (arith, fixed_total k ws w (eqb-false k 4 a))

-- and so have the rings of cells
pub cells_small : (cs : List Raw) → WellCells cs → ring_total (each rings_of cs) ≤ 24 * length cs + length (each (λ c. c.words) cs)
cells_small [] w = omega arith
cells_small (c ∷ cs) w =
    omega (
      arith,
      total_append (rings_of c) (each rings_of cs),
      rings_small c.kind c.words w.0,
      cells_small cs w.1,
      length-append c.words (each (λ (x : Raw). x.words) cs),
    )
