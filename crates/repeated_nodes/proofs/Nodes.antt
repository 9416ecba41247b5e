-- The nodes of a cell's repeated pairs are nodes of the cell.
use Prim.Native.Nat.{ℕ}
use mathlib.Core.Path.{◌≡◌, refl}
use mathlib.Core.Bool.{Bool, true, false, not, ◌&&◌, ◌||◌, and-false}
use mathlib.Core.List.{List, [], ◌∷◌, ◌++◌}
use borrow.Author.Tests.{lt-leb}
use lib.Dec.{leb, eqb}
use Rattle.laws.specs.Lists.{any, only_if}
use Rattle.laws.specs.Merging.{AllBelow}
use Rattle.mesh.specs.Model.{PHED}
use Rattle.mesh.specs.Rings.{separator, nodes_in}
use Rattle.mesh.specs.Acceptance.{node_off}
use Rattle.findings.specs.Rules.{repeats_of}
use Rattle.findings.proofs.Laws.{Every}
use Rattle.findings.proofs.Small.{Low, repeats_low}
use Rattle.pair_sort.specs.Pairs.{flat}

-- where the nodes among a polyhedron's words are below n, no word is refused
none_off : (n : ℕ) (ws : List ℕ) → AllBelow n (nodes_in ws) → any (node_off n PHED) ws ≡ false
none_off n [] h = refl
none_off n (w ∷ ws) h = go (eqb w separator) (none_off n ws) h
  where
    go : (b : Bool) → (AllBelow n (nodes_in ws) → any (node_off n PHED) ws ≡ false) → AllBelow n (only_if (not b) (w ∷ []) ++ nodes_in ws) → ((leb n w && not b) || any (node_off n PHED) ws) ≡ false
    go true ih k = simp (and-false, ih k)
    go false ih k = simp (lt-leb n w k.0, ih k.1)

-- pairs of numbers below n, as words
flat_below : (n : ℕ) (ps : List (ℕ × ℕ)) → Every (Low n) ps → AllBelow n (flat ps)
unfolding Every
flat_below n [] h = tt
flat_below n (p ∷ ps) h = (h.0.0, (h.0.1, flat_below n ps h.1))

-- so where the nodes among the words are below n, the nodes of the repeated pairs are
pub repeats_below : (n : ℕ) (weld : ℕ → ℕ) (ws : List ℕ) → AllBelow n (nodes_in ws) → AllBelow n (flat (repeats_of weld ws))
repeats_below n weld ws h = flat_below n (repeats_of weld ws) (repeats_low n PHED weld ws (none_off n ws h))
