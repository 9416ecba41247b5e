-- The words of a ring through the welded map are nodes.
use Prim.Native.Nat.{ℕ, ◌≤◌}
use mathlib.Core.List.{List, [], ◌∷◌, map}
use native.Mathlib.Omega.{arith}
use lib.Ieee.{Float}
use lib.ListN.{length}
use Rattle.laws.specs.Merging.{AllBelow}
use Rattle.laws.proofs.Bounds.{below_at}
use Rattle.laws.proofs.ListLaws.{get_or_any}
use Rattle.geometry.specs.Coordinates.{node_count}
use Rattle.geometry.specs.Steps.{InNodes}
use Rattle.snap.specs.Weld.{welded_by}

-- words below n go to words below n
pub below_welded : (n : ℕ) (welds l : List ℕ) → AllBelow n welds → n ≤ length welds → AllBelow n l → AllBelow n (map (welded_by welds) l)
below_welded n welds [] a h b = tt
below_welded n welds (k ∷ l) a h b =
    (omega (arith, below_at n welds k a (omega (arith, b.0)), get_or_any welds k 0 k (omega (arith, b.0))), below_welded n welds l a h b.1)

-- words below the number of nodes are nodes
pub in_nodes : (c : List Float) (l : List ℕ) → AllBelow (node_count c) l → InNodes c l
in_nodes c l b i h = omega (arith, below_at (node_count c) l i b h)
