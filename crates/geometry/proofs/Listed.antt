-- The points of a list of nodes: how many, and which stands where; a count that is at least 1.
use mathlib.Core.Path.{◌≡◌, refl, ap}
use mathlib.Core.Bool.{cond}
use mathlib.Core.List.{List, [], ◌∷◌}
use lib.Dec.{eqb}
use Rattle.std.proofs.Common.{max}
use Prim.Native.Nat.{ℕ, zero, suc, ◌<◌}
use native.Mathlib.Omega.{arith}
use lib.ListN.{length, get_or}
use lib.Ieee.{Float}
use Rattle.geometry.specs.Points.{origin, point_at, points_of}

-- as many points as nodes
pub points_length : (c : List Float) (ks : List ℕ) → length (points_of c ks) ≡ length ks
points_length c [] = refl
points_length c (k ∷ ks) = ap suc (points_length c ks)

-- the point of place i is that of the node there
pub points_at : (c : List Float) (ks : List ℕ) (i : ℕ) → i < length ks → get_or (points_of c ks) i origin ≡ point_at c (get_or ks i 0)
points_at c [] i h = absurd (no h)
  where
    no : i < 0 → ⊥
    no h = omega arith
points_at c (k ∷ ks) zero h = refl
points_at c (k ∷ ks) (suc i) h = points_at c ks i (omega arith)

-- the larger of a count and 1 is the count, or 1 where it is 0
pub at_least_one : (n : ℕ) → max n 1 ≡ cond (eqb n 0) 1 n
at_least_one n = grind arith
