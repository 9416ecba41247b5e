-- The nodes after the first, as the slice that the code takes, and the differences from the first.
use mathlib.Core.Path.{◌≡◌, refl, sym, ap, ◌∙◌}
use mathlib.Core.List.{List, [], ◌∷◌}
use Prim.Native.Nat.{ℕ, suc, ◌-◌, ◌≤◌}
use native.Mathlib.Omega.{arith}
use lib.ListN.{length, get_or, take, drop}
use lib.Seq.{take-length}
use lib.Ieee.{Float}
use Rattle.geometry.specs.Points.{point_at, points_of}
use Rattle.geometry.specs.Steps.{InNodes}
use Rattle.area.specs.AreaTest.{differences_of}
use Rattle.area.specs.Steps.{away_from}

-- the slice is all after the first
after_first : (ks : List ℕ) → take (length ks - 1) (drop 1 ks) ≡ drop 1 ks
after_first [] = refl
after_first (k ∷ ks) = ap (λ (n : ℕ). take n ks) (less (length ks)) ∙ take-length ks
  where
    less : (n : ℕ) → suc n - 1 ≡ n
    less n = omega arith

-- they are nodes
pub rest_in : (c : List Float) (ks : List ℕ) → InNodes c ks → InNodes c (take (length ks - 1) (drop 1 ks))
rest_in c ks h = rw after_first (after c ks h)
  where
    after : (c : List Float) (ks : List ℕ) → InNodes c ks → InNodes c (drop 1 ks)
    after c [] h = h
    after c (k ∷ ks) h = λ i l. h (suc i) (omega arith)

-- the differences are those from the first node's point
pub differences : (c : List Float) (ks : List ℕ) → 1 ≤ length ks → differences_of (points_of c ks) ≡ away_from (point_at c (get_or ks 0 0)) (points_of c (take (length ks - 1) (drop 1 ks)))
differences c [] h = absurd (no h)
  where
    no : 1 ≤ 0 → ⊥
    no h = omega arith
differences c (k ∷ ks) h = sym (ap (λ (l : List ℕ). away_from (point_at c k) (points_of c l)) (after_first (k ∷ ks)))
