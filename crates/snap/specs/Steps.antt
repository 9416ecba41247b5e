-- For internal contracts: node numbers in regions of lent work, and what each step leaves there.
use Rattle.std.specs.Prelude.{ℕ, suc, ◌+◌, ◌-◌, ◌≤◌, ◌<◌, ◌≡◌, ◌⊎◌, Bool, true, false, not, cond, List, [], ◌∷◌, map, eqb, get_or, take, drop, Float}
use Rattle.std.proofs.Math.Seq.{slice}
use Rattle.std.specs.Float.{binary64}
use Rattle.std.specs.Float.Ieee.{sub, mul, lt, le}
use Rattle.laws.specs.Merging.{region}
use Rattle.geometry.specs.declared.Point.{Point}
use Rattle.geometry.specs.Points.{point_sub, point_dot, point_at}
use Rattle.snap.specs.Weld.{before_of, far_of, near_of, groups, spread, give}

-- v is w but for the words in [f, t)
abbrev pub But : ℕ → ℕ → List ℕ → List ℕ → Type 0
But f t w v = (take f v ≡ take f w) × (drop t v ≡ drop t w)

-- ---- a leader's tests, on the points a and b of the leader and a node

-- b's x minus a's exceeds the tolerance
abbrev pub far_points : Float → Point → Point → Bool
far_points t a b = lt t (sub binary64 b.x a.x)

-- the squared distance is at most tolerance * tolerance
abbrev pub near_points : Float → Point → Point → Bool
near_points t a b = le (point_dot (point_sub a b) (point_sub a b)) (mul binary64 t t)

-- ---- nodes that a leader passes over

-- the square of x - y is above the limit
abbrev pub apart_by : Float → Float → Float → Bool
apart_by l x y = lt l (mul binary64 (sub binary64 x y) (sub binary64 x y))

-- all values from b to m are apart from a: the nearest of them is
abbrev pub outside_of : Float → Float → Float → Float → Bool
outside_of l a b m = cond (lt a b) (apart_by l a b) (cond (lt m a) (apart_by l a m) false)

-- all points from b to m, in the order of nodes, have b's x and a y or z that is apart from a's
abbrev pub passed_of : Float → Point → Point → Point → Bool
passed_of l a b m =
    cond (lt b.x m.x) false
    (cond (outside_of l a.y b.y m.y) true (cond (lt b.y m.y) false (outside_of l a.z b.z m.z)))

-- r is j, or the nodes from j to r are passed over
abbrev pub Reached : List Float → Float → Point → Point → ℕ → ℕ → List ℕ → Type 0
Reached c l a b j r w = (r ≡ j) ⊎ (passed_of l a b (point_at c (get_or w r 0)) ≡ true)

-- the nodes in [o, e) of w stand in order
abbrev pub InOrder : List Float → ℕ → ℕ → List ℕ → Type 0
InOrder c o e w = (k m : ℕ) → o ≤ k → k ≤ m → m < e → before_of c (get_or w k 0) (get_or w m 0) ≡ true

-- none of the nodes in [j, r) of w is too far for the leader or taken by it
abbrev pub PassedOver : List Float → Float → ℕ → ℕ → ℕ → List ℕ → Type 0
PassedOver c t leader j r w =
    (k : ℕ) → j ≤ k → k < r → (far_of c t leader (get_or w k 0) ≡ false) × (near_of c t leader (get_or w k 0) ≡ false)

-- ---- marks: node n's is word k + n, 0 until it is taken, then one more than its welded number

abbrev pub marked : ℕ → List ℕ → ℕ → Bool
marked k l n = not (eqb (get_or l (k + n) 0) 0)

-- l with the mark v for each of the nodes
abbrev pub put_all : ℕ → ℕ → List ℕ → List ℕ → List ℕ
put_all k v ns l = give v (map (λ n. k + n) ns) l

-- the number that the mark w gives node i
unfoldable pub number_of : ℕ → ℕ → ℕ
number_of i w = cond (eqb w 0) i (w - 1)

-- the numbers that marks give, from node i on
abbrev pub numbers : ℕ → List ℕ → List ℕ
numbers i [] = []
numbers i (w ∷ ws) = number_of i w ∷ numbers (suc i) ws

-- what the sweep of the sorted nodes in [i, e) of w, with marks of `size` nodes from k on, makes of the numbers
abbrev pub weld_from : List Float → Float → ℕ → ℕ → ℕ → ℕ → List ℕ → List ℕ
weld_from c t k size i e w = spread (groups c t (marked k w) (slice i e w)) (numbers 0 (region k size w))
