-- Welded numbers (`duplicates_dim_n`), over a list of node numbers.
use Rattle.std.specs.Prelude.{ℕ, min, Bool, true, false, cond, ◌||◌, List, [], ◌∷◌, ◌++◌, leb, get_or, set, Float}
use Rattle.std.specs.Float.{binary64}
use Rattle.std.specs.Float.Ieee.{sub, mul, lt, le, eq}
use Rattle.laws.specs.Lists.{only_if, fold, elem, sort, up_from}
use Rattle.floats.specs.Floats.{zero64}
use Rattle.geometry.specs.declared.Point.{Point}
use Rattle.geometry.specs.Points.{point_sub, point_dot, point_at}

-- ---- the order on nodes

-- by x and y, and where neither is the smaller by r (-0 equals 0)
abbrev pub or_else : Float → Float → Bool → Bool
or_else x y r = cond (lt x y) true (cond (lt y x) false r)

abbrev pub points_before : Point → Point → Bool → Bool
points_before p q r = or_else p.x q.x (or_else p.y q.y (or_else p.z q.z r))

-- node a stands no later than node b: by x, y, z, then number
unfoldable pub before_of : List Float → ℕ → ℕ → Bool
before_of c a b = points_before (point_at c a) (point_at c b) (leb a b)

-- ---- groups

-- node n's x minus the leader's exceeds the tolerance
unfoldable pub far_of : List Float → Float → ℕ → ℕ → Bool
far_of c t leader n = lt t (sub binary64 (point_at c n).x (point_at c leader).x)

-- the squared distance is at most tolerance * tolerance
unfoldable pub near_of : List Float → Float → ℕ → ℕ → Bool
near_of c t leader n =
    le (point_dot (point_sub (point_at c leader) (point_at c n)) (point_sub (point_at c leader) (point_at c n))) (mul binary64 t t)

-- those that a leader takes, going on: taken nodes are skipped, the first that is too far ends it
abbrev pub takes : List Float → Float → ℕ → (ℕ → Bool) → List ℕ → List ℕ
takes c t leader taken [] = []
takes c t leader taken (n ∷ ns) =
    cond (taken n) (takes c t leader taken ns)
    (cond (far_of c t leader n) [] (only_if (near_of c t leader n) (n ∷ []) ++ takes c t leader taken ns))

-- the groups, over sorted nodes: each node not yet taken leads one
abbrev pub groups : List Float → Float → (ℕ → Bool) → List ℕ → List (List ℕ)
groups c t taken [] = []
groups c t taken (n ∷ ns) =
    cond (taken n) (groups c t taken ns)
    ((n ∷ takes c t n taken ns) ∷ groups c t (λ k. elem k (n ∷ takes c t n taken ns) || taken k) ns)

-- ---- the map

-- a group's smallest number
abbrev pub least : List ℕ → ℕ
least [] = 0
least (n ∷ ns) = fold min n ns

-- l with m at each of the places
abbrev pub give : ℕ → List ℕ → List ℕ → List ℕ
give m ns l = fold (λ k n. set k n m) l ns

-- all of a group get its smallest number
abbrev pub spread : List (List ℕ) → List ℕ → List ℕ
spread gs l = fold (λ k g. give (least g) g k) l gs

-- the welded numbers of `size` nodes, of which those of `nodes` are welded; with tolerance 0 (or -0) each node itself
unfoldable pub welded : List Float → Float → ℕ → List ℕ → List ℕ
welded c t size nodes =
    cond (eq t zero64) (up_from 0 size) (spread (groups c t (λ n. false) (sort (before_of c) nodes)) (up_from 0 size))

-- the number that a map gives a node
abbrev pub welded_by : List ℕ → ℕ → ℕ
welded_by welds n = get_or welds n n
