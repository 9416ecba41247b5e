-- Welded numbers are nodes.
use Prim.Native.Nat.{ℕ, zero, suc, ◌<◌, min}
use mathlib.Core.Bool.{Bool, true, false, cond, ◌||◌}
use mathlib.Core.List.{List, [], ◌∷◌}
use native.Mathlib.Omega.{arith}
use lib.Ieee.{Float, eq}
use lib.ListN.{length, set}
use Rattle.laws.specs.Lists.{fold, elem, sort, up_from}
use Rattle.laws.specs.Merging.{AllBelow}
use Rattle.laws.proofs.Bounds.{below-sort, below-up_from}
use Rattle.floats.specs.Floats.{zero64}
use Rattle.snap.specs.Weld.{before_of, takes, groups, least, give, spread, welded}
use Rattle.snap.proofs.Groups.{nodes_takes}

-- groups of nodes below n, none empty
abbrev Grouped : ℕ → List (List ℕ) → Type 0
Grouped n [] = Unit {0}
Grouped n (g ∷ gs) = (0 < length g) × AllBelow n g × Grouped n gs

-- the least of nodes is one
least_from : (n m : ℕ) (l : List ℕ) → m < n → AllBelow n l → fold min m l < n
least_from n m [] h k = h
least_from n m (x ∷ l) h k = least_from n (min m x) l (omega arith) k.1

-- the least of a group is a node
least_below : (n : ℕ) (g : List ℕ) → 0 < length g → AllBelow n g → least g < n
least_below n [] h k = absurd (omega arith)
least_below n (x ∷ g) h k = least_from n x g k.0 k.1

-- one node put among nodes
below_put : (n i v : ℕ) (l : List ℕ) → v < n → AllBelow n l → AllBelow n (set l i v)
below_put n i v [] h k = tt
below_put n zero v (x ∷ l) h k = (h, k.1)
below_put n (suc i) v (x ∷ l) h k = (k.0, below_put n i v l h k.1)

-- a node given to places
below_give : (n v : ℕ) (g l : List ℕ) → v < n → AllBelow n l → AllBelow n (give v g l)
below_give n v [] l h k = k
below_give n v (i ∷ g) l h k = below_give n v g (set l i v) h (below_put n i v l h k)

-- the least of each group given to it
below_spread : (n : ℕ) (gs : List (List ℕ)) (l : List ℕ) → Grouped n gs → AllBelow n l → AllBelow n (spread gs l)
below_spread n [] l g k = k
below_spread n (x ∷ gs) l g k = below_spread n gs (give (least x) x l) g.2 (below_give n (least x) x l (least_below n x g.0 g.1) k)

-- the groups of nodes
groups_below : (c : List Float) (t : Float) (n : ℕ) (f : ℕ → Bool) (ns : List ℕ) → AllBelow n ns → Grouped n (groups c t f ns)
groups_below c t n f [] k = tt
groups_below c t n f (x ∷ ns) k =
    go (f x) (groups_below c t n f ns k.1) (groups_below c t n (λ i. elem i (x ∷ takes c t x f ns) || f i) ns k.1)
  where
    go : (b : Bool) → Grouped n (groups c t f ns) → Grouped n (groups c t (λ i. elem i (x ∷ takes c t x f ns) || f i) ns)
        → Grouped n (cond b (groups c t f ns) ((x ∷ takes c t x f ns) ∷ groups c t (λ i. elem i (x ∷ takes c t x f ns) || f i) ns))
    go true p q = p
    go false p q = (omega arith, (k.0, nodes_takes c t n x f ns k.1), q)

-- the welded numbers of n nodes are nodes
pub welded_below : (c : List Float) (t : Float) (n : ℕ) (ns : List ℕ) → AllBelow n ns → AllBelow n (welded c t n ns)
unfolding welded
welded_below c t n ns h = go (eq t zero64)
  where
    go : (b : Bool) → AllBelow n (cond b (up_from 0 n) (spread (groups c t (λ k. false) (sort (before_of c) ns)) (up_from 0 n)))
    go true = below-up_from n 0 n (omega arith)
    go false =
        below_spread n (groups c t (λ k. false) (sort (before_of c) ns)) (up_from 0 n)
        (groups_below c t n (λ k. false) (sort (before_of c) ns) (below-sort (before_of c) n ns h)) (below-up_from n 0 n (omega arith))
