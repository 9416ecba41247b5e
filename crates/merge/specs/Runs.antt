-- Runs of a slice: up to 64 of them, each from a place to an end, in two lists of places.
use Rattle.std.specs.Prelude.{ℕ, ◌+◌, ◌-◌, ◌≤◌, ◌<◌, Bool, cond, List, eqb, length, get_or}
use Rattle.laws.specs.Merging.{region}

-- what is left of a run from x to e
abbrev pub rest : ℕ → ℕ → List ℕ → List ℕ
rest x e b = region x (e - x) b

-- its first number, or d
abbrev pub head : ℕ → ℕ → ℕ → List ℕ → ℕ
head d x e b = get_or (rest x e b) 0 d

-- run i has g next
abbrev pub stands : List ℕ → List ℕ → List ℕ → ℕ → ℕ → Bool
stands b from to g i = eqb (head (g + 1) (get_or from i 0) (get_or to i 0) b) g

-- where run i goes on when g is taken
abbrev pub next : List ℕ → List ℕ → List ℕ → ℕ → ℕ → ℕ
next b from to g i = cond (stands b from to g i) (get_or from i 0 + 1) (get_or from i 0)

-- the first k runs end within b
abbrev pub Ends : ℕ → List ℕ → List ℕ → Type 0
Ends k to b = (k ≤ 64) × ((i : ℕ) → i < k → get_or to i 0 ≤ length b)

-- r is the lowest of the first numbers of the first k runs, and of d
pub record Lowest (k : ℕ) (b from to : List ℕ) (d r : ℕ) : Type 0 where
  pub top : r ≤ d
  pub low : (i : ℕ) → i < k → r ≤ head d (get_or from i 0) (get_or to i 0) b
  pub high : (m : ℕ) → m ≤ d → ((i : ℕ) → i < k → m ≤ head d (get_or from i 0) (get_or to i 0) b) → m ≤ r
