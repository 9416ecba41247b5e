-- For internal contracts: the list of marked cells, the first words of pairs at `pairs`.
use Rattle.std.specs.Prelude.{Option, Some, None, ℕ, ◌+◌, ◌*◌, ◌≤◌, ◌<◌, cond, ◌⊎◌, ◌≢◌, List, [], ◌∷◌, ◌≡◌, ltb, get_or, set}
use Rattle.pair_sort.specs.Pairs.{pairs_at}
use Rattle.layout.specs.declared.Layout.{Layout}

-- cell b is the first word of one of the pairs
abbrev pub Has : ℕ → List (ℕ × ℕ) → Type 0
Has b [] = ⊥
Has b (p ∷ ps) = (p.0 ≡ b) ⊎ Has b ps

-- none of the pairs has a smaller cell behind it
abbrev pub Rising : List (ℕ × ℕ) → Type 0
Rising [] = Unit {0}
Rising (p ∷ ps) = ((b : ℕ) → Has b ps → p.0 ≤ b) × Rising ps

-- n pairs at `pairs` list cells, each marked one among them
pub record Listed (l : Layout) (w : List ℕ) (n : ℕ) : Type 0 where
  pub known : (b : ℕ) → Has b (pairs_at l.pairs n w) → b < l.at.cell_count
  pub there : (b : ℕ) → b < l.at.cell_count → get_or w (l.marks + b) 0 ≢ 0 → Has b (pairs_at l.pairs n w)

-- the same, where the list has had room for all
abbrev pub ListedIf : Layout → List ℕ → Option ℕ → Type 0
ListedIf l w None = Unit {0}
ListedIf l w (Some n) = (n ≤ l.words) × Listed l w n

-- how many are listed after one more, where there is room
unfoldable pub list_count : Layout → Option ℕ → Option ℕ
list_count l None = None
list_count l (Some n) = cond (ltb n l.words) (Some (n + 1)) None

-- cell b listed behind n others, where there is room
unfoldable pub list_with : Layout → ℕ → Option ℕ → List ℕ → List ℕ
list_with l b None w = w
list_with l b (Some n) w = cond (ltb n l.words) (set w (l.pairs + 2 * n) b) w
