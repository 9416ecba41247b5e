use Prim.Native.Nat.{ℕ, ◌+◌, ◌≤◌}
use mathlib.Core.Path.{◌≡◌}
use mathlib.Core.List.{List}
use lib.Dec.{leb}
use lib.ListN.{length, drop}
use lib.Seq.{sets}
use Rattle.node_sets.specs.Unique.{rises, unique}
use Rattle.node_sets.proofs.put_unique.Given as goal

-- i of the words behind the first are read, and k words are put: those that are left, put behind them, make the whole
abbrev pub Rising : List ℕ → List ℕ → List ℕ → ℕ → ℕ → ℕ → Type 0
Rising words out₀ out last k i = (k ≤ i + 1) × (k + length (rises leb last (drop i (drop 1 words))) ≡ length (unique leb words))
    × (sets out k (rises leb last (drop i (drop 1 words))) ≡ sets out₀ 0 (unique leb words))

abbrev pub invariant-loop-v : goal.invariant-loop-v
invariant-loop-v l = Rising l.words l.fn.out l.out l.last l.k l.v-index
