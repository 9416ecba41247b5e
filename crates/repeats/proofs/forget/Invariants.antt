use Prim.Native.Nat.{ℕ}
use mathlib.Core.Path.{◌≡◌}
use mathlib.Core.List.{List}
use lib.ListN.{take, drop}
use lib.Seq.{sets}
use Rattle.laws.specs.Merging.{AllBelow}
use Rattle.mesh.specs.Rings.{nodes_in}
use Rattle.repeats.specs.declared.Regions.{Regions}
use Rattle.repeats.specs.Marks.{mark, weld_in, marks_in}
use Rattle.repeats.proofs.forget.Given as goal

-- the work was w₀ and is w, and i of the words are passed: the marks of the others, taken away, leave all taken away
abbrev pub Forgetting : List ℕ → List ℕ → Regions → List ℕ → ℕ → Type 0
Forgetting ws w₀ at w i = (take at.last w ≡ take at.last w₀) × AllBelow at.nodes (nodes_in (drop i ws))
    × (sets w at.last (mark (weld_in at w₀) (λ n. 0) (marks_in at w) (nodes_in (drop i ws))) ≡ sets w₀ at.last (mark (weld_in at w₀) (λ n. 0) (marks_in at w₀) (nodes_in ws)))

abbrev pub invariant-loop-n : goal.invariant-loop-n
invariant-loop-n l = Forgetting l.words l.initial.work l.at l.work l.n-index
