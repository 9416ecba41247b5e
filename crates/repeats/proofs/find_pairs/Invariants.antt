use Prim.Native.Nat.{ℕ, ◌+◌, ◌*◌, ◌≤◌}
use mathlib.Core.Path.{◌≡◌}
use mathlib.Core.List.{List}
use lib.ListN.{length, take, drop}
use lib.Seq.{sets}
use Rattle.laws.specs.Merging.{AllBelow}
use Rattle.pair_sort.specs.Pairs.{flat}
use Rattle.mesh.specs.Rings.{nodes_in}
use Rattle.repeats.specs.declared.Regions.{Regions}
use Rattle.repeats.specs.Marks.{hits, mark, weld_in, marks_in}
use Rattle.repeats.proofs.find_pairs.Given as goal

-- the work was w₀ and is w, i of the words are passed, and there are k pairs: what the others give, put behind these, makes the whole
abbrev pub Finding : List ℕ → List ℕ → Regions → List ℕ → ℕ → ℕ → Type 0
Finding ws w₀ at w k i = (k ≤ i) × (take at.last w ≡ take at.last w₀) × AllBelow at.nodes (nodes_in (drop i ws))
    × (k + length (hits (weld_in at w₀) (marks_in at w) (nodes_in (drop i ws))) ≡ length (hits (weld_in at w₀) (marks_in at w₀) (nodes_in ws)))
    × (sets (sets w at.last (mark (weld_in at w₀) (λ n. n + 1) (marks_in at w) (nodes_in (drop i ws)))) (at.pairs + 2 * k) (flat (hits (weld_in at w₀) (marks_in at w) (nodes_in (drop i ws))))
    ≡ sets (sets w₀ at.last (mark (weld_in at w₀) (λ n. n + 1) (marks_in at w₀) (nodes_in ws))) at.pairs (flat (hits (weld_in at w₀) (marks_in at w₀) (nodes_in ws))))

abbrev pub invariant-loop-n : goal.invariant-loop-n
invariant-loop-n l = Finding l.words l.initial.work l.at l.work l.k l.n-index
