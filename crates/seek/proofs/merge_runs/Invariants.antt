use Prim.Native.Nat.{ℕ, ◌-◌, ◌≤◌}
use mathlib.Core.Path.{◌≡◌}
use mathlib.Core.List.{List}
use lib.ListN.{length}
use lib.Seq.{sets}
use Rattle.index.specs.declared.Places.{Places}
use Rattle.index.specs.Faces.{input, base}
use Rattle.seek.specs.Steps.{Runs, up_to}
use Rattle.seek.proofs.merge_runs.Given as goal

-- the candidates below g are noted, and the runs stand at g
pub record Held (p : Places) (w : List ℕ) (lo k g n : ℕ) (from to v : List ℕ) : Type 0 where
  pub top : g ≤ p.faces
  pub work : v ≡ sets w p.found (up_to p (input p w) lo g)
  pub number : n ≡ length (up_to p (input p w) lo g)
  pub runs : Runs p (base p w) lo k g from to

abbrev pub invariant-loop-g : goal.invariant-loop-g
invariant-loop-g l = Held l.at l.initial.work l.lo l.runs.count l.g l.n l.runs.from l.runs.to l.work

abbrev pub decreases-loop-g : goal.decreases-loop-g
decreases-loop-g l = l.at.faces - l.g
