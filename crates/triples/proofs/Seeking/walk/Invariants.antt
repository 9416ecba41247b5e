use Prim.Native.Nat.{ℕ}
use mathlib.Core.List.{List}
use Rattle.laws.specs.Lists.{keep}
use Rattle.index.specs.declared.Places.{Places}
use Rattle.index.specs.Faces.{input, base}
use Rattle.merge.specs.Runs.{rest}
use Rattle.seek.specs.Candidates.{shares}
use Rattle.triples.proofs.Adds.{Prog}
use Rattle.triples.proofs.Seeking.walk.Given as goal

abbrev pub G : Places → List ℕ → ℕ → List ℕ → List ℕ
G p w lo l = keep (shares p (input p (base p w)) lo) l

abbrev pub invariant-loop-i : goal.invariant-loop-i
invariant-loop-i l = Prog l.self.at l.n-2 l.initial.work (G l.self.at l.initial.work l.self.lo (rest l.x l.e (base l.self.at l.initial.work))) (G l.self.at l.initial.work l.self.lo (rest l.i l.e (base l.self.at l.initial.work))) l.n l.work
