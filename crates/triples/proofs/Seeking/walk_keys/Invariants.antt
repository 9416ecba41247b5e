use Prim.Native.Nat.{ℕ}
use mathlib.Core.List.{List}
use Rattle.laws.specs.Lists.{each}
use Rattle.index.specs.declared.Places.{Places}
use Rattle.index.specs.Faces.{base}
use Rattle.merge.specs.Runs.{rest}
use Rattle.triples.specs.Hits.{hits_by}
use Rattle.triples.proofs.Adds.{Prog}
use Rattle.triples.proofs.Seeking.walk_keys.Given as goal

abbrev pub G : Places → Places → List ℕ → ℕ → List ℕ → List ℕ
G p q w lo l = each (hits_by p q (base p w) lo) l

abbrev pub invariant-loop-i : goal.invariant-loop-i
invariant-loop-i l = Prog l.self.at l.n-2 l.initial.work (G l.self.at l.self.by l.initial.work l.self.lo (rest l.s l.e (base l.self.at l.initial.work))) (G l.self.at l.self.by l.initial.work l.self.lo (rest l.i l.e (base l.self.at l.initial.work))) l.n l.work
