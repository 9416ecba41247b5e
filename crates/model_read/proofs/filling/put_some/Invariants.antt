use Prim.Native.Nat.{◌+◌}
use mathlib.Core.Path.{◌≡◌}
use lib.Seq.{sets}
use Rattle.model_read.specs.Steps.{words_between}
use Rattle.model_read.proofs.filling.put_some.Given as goal

abbrev pub invariant-loop-i : goal.invariant-loop-i
invariant-loop-i g l = l.words ≡ sets l.initial.words (l.at + l.j) (words_between l.j (l.j + l.i) l.r)
