use Prim.Native.Nat.{◌+◌, ◌*◌}
use mathlib.Core.Path.{◌≡◌}
use lib.ListN.{take, drop}
use lib.Seq.{sets}
use Rattle.model_file.specs.Records.{word_bytes}
use Rattle.model_write.proofs.put_some.Given as goal

abbrev pub invariant-loop-i : goal.invariant-loop-i
invariant-loop-i g l = l.r ≡ sets l.initial.r (4 + 2 * l.j) (word_bytes (take l.i (drop l.j l.words)))
