use Prim.Native.Nat.{◌+◌}
use mathlib.Core.Path.{◌≡◌}
use Rattle.std.specs.Slice.Iter.{chunks_rest, chunks_size}
use Rattle.model_write.proofs.Passes.{Continuing}
use Rattle.model_write.proofs.put_cell.Given as goal

abbrev pub invariant-loop-part : goal.invariant-loop-part
invariant-loop-part l = (chunks_size l.part-iterator ≡ 14) × Continuing l.initial.out (l.at + 32) (chunks_rest l.initial.part-iterator) l.out l.p (chunks_rest l.part-iterator)
