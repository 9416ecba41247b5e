use Prim.Native.Nat.{◌+◌, ◌≤◌, ◌^◌}
use mathlib.Core.Path.{◌≡◌}
use lib.ListN.{length}
use Rattle.std.specs.Slice.Iter.{chunks_exact_rest, chunks_exact_size}
use Rattle.laws.specs.Merging.{AllBelow}
use Rattle.geometry.specs.Coordinates.{node_count}
use Rattle.repeated_nodes.proofs.Listed.{KeepsOn}
use Rattle.repeated_nodes.proofs.keep_pairs.Given as goal

abbrev pub invariant-loop-pair : goal.invariant-loop-pair
invariant-loop-pair l =
    let left = chunks_exact_rest l.pair-iterator in record {
      two : chunks_exact_size l.pair-iterator ≡ 2;
      below : AllBelow (node_count l.coords) left;
      few : l.sink.count + length left ≤ 2 ^ 57;
      keeps_on : KeepsOn l.coords l.c l.pairs l.initial.sink left l.sink;
    }
