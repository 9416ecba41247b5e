use Prim.Native.Nat.{◌+◌}
use lib.ListN.{length}
use native.Mathlib.Omega.{arith}
use Rattle.mesh.proofs.Ends.{end_within}
use Rattle.mesh.proofs.model.RawCellsIterator.next.Goals as goal

pub split_at-requires : goal.split_at-requires
split_at-requires c =
    let s = c.args.self.now in
    omega (arith, end_within s.at (s.at + length s.words.now) c.in_ok-end.end.now s.ends.now _ c.in_ok-end.ensures.cases.0 s.ordered)
