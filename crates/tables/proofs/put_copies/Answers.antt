use Prim.Native.Nat.{◌+◌, ◌≤◌}
use native.Mathlib.Omega.{arith}
use lib.ListN.{length, length-replicate}
use Rattle.laws.proofs.Stores.{filled_part}
use Rattle.tables.proofs.put_copies.Goals as goal

pub returns : goal.returns
returns c =
    let a = c.args in
    let w = a.work.now in
    let h : a.at + a.n ≤ length w = c.requires in (
      omega (arith, length-replicate a.n a.v),
      filled_part w a.at (a.at + a.n) a.n a.v (omega arith) h (c.fill.ensures.after (λ y e. e)),
    )
