-- `merge::Runs::lowest` meets its contract. r is the lowest of the first i runs.
use Prim.Native.Nat.{ℕ, ◌≤◌}
use native.Mathlib.Omega.{arith}
use borrow.Author.Count.{below_more}
use lib.ListN.{get_or}
use Rattle.merge.specs.Runs.{head}
use Rattle.merge.proofs.Runs.lowest.Goals as goal

pub loop-i-preserved : goal.loop-i-preserved
loop-i-preserved c =
    let a = c.args in
    let l = c.loop-i in
    let v = c.min-r.ensures in
    let e = c.head_of.ensures in
    record {
      top = omega (arith, l.invariant.top);
      low = below_more (λ (j : ℕ). c.min-r.result ≤ head a.d (get_or a.self.now.from j 0) (get_or a.self.now.to j 0) a.base.now) l.i (λ j h. omega (arith, l.invariant.low j h)) (omega arith);
      high = λ m h f. omega (arith, l.invariant.high m h (λ j z. f j (omega arith)), f l.i (omega arith));
    }
