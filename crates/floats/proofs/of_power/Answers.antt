-- `floats::of_power` meets its contract: an odd power of two gives one factor to the number.
use mathlib.Core.Path.{◌≡◌}
use Prim.Native.Nat.{◌%◌}
use native.Mathlib.Omega.{arith}
use Rattle.floats.proofs.Scaled.{scaled_even, scaled_odd}
use Rattle.floats.proofs.of_power.Goals as goal

pub returns-then-a-eq0 : goal.returns-then-a-eq0
returns-then-a-eq0 c = λ n e. c.rounded.ensures n (scaled_even n c.args.p c.args.a e c.requires.0 c.requires.1 c.requires.2 c.requires.3 c.if-a-eq0.true).whole

pub returns-else-a-eq0 : goal.returns-else-a-eq0
returns-else-a-eq0 c =
    let o : c.args.a % 2 ≡ 1 = omega (arith, c.if-a-eq0.false) in
    λ n e. c.rounded-else-a-eq0.ensures n (scaled_odd n c.args.p c.args.a e c.requires.0 c.requires.1 c.requires.2 c.requires.3 o).whole
