use mathlib.Core.Path.{◌≡◌}
use Prim.Native.Nat.{◌-◌}
use native.Mathlib.Omega.{arith}
use lib.ListN.{length}
use Rattle.laws.specs.Lists.{up_from}
use Rattle.laws.proofs.Stores.{sets_all}
use Rattle.laws.proofs.ListLaws.{length-up_from}
use Rattle.snap.proofs.number.Goals as goal

pub loop-i-init : goal.loop-i-init
loop-i-init c =
    let n = length c.args.part.now in
    let all : n - 0 ≡ n = omega arith in
    rw all (sets_all c.args.part.now (up_from 0 n) (length-up_from 0 n))

pub returns : goal.returns
returns c =
    let none : length c.args.part.now - c.loop-i.i ≡ 0 = omega arith in
    rw none at c.loop-i.invariant
