-- `floats::digits`: what each call asks and gives.
use mathlib.Core.Path.{subst}
use Prim.Native.Nat.{ℕ, ◌*◌, ◌/◌, ◌-◌, ◌^◌, zero-le}
use native.Mathlib.Nat.{zero-lt-suc}
use native.Mathlib.Omega.{arith}
use Rattle.floats.specs.Steps.{Rest}
use Rattle.floats.proofs.Whole.{down, last_digit, last_zero, root_small, one_more}
use Rattle.floats.proofs.+digits.Goals as goal

pub digits-requires : goal.digits-requires
digits-requires t c =
    let a = c.args in
    (omega arith, (zero-le, down a.m a.zeros a.left c.if-left-eq0.false c.if-zeros-eq0.true c.requires.1, omega arith))

pub returns-then-zeros-eq0 : goal.returns-then-zeros-eq0
returns-then-zeros-eq0 t c =
    let a = c.args in
    let q = c.digits.result in
    let r = c.digit.result in (
      subst (λ (n : ℕ). Rest n r.root r.rest) (last_digit a.m a.zeros c.if-zeros-eq0.true) (c.digit.ensures.0 (a.m / 4 * 4 ^ 0) c.digits.ensures.0),
      one_more r.root q.root a.left c.if-left-eq0.false c.digits.ensures.1 c.digit.ensures.1,
    )

pub digit-requires-2 : goal.digit-requires-2
digit-requires-2 t c =
    (root_small c.digits-2.result.root c.args.left c.requires.2 c.digits-2.ensures.1, c.digits-2.ensures.0.small, zero-lt-suc 3)

pub returns : goal.returns
returns t c =
    let a = c.args in
    let q = c.digits-2.result in
    let r = c.digit-2.result in (
      subst (λ (n : ℕ). Rest n r.root r.rest) (last_zero a.m a.zeros c.if-zeros-eq0.false) (c.digit-2.ensures.0 (a.m * 4 ^ (a.zeros - 1)) c.digits-2.ensures.0),
      one_more r.root q.root a.left c.if-left-eq0.false c.digits-2.ensures.1 c.digit-2.ensures.1,
    )
