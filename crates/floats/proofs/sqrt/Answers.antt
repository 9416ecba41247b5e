-- `floats::sqrt` meets its contract, each kind of value by a lemma of `Cases.antt`.
use mathlib.Core.Path.{sym, ap, ◌∙◌, subst}
use Prim.Native.Nat.{ℕ, ◌+◌, ◌*◌, ◌-◌, ◌^◌, ◌≤◌, ◌<◌}
use native.Mathlib.Nat.{le_trans}
use native.Mathlib.Omega.{arith}
use lib.Dec.{lit≤}
use lib.Ieee.{div, of_bits}
use Rattle.floats.proofs.Scaled.{moved}
use Rattle.floats.proofs.Cases.{sqrt-nan, nan_is, number_is, exponent_of, significand_of, significand_lt, at_zero, negative_low, negative_other, at_top, positive_low, positive_mid, zeros_of, Normal, normal, placed}
use Rattle.floats.proofs.sqrt.Goals as goal

pub returns-then-is_nan : goal.returns-then-is_nan
returns-then-is_nan c = sqrt-nan c.args.x (nan_is c.args.x (sym c.is_nan.ensures.value ∙ c.if-is_nan.true))

pub returns-then-significand-eq0 : goal.returns-then-significand-eq0
returns-then-significand-eq0 c = at_zero c.args.x c.well_formed.0.1 c.if-exponent-eq0.true c.if-significand-eq0.true

pub returns-then-sign-eq1 : goal.returns-then-sign-eq1
unfolding div of_bits
returns-then-sign-eq1 c = sym (negative_low c.args.x c.well_formed.0.1 c.if-exponent-eq0.true c.if-significand-eq0.false c.if-sign-eq1.true)

pub overflow_sub-zeros : goal.overflow_sub-zeros
overflow_sub-zeros c =
    let normal_of : Normal (significand_of c.args.x) = let x = c.args.x in normal (significand_of x) c.if-significand-eq0.false (significand_lt x) in
    normal_of.some

pub of_power-requires : goal.of_power-requires
of_power-requires c =
    let normal_of : Normal (significand_of c.args.x) = let x = c.args.x in normal (significand_of x) c.if-significand-eq0.false (significand_lt x) in
    let n = normal_of in
    (subst (λ (p : ℕ). 2 ^ 52 ≤ p) (sym n.same) n.low, subst (λ (p : ℕ). p < 2 ^ 53) (sym n.same) n.high, omega (arith, n.few), omega arith)

pub returns-then-exponent-eq0 : goal.returns-then-exponent-eq0
returns-then-exponent-eq0 c =
    let normal_of : Normal (significand_of c.args.x) = let x = c.args.x in normal (significand_of x) c.if-significand-eq0.false (significand_lt x) in
    let x = c.args.x in
    let t = significand_of x in
    let n = normal_of in
    c.of_power.ensures (t * 2 ^ 0) (moved t 0 (zeros_of t) (le_trans n.few (lit≤ tt)) ∙ ap (λ (p : ℕ). p * 2 ^ (1074 - zeros_of t)) (sym n.same))
    ∙ sym (positive_low x c.well_formed.0.1 c.if-exponent-eq0.true c.if-significand-eq0.false c.if-sign-eq1.false)

pub returns-then-sign-eq1-2 : goal.returns-then-sign-eq1-2
unfolding div of_bits
returns-then-sign-eq1-2 c = sym (negative_other c.args.x c.well_formed.0.1 c.if-exponent-eq0.false c.if-sign-eq1-2.true (number_is c.args.x (sym c.is_nan.ensures.value ∙ c.if-is_nan.false)))

pub returns-then-exponent-eq2047 : goal.returns-then-exponent-eq2047
returns-then-exponent-eq2047 c = at_top c.args.x c.well_formed.0.1 c.if-exponent-eq2047.true c.if-sign-eq1-2.false (number_is c.args.x (sym c.is_nan.ensures.value ∙ c.if-is_nan.false))

pub returns : goal.returns
returns c =
    let x = c.args.x in
    c.of_power-2.ensures ((2 ^ 52 + significand_of x) * 2 ^ (exponent_of x - 1)) (placed (significand_of x) (exponent_of x) c.if-exponent-eq0.false)
    ∙ sym (positive_mid x c.well_formed.0.1 c.if-exponent-eq0.false c.if-exponent-eq2047.false c.if-sign-eq1-2.false)
