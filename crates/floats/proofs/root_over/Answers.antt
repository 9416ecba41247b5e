-- `floats::root_over` meets its contract: the square of x > e is below v, or the root itself is compared.
use mathlib.Core.Path.{sym, subst}
use lib.Dec.{T}
use lib.Ieee.{binary64, mul, of_bits}
use lib.Ieee.Fits.{mul-fits}
use Rattle.floats.proofs.Constants.{zero_bits}
use Rattle.floats.proofs.Over.{over_square}
use Rattle.floats.proofs.root_over.Goals as goal

pub returns-then-x-v : goal.returns-then-x-v
returns-then-x-v c =
    let a = c.args in
    sym (over_square a.v a.e (mul binary64 a.e (of_bits binary64 0x4000_0000_0000_0000)) (subst T (sym c.well_formed.0.1) tt) (subst T (sym c.well_formed.1.0.1) tt) (mul-fits binary64 a.e (of_bits binary64 0x4000_0000_0000_0000)) (rw zero_bits at c.if-e.true) c.if-e-x.true c.if-x-v.true)
