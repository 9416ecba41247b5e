-- `floats::of_bits` meets its contract: a NaN's pattern is made by 0.0 / 0.0.
use mathlib.Core.Path.{sym}
use lib.Ieee.{div, of_bits}
use Rattle.std.proofs.lemmas.Float.{not_nan_f64_bits}
use Rattle.floats.proofs.NanPatterns.{nan_of}
use Rattle.floats.proofs.of_bits.Goals as goal

pub returns-then-m-gt9218868437227405312 : goal.returns-then-m-gt9218868437227405312
unfolding div of_bits
returns-then-m-gt9218868437227405312 c = sym (nan_of c.args.n c.if-m-gt9218868437227405312.true)

pub float_from_bits-result : goal.float_from_bits-result
float_from_bits-result c = not_nan_f64_bits c.args.n c.if-m-gt9218868437227405312.false
