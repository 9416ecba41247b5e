-- `floats::rounded` meets its contract: the 54 digits, and the bits that the rounded root is written by.
use Prim.Native.Nat.{◌*◌, ◌^◌}
use Rattle.floats.proofs.Whole.{IsRoot, of_rest}
use Rattle.floats.proofs.Written.{result, result_plain}
use Rattle.floats.proofs.rounded.Goals as goal

pub float_from_bits-result : goal.float_from_bits-result
float_from_bits-result c =
    let root_of : IsRoot (c.args.m * 2 ^ 54) c.digits-d.result.root = of_rest (c.args.m * 2 ^ 54) c.digits-d.result.root c.digits-d.result.rest c.digits-d.ensures.0 in
    result_plain c.args.m c.args.h c.digits-d.result.root c.requires.0 c.requires.1 c.requires.2 c.requires.3 root_of

pub returns : goal.returns
returns c =
    let root_of : IsRoot (c.args.m * 2 ^ 54) c.digits-d.result.root = of_rest (c.args.m * 2 ^ 54) c.digits-d.result.root c.digits-d.result.rest c.digits-d.ensures.0 in
    result c.args.m c.args.h c.digits-d.result.root c.requires.0 c.requires.1 c.requires.2 c.requires.3 root_of
