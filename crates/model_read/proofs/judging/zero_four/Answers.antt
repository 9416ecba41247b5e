use Prim.Native.Nat.{◌+◌}
use lib.Seq.{slice}
use Rattle.model_read.proofs.ZeroBytes.{zero_read}
use Rattle.model_read.proofs.judging.zero_four.Goals as goal

pub returns : goal.returns
returns c =
    let a = c.args in
    zero_read (slice a.at (a.at + 4) a.r.now) c.get.result c.get.ensures
