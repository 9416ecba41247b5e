use Prim.Native.Nat.{◌+◌}
use mathlib.Core.Path.{sym, ap₂, ◌∙◌}
use mathlib.Core.Bool.{◌&&◌}
use native.Mathlib.Omega.{arith}
use Rattle.model_read.proofs.ZeroBytes.{zeros_cover}
use Rattle.model_read.proofs.judging.rest_zero.Goals as goal

pub returns-then-from-le16 : goal.returns-then-from-le16
returns-then-from-le16 c =
    let a = c.args in
    ap₂ ◌&&◌ c.zero_sixteen.ensures c.zero_sixteen-then-from-le16.ensures ∙ sym (zeros_cover a.from (a.from + 16) 16 32 a.r.now (omega arith) (omega arith) (omega arith))

pub returns-then-from-le24 : goal.returns-then-from-le24
returns-then-from-le24 c =
    let a = c.args in
    ap₂ ◌&&◌ c.zero_eight.ensures c.zero_eight-then-from-le24.ensures ∙ sym (zeros_cover a.from (a.from + 8) 24 32 a.r.now (omega arith) (omega arith) (omega arith))

pub returns-then-from-le28 : goal.returns-then-from-le28
returns-then-from-le28 c =
    let a = c.args in
    ap₂ ◌&&◌ c.zero_four.ensures c.zero_four-then-from-le28.ensures ∙ sym (zeros_cover a.from (a.from + 4) 28 32 a.r.now (omega arith) (omega arith) (omega arith))
