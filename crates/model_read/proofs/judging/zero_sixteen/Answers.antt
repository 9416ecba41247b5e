use Prim.Native.Nat.{ℕ, ◌+◌}
use mathlib.Core.Path.{◌≡◌, sym, ap, ap₂, ◌∙◌}
use mathlib.Core.Bool.{◌&&◌}
use native.Mathlib.Omega.{arith}
use lib.Seq.{slice}
use Rattle.laws.specs.Bytes.{zeros}
use Rattle.model_read.proofs.ZeroBytes.{zeros_cover}
use Rattle.model_read.proofs.judging.zero_sixteen.Goals as goal

pub returns : goal.returns
returns c =
    let a = c.args in
    let e : a.at + 8 + 8 ≡ a.at + 16 = omega arith in
    ap₂ ◌&&◌ c.zero_eight.ensures (c.zero_eight-2.ensures ∙ ap (λ (n : ℕ). zeros (slice (a.at + 8) n a.r.now)) e)
    ∙ sym (zeros_cover a.at (a.at + 8) (a.at + 8) (a.at + 16) a.r.now (omega arith) (omega arith) (omega arith))
