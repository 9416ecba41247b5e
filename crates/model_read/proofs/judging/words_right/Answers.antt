use Prim.Native.Nat.{◌+◌, ◌*◌}
use mathlib.Core.Path.{◌≡◌, sym}
use native.Mathlib.Omega.{arith}
use borrow.Author.Tests.{eq-eqb, le-leb}
use Rattle.model_file.specs.Records.{count}
use Rattle.model_file.proofs.Numbers.{zeros_end}
use Rattle.model_read.proofs.judging.words_right.Goals as goal

pub returns-then-n-eq14 : goal.returns-then-n-eq14
returns-then-n-eq14 c =
    let r = c.args.r.now in
    let n : count r ≡ 14 = c.if-n-eq14.true in
    sym (simp (le-leb _ _ c.if-n-least.false, le-leb _ _ c.if-n-gt14.false, eq-eqb _ _ c.if-r-ne0.false, zeros_end (4 + 2 * count r) 32 r (omega arith) (omega arith)))
