use Prim.Native.Nat.{◌+◌}
use mathlib.Core.Path.{ap, ◌∙◌}
use mathlib.Core.List.{List}
use lib.ListN.{get_or, set}
use native.Mathlib.Omega.{arith}
use Rattle.laws.proofs.Stores.{sets_more}
use Rattle.rings.proofs.put_words.Goals as goal

pub loop-i-preserved : goal.loop-i-preserved
loop-i-preserved c =
    let a = c.args in
    let l = c.loop-i in
    ap (λ (v : List _). set v (a.at + l.i) (get_or a.words.now l.i 0)) l.invariant ∙ sets_more a.out.now a.at a.words.now l.i 0 (omega arith)
