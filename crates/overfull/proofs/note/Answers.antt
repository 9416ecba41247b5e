-- `overfull::note` meets its contract.
use Prim.Native.Nat.{◌+◌}
use borrow.Author.Tests.{ne_eqb}
use Rattle.overfull.proofs.note.Goals as goal

pub returns-then-count-eq2 : goal.returns-then-count-eq2
returns-then-count-eq2 c = rw c.if-count-eq2.true

pub returns : goal.returns
returns c = rw (ne_eqb (c.args.s.count + 1) 2 c.if-count-eq2.false)
