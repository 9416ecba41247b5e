use mathlib.Core.Path.{refl}
use borrow.Author.Tests.{lt-ltb}
use Rattle.mesh.proofs.KindNumbers.{kind_on}
use Rattle.mesh.proofs.kind_after.Goals as goal

pub returns-then-kind-before : goal.returns-then-kind-before
returns-then-kind-before c = (refl, rw (lt-ltb c.args.kind c.args.before c.if-kind-before.true) refl)

pub returns : goal.returns
returns c = kind_on c.args.before c.args.kind _ c.if-kind-before.false c.try_from.ensures
