use mathlib.Core.Path.{sym}
use Rattle.mesh.proofs.nodes_off_unless.Goals as goal

pub returns-then-good : goal.returns-then-good
returns-then-good c = sym (c.requires c.if-good.true)
