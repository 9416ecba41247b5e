use Rattle.mesh.specs.Lent.{lent}
use Rattle.mesh.proofs.ModelTable.{shape_is}
use Rattle.mesh.proofs.shape_off.Goals as goal

pub returns : goal.returns
returns c = rw (c.ends_off-wrong.ensures, c.count_off-count.ensures) (shape_is (lent c.args.model.now))
