-- `area::area_of` meets its contract: the nodes after the first are nodes.
use Rattle.area.proofs.Judged.{rest_in}
use Rattle.area.proofs.area_of.Goals as goal

pub invariant_of-rest : goal.invariant_of-rest
invariant_of-rest c = record { in_nodes = rest_in c.args.coords.now c.args.nodes.now c.requires }
