-- `pairs::candidates_of` meets its contract. What a search leaves the next can ask (`ready_again`).
use Rattle.seek.specs.Candidates.{by_nodes}
use Rattle.pairs.proofs.Again.{ready_again}
use Rattle.pairs.proofs.candidates_of.Goals as goal

pub returns-clause-ready_all : goal.returns-clause-ready_all
returns-clause-ready_all c =
    let a = c.args in
    ready_again (by_nodes a.way) a.at a.lo a.work.now c.seek.new.work c.seek.result c.requires.ready.0 c.seek.ensures
