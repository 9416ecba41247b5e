-- From j to the place that was reached all are passed over (Between).
use Rattle.snap.proofs.Parts.{in_slice}
use Rattle.snap.proofs.Between.{past_all}
use Rattle.snap.proofs.space.Space.past.Goals as goal

pub invariant_of-walk : goal.invariant_of-walk
invariant_of-walk c = record {
  in_work = c.requires.1;
  are_nodes = λ i f t. in_slice _ c.args.j c.args.e i c.args.work.now c.requires.1 c.requires.3 f t;
}

pub returns : goal.returns
returns c = past_all c.args.self.now.coords.now c.args.self.now.sound c.args.self.now.tolerance c.args.leader c.args.j c.land.result c.args.e c.args.work.now
    c.point3.ensures c.point3-2.ensures c.land.ensures c.requires.4 c.requires.5 c.requires.6
