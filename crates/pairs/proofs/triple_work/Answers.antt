-- `pairs::triple_work` meets its contract. What is added, and what is left to add, is the whole; a face adds at most 2 ^ 18.
use mathlib.Core.Path.{ap, ◌∙◌}
use native.Mathlib.Omega.{arith}
use Rattle.laws.specs.Lists.{triples_of}
use Rattle.index.specs.Read.{input_of}
use Rattle.pairs.specs.Work.{triple_work}
use Rattle.pairs.proofs.Sums.{left_all, left_turn}
use Rattle.pairs.proofs.triple_work.Invariants.{f}
use Rattle.pairs.proofs.triple_work.Goals as goal

pub loop-g-init : goal.loop-g-init
unfolding triple_work
loop-g-init c =
    let i = c.args.ix.now in (omega arith, left_all (f i.at i.base.now) i.at.faces)

pub loop-g-preserved : goal.loop-g-preserved
loop-g-preserved c =
    let i = c.args.ix.now in
    let l = c.loop-g in (
      omega (arith, l.invariant.0, c.triples_of-total.ensures.1),
      left_turn (f i.at i.base.now) i.at.faces l.g l.total c.triples_of-total.result (triple_work i.at (input_of i)) c.loop-g-test.true l.invariant.1 (c.triples_of-total.ensures.0 ∙ ap triples_of c.set_size.ensures),
    )
