-- The sort, the cleared marks, the sweep and the settling, on lists: Whole.
use native.Mathlib.Omega.{arith}
use Rattle.snap.proofs.Whole.{Lent, zeroed, numbered, sweep_asks, all_settled}
use Rattle.snap.proofs.space.Space.weld_in.Goals as goal

pub sweep-requires : goal.sweep-requires
sweep-requires c =
    let lent : Lent c.args.self.now.coords.now c.args.self.now.tolerance c.args.work.now c.args.a c.args.s c.args.k c.args.n = record { first = c.requires.0; second = c.requires.1; marks = c.requires.2; nodes = c.requires.3 } in
    let cleared = zeroed c.sort.new.work c.args.k c.count-size.result _ c.count-size.ensures (omega (arith, c.requires.2, c.sort.auto.work)) (c.fill.ensures.after (λ y e. e)) in
    sweep_asks lent c.sort.ensures cleared c.args.self.now.sound

pub returns : goal.returns
returns c =
    let lent : Lent c.args.self.now.coords.now c.args.self.now.tolerance c.args.work.now c.args.a c.args.s c.args.k c.args.n = record { first = c.requires.0; second = c.requires.1; marks = c.requires.2; nodes = c.requires.3 } in
    let cleared = zeroed c.sort.new.work c.args.k c.count-size.result _ c.count-size.ensures (omega (arith, c.requires.2, c.sort.auto.work)) (c.fill.ensures.after (λ y e. e)) in
    all_settled lent c.sort.ensures cleared c.sweep.new.work c.sweep.auto.work c.sweep.ensures (numbered c.sweep.new.work c.args.k c.count-size.result _ c.count-size.ensures (omega (arith, c.requires.2, c.sort.auto.work, c.sweep.auto.work)) c.settle.ensures) c.requires.4
