use Prim.Native.Nat.{◌-◌}
use mathlib.Core.Path.{sym, subst}
use native.Mathlib.Omega.{arith}
use lib.ListN.{length, take, drop, drop_of_length-le}
use lib.Seq.{length-take-le}
use Rattle.model_read.proofs.JudgePass.{rest_lent, next_record}
use Rattle.model_read.proofs.FillPass.{Filling, nodes_room, filling_start, filling_room, filling_step, filling_end}
use Rattle.model_read.proofs.filling.fill_all.Goals as goal

pub fill_nodes-requires : goal.fill_nodes-requires
fill_nodes-requires c =
    let a = c.args in
    omega (arith, nodes_room a.records.now a.nodes _ _ _ _ c.requires.0 c.requires.1, length-take-le a.nodes a.records.now c.requires.1.inside)

pub loop-r-init : goal.loop-r-init
loop-r-init c =
    let a = c.args in
    subst (Filling a.records.now a.kinds.now a.ends.now a.words.now a.kinds.now a.ends.now a.words.now _) (sym (rest_lent a.records.now a.nodes)) (filling_start a.records.now a.nodes a.kinds.now a.ends.now a.words.now c.requires.1)

pub fill_record-p-requires : goal.fill_record-p-requires
fill_record-p-requires c =
    let a = c.args in
    let o = c.loop-r in
    let rest = take (length a.records.now - a.nodes) (drop a.nodes a.records.now) in
    let f = subst (Filling a.records.now a.kinds.now a.ends.now a.words.now o.kinds o.ends o.words o.p) (next_record rest o.r-index c.loop-r-test.true) o.invariant in
    filling_room a.records.now _ a.kinds.now a.ends.now a.words.now c.requires.0 o.kinds o.ends o.words o.p _ _ f

pub loop-r-preserved : goal.loop-r-preserved
loop-r-preserved c =
    let a = c.args in
    let o = c.loop-r in
    let e = c.fill_record-p in
    let rest = take (length a.records.now - a.nodes) (drop a.nodes a.records.now) in
    let f = subst (Filling a.records.now a.kinds.now a.ends.now a.words.now o.kinds o.ends o.words o.p) (next_record rest o.r-index c.loop-r-test.true) o.invariant in
    filling_step a.records.now _ a.kinds.now a.ends.now a.words.now c.requires.0 o.kinds o.ends o.words o.p _ _ f e.new.kinds e.new.ends e.new.words e.result e.ensures.place e.ensures.lists

pub returns : goal.returns
returns c =
    let a = c.args in
    let o = c.loop-r in
    let g = c.fill_nodes in
    let rest = take (length a.records.now - a.nodes) (drop a.nodes a.records.now) in
    filling_end a.records.now a.nodes a.coords.now g.new.coords a.kinds.now a.ends.now a.words.now o.kinds o.ends o.words o.p _ c.requires.0.judged_well c.requires.1 g.ensures o.invariant (drop_of_length-le rest c.loop-r-test.false)
