-- The group that the leader's turn puts at g, and marks (Turn).
use native.Mathlib.Omega.{arith}
use Rattle.snap.proofs.Turn.{Leading, takes_asks, end_within, least_asks, least_below, put_asks, turned}
use Rattle.snap.proofs.space.Space.lead.Goals as goal

pub takes-end-requires : goal.takes-end-requires
takes-end-requires c =
    let leading : Leading c.args.self.now.coords.now c.args.self.now.tolerance c.args.work.now c.args.i c.args.e c.args.g c.args.k = record { some = c.requires.0; before = c.requires.1; room = c.requires.2; marks = c.requires.3; nodes = c.requires.4 } in
    takes_asks leading c.requires.5

pub slice_bounds-least-end : goal.slice_bounds-least-end
slice_bounds-least-end c =
    let leading : Leading c.args.self.now.coords.now c.args.self.now.tolerance c.args.work.now c.args.i c.args.e c.args.g c.args.k = record { some = c.requires.0; before = c.requires.1; room = c.requires.2; marks = c.requires.3; nodes = c.requires.4 } in
    end_within leading c.takes-end.ensures

pub least-m-requires : goal.least-m-requires
least-m-requires c =
    let leading : Leading c.args.self.now.coords.now c.args.self.now.tolerance c.args.work.now c.args.i c.args.e c.args.g c.args.k = record { some = c.requires.0; before = c.requires.1; room = c.requires.2; marks = c.requires.3; nodes = c.requires.4 } in
    least_asks leading c.takes-end.ensures

pub overflow_add-m : goal.overflow_add-m
overflow_add-m c =
    let leading : Leading c.args.self.now.coords.now c.args.self.now.tolerance c.args.work.now c.args.i c.args.e c.args.g c.args.k = record { some = c.requires.0; before = c.requires.1; room = c.requires.2; marks = c.requires.3; nodes = c.requires.4 } in
    omega (arith, least_below leading c.takes-end.ensures c.least-m.ensures, c.args.self.now.few)

pub put-requires : goal.put-requires
put-requires c =
    let leading : Leading c.args.self.now.coords.now c.args.self.now.tolerance c.args.work.now c.args.i c.args.e c.args.g c.args.k = record { some = c.requires.0; before = c.requires.1; room = c.requires.2; marks = c.requires.3; nodes = c.requires.4 } in
    rw c.count.ensures (put_asks leading c.takes-end.ensures)

pub returns : goal.returns
returns c =
    let leading : Leading c.args.self.now.coords.now c.args.self.now.tolerance c.args.work.now c.args.i c.args.e c.args.g c.args.k = record { some = c.requires.0; before = c.requires.1; room = c.requires.2; marks = c.requires.3; nodes = c.requires.4 } in
    turned leading c.takes-end.ensures
    c.taken.ensures c.if-taken.false
    c.least-m.ensures c.put.ensures
