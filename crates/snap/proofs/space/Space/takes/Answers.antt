-- A turn of the walk is a law of `Taking`; this file names the places.
use Prim.Native.Nat.{◌≤◌, ◌<◌, ◌/◌}
use native.Mathlib.Omega.{arith}
use lib.ListN.{length, get_or}
use Rattle.snap.proofs.Taking.{is_node, skipped, jumped, stopped, joined, past_asks}
use Rattle.snap.proofs.space.Space.takes.Goals as goal

pub point3-b-requires : goal.point3-b-requires
point3-b-requires c =
    let in_work : c.args.e ≤ length c.args.work.now = omega (arith, c.requires.1, c.requires.2, c.requires.3) in
    let next_node : get_or c.loop-j.work c.loop-j.j 0 < length c.args.self.now.coords.now / 3 = is_node c.loop-j.invariant c.loop-j-test.true c.requires.1 in_work _ c.requires.5 in
    let h = next_node in omega arith

pub taken-requires : goal.taken-requires
taken-requires c =
    let in_work : c.args.e ≤ length c.args.work.now = omega (arith, c.requires.1, c.requires.2, c.requires.3) in
    let next_node : get_or c.loop-j.work c.loop-j.j 0 < length c.args.self.now.coords.now / 3 = is_node c.loop-j.invariant c.loop-j-test.true c.requires.1 in_work _ c.requires.5 in
    let h = next_node in omega arith

pub loop-j-preserved-then-taken : goal.loop-j-preserved-then-taken
loop-j-preserved-then-taken c =
    let in_work : c.args.e ≤ length c.args.work.now = omega (arith, c.requires.1, c.requires.2, c.requires.3) in
    skipped c.loop-j.invariant c.loop-j-test.true c.requires.1 in_work c.taken.ensures c.if-taken.true

pub returns-else-taken : goal.returns-else-taken
returns-else-taken c =
    let in_work : c.args.e ≤ length c.args.work.now = omega (arith, c.requires.1, c.requires.2, c.requires.3) in
    stopped c.loop-j.invariant c.loop-j-test.true c.requires.1 in_work
    c.point3-a.ensures c.point3-b.ensures
    c.far.ensures c.if-far.true c.taken.ensures c.if-taken.false

pub taken-requires-then-near : goal.taken-requires-then-near
taken-requires-then-near c =
    let in_work : c.args.e ≤ length c.args.work.now = omega (arith, c.requires.1, c.requires.2, c.requires.3) in
    let next_node : get_or c.loop-j.work c.loop-j.j 0 < length c.args.self.now.coords.now / 3 = is_node c.loop-j.invariant c.loop-j-test.true c.requires.1 in_work _ c.requires.5 in
    let h = next_node in omega arith

pub loop-j-preserved-then-taken-2 : goal.loop-j-preserved-then-taken-2
loop-j-preserved-then-taken-2 c =
    let in_work : c.args.e ≤ length c.args.work.now = omega (arith, c.requires.1, c.requires.2, c.requires.3) in
    skipped c.loop-j.invariant c.loop-j-test.true c.requires.1 in_work c.taken-then-near.ensures c.if-taken-2.true

pub loop-j-preserved-else-taken-2 : goal.loop-j-preserved-else-taken-2
loop-j-preserved-else-taken-2 c =
    let in_work : c.args.e ≤ length c.args.work.now = omega (arith, c.requires.1, c.requires.2, c.requires.3) in
    joined c.loop-j.invariant c.loop-j-test.true c.requires.1 in_work
    c.point3-a.ensures c.point3-b.ensures
    c.requires.2 c.far.ensures c.if-far.false c.near.ensures c.if-near.true c.taken-then-near.ensures c.if-taken-2.false

pub past-j-requires : goal.past-j-requires
past-j-requires c =
    let in_work : c.args.e ≤ length c.args.work.now = omega (arith, c.requires.1, c.requires.2, c.requires.3) in
    past_asks c.loop-j.invariant c.loop-j-test.true c.requires.1 in_work
    c.point3-a.ensures c.point3-b.ensures
    c.far.ensures c.if-far.false c.near.ensures c.if-near.false c.requires.4 c.requires.5 c.requires.6

pub loop-j-preserved : goal.loop-j-preserved
loop-j-preserved c =
    let in_work : c.args.e ≤ length c.args.work.now = omega (arith, c.requires.1, c.requires.2, c.requires.3) in
    jumped c.loop-j.invariant c.loop-j-test.true c.requires.1 in_work c.past-j.result c.past-j.ensures
