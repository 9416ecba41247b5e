-- What is left to be marked, marked now, is the whole group marked at entry. The nodes lie before the marks.
use Rattle.snap.proofs.Parts.{in_slice, read_to}
use native.Mathlib.Numerals.{add-one}
use lib.Seq.{slice-cons, take-set-le}
use lib.ListN.{get_or}
use mathlib.Core.Path.{◌≡◌, ◌∙◌}
use Prim.Native.Nat.{◌+◌, ◌≤◌, ◌<◌}
use native.Mathlib.Omega.{arith}
use lib.ListN.{length}
use Rattle.snap.proofs.sweeping.put.Goals as goal

pub bounds-work-k : goal.bounds-work-k
bounds-work-k c =
    let value : get_or c.loop-j.work c.loop-j.j 0 ≡ get_or c.args.work.now c.loop-j.j 0 = let at = c in
    let s = at in
    read_to s.args.k at.loop-j.j at.loop-j.work s.args.work.now at.loop-j.invariant.0 (omega arith) in
    let node : get_or c.loop-j.work c.loop-j.j 0 < c.args.size = let b : c.args.e ≤ length c.args.work.now = omega arith in
    rw value (in_slice _ c.args.g c.args.e c.loop-j.j c.args.work.now b c.requires.3 c.loop-j.auto.j c.loop-j-test.true) in
    let h = node in omega arith

pub loop-j-preserved : goal.loop-j-preserved
loop-j-preserved c =
    let value : get_or c.loop-j.work c.loop-j.j 0 ≡ get_or c.args.work.now c.loop-j.j 0 = let at = c in
    let s = at in
    read_to s.args.k at.loop-j.j at.loop-j.work s.args.work.now at.loop-j.invariant.0 (omega arith) in
    let l = c.args.work.now in
    let j<e : c.loop-j.j < c.args.e = omega arith in
    let b : c.args.e ≤ length l = omega arith in
    let x = get_or c.loop-j.work c.loop-j.j 0 in (
      take-set-le c.args.k c.loop-j.work (c.args.k + x) c.args.v (omega arith) ∙ c.loop-j.invariant.0,
      rw (add-one c.loop-j.j, value) (rw (slice-cons c.loop-j.j c.args.e l 0 j<e b) at c.loop-j.invariant.1),
    )
