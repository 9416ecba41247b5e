-- `partially_shared::noting::note_found` meets its contract.
use native.Mathlib.Omega.{arith}
use Rattle.index.specs.Faces.{input}
use Rattle.layout.specs.ByCell.{plain_rules}
use Rattle.partially_shared.proofs.Searched.{candidate_low, candidates_few, noting_start, next_is, noting_next, more_all}
use Rattle.partially_shared.proofs.noting.note_found.Goals as goal

pub loop-i-init : goal.loop-i-init
loop-i-init c =
    let a = c.args in
    noting_start (plain_rules a.cx.now.coords.now a.cx.now.tolerance) a.cx.now.layout a.f a.work.now a.r c.requires.searching c.requires.f_lt_faces.1

pub bounds-work-found : goal.bounds-work-found
bounds-work-found c =
    let a = c.args in
    let few = candidates_few a.cx.now.layout.at (input a.cx.now.layout.at a.work.now) a.f in
    let sp = c.requires.searching.spaced in
    omega (arith, sp.marks_at, sp.others_at, sp.last_at, sp.pairs_at, sp.spare_at, sp.ends, few, c.requires.f_lt_faces.2, c.loop-i.auto.work)

pub note-s-requires : goal.note-s-requires
note-s-requires c =
    let a = c.args in
    let few = candidates_few a.cx.now.layout.at (input a.cx.now.layout.at a.work.now) a.f in
    let o = c.loop-i in
    let R = plain_rules a.cx.now.coords.now a.cx.now.tolerance in
    let e = next_is R a.cx.now.layout a.f a.work.now a.r c.requires.searching a.n o.work o.s o.i o.invariant c.requires.f_lt_faces.2 (omega (arith, few, c.requires.f_lt_faces.2)) c.requires.f_lt_faces.3 (omega arith) in
    let low = candidate_low a.cx.now.layout.at (input a.cx.now.layout.at a.work.now) a.f o.i (omega (arith, c.requires.f_lt_faces.2)) in
    record {
      searching = o.invariant.search;
      f_lt_faces = (c.requires.f_lt_faces.0, omega (arith, low, e), o.invariant.high);
    }

pub loop-i-preserved : goal.loop-i-preserved
loop-i-preserved c =
    let a = c.args in
    let few = candidates_few a.cx.now.layout.at (input a.cx.now.layout.at a.work.now) a.f in
    let o = c.loop-i in
    let R = plain_rules a.cx.now.coords.now a.cx.now.tolerance in
    let e = next_is R a.cx.now.layout a.f a.work.now a.r c.requires.searching a.n o.work o.s o.i o.invariant c.requires.f_lt_faces.2 (omega (arith, few, c.requires.f_lt_faces.2)) c.requires.f_lt_faces.3 (omega arith) in
    let y = c.note-s.ensures in
    noting_next R a.cx.now.layout a.f a.work.now a.r c.requires.searching o.work _ o.s _ o.i _ o.invariant (omega (arith, c.requires.f_lt_faces.2)) e y.marked_more y.beside.0 y.beside.1

pub returns : goal.returns
returns c =
    let a = c.args in
    let o = c.loop-i in
    let t = input a.cx.now.layout.at a.work.now in
    record {
      marked_more = more_all (plain_rules a.cx.now.coords.now a.cx.now.tolerance) a.cx.now.layout t a.f o.i a.work.now o.work a.r o.s (omega (arith, c.requires.f_lt_faces.2)) o.invariant.more;
      beside = (o.invariant.beside, o.invariant.high);
    }
