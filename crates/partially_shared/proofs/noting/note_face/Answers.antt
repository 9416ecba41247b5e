-- `partially_shared::noting::note_face` meets its contract.
use mathlib.Core.Bool.{Bool}
use mathlib.Core.Path.{subst}
use native.Mathlib.Omega.{arith}
use Rattle.seek.specs.Candidates.{found_in, TalliedMore}
use Rattle.layout.specs.ByCell.{plain_rules}
use Rattle.partially_shared.proofs.Searched.{face_ready, searching_on, beside_less, beside_then, sought_beside, sought_there, sought_number, sought_more}
use Rattle.partially_shared.proofs.noting.note_face.Goals as goal

pub candidates_of-found-requires : goal.candidates_of-found-requires
candidates_of-found-requires c = record {
  ready = (face_ready c.args.cx.now.layout c.args.work.now c.args.f c.requires.searching c.requires.f_lt_faces.0, c.requires.f_lt_faces.2);
  end_le_faces = c.requires.end_le_faces;
}

pub note_found-requires : goal.note_found-requires
note_found-requires c =
    let a = c.args in
    let y = c.candidates_of-found in
    let v = y.new.work in
    let s = c.requires.searching in
    let q = y.ensures.sought_by.sought in
    let n = found_in y.result in record {
      searching = searching_on a.cx.now.layout a.work.now v s (sought_beside a.cx.now.layout a.work.now v a.f n s q);
      f_lt_faces = (
        c.requires.f_lt_faces.0,
        c.requires.f_lt_faces.1,
        sought_number a.cx.now.layout a.work.now v a.f n s q,
        sought_there a.cx.now.layout a.work.now v a.f n s q,
      );
    }

pub returns : goal.returns
returns c =
    let a = c.args in
    let y = c.candidates_of-found in
    let v = y.new.work in
    let z = c.note_found in
    let s = c.requires.searching in
    let q = y.ensures.sought_by.sought in
    let n = found_in y.result in
    let m = sought_beside a.cx.now.layout a.work.now v a.f n s q in
    record {
      marked_more = sought_more a.cx.now.layout a.work.now v a.f n s q (plain_rules a.cx.now.coords.now a.cx.now.tolerance) z.new.work a.r.range z.result z.ensures.marked_more;
      beside = (beside_then a.cx.now.layout.at.found a.cx.now.layout a.work.now v _ m (beside_less a.cx.now.layout.at.found a.cx.now.layout.marks a.cx.now.layout v _ (omega (arith, s.spaced.marks_at)) z.ensures.beside.0), z.ensures.beside.1);
      tallied_more = subst (λ (by : Bool). TalliedMore by 1 a.r.tally c.tallied.result) y.ensures.sought_by.way c.tallied.ensures;
    }
