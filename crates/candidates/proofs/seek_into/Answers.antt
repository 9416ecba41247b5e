-- `candidates::seek_into` meets its contract.
use Prim.Native.Nat.{ℕ, ◌+◌, ◌-◌, ◌≤◌, ◌<◌}
use mathlib.Core.Path.{◌≡◌, sym, ap, ◌∙◌, subst}
use mathlib.Core.List.{List, ◌++◌}
use native.Mathlib.Omega.{arith}
use lib.ListN.{length, take, drop, length-take}
use Rattle.laws.proofs.Stores.{sets_front}
use Rattle.mesh.specs.Lent.{lent}
use Rattle.index.specs.Faces.{input}
use Rattle.seek.specs.Candidates.{found_in}
use Rattle.layout.specs.Shown.{Shows}
use Rattle.shown.proofs.Candidates.{faces_shown}
use Rattle.partially_shared.proofs.Searched.{searches, face_ready}
use Rattle.candidates.specs.Seeking.{candidates_of}
use Rattle.candidates.proofs.Found.{number_is, number_low, first_are}
use Rattle.candidates.proofs.seek_into.Goals as goal

pub candidates_of-c-requires : goal.candidates_of-c-requires
candidates_of-c-requires c =
    let m = lent c.args.model.now.model in
    let l = c.build_tables-l.result in
    let s = c.index_faces in
    let shows : Shows m l (input l.at s.new.work) = subst (Shows m l) (sym s.ensures.work_unchanged) c.build_tables-l.ensures.shows in
    let low : c.args.face < l.at.faces = omega (arith, c.requires.face_in_bounds, faces_shown m l (input l.at s.new.work) shows) in
    record {
      ready = (face_ready l s.new.work _ (searches l s.new.work s.ensures.standing.0) low, s.ensures.standing.1);
      end_le_faces = (omega arith, λ h k. absurd (omega (arith, k)));
    }

pub slice_bounds-copy_from_slice-end-3 : goal.slice_bounds-copy_from_slice-end-3
slice_bounds-copy_from_slice-end-3 c =
    let m = lent c.args.model.now.model in
    let l = c.build_tables-l.result in
    let s = c.index_faces in
    let shows : Shows m l (input l.at s.new.work) = subst (Shows m l) (sym s.ensures.work_unchanged) c.build_tables-l.ensures.shows in
    let low : c.args.face < l.at.faces = omega (arith, c.requires.face_in_bounds, faces_shown m l (input l.at s.new.work) shows) in
    let q = s.ensures.standing.0.spaced in
    let n = number_low m l s.new.work c.candidates_of-c.new.work c.args.face (found_in c.candidates_of-c.result) s.ensures.standing.0 shows low c.candidates_of-c.ensures.sought_by.sought in
    let room : l.at.found + c.min-k.result ≤ length c.candidates_of-c.new.work =
    omega (arith, n, c.min-k.ensures, c.candidates_of-c.auto.work, q.marks_at, q.others_at, q.last_at, q.pairs_at, q.spare_at, q.ends) in
    omega (arith, room)

pub returns : goal.returns
returns c =
    let m = lent c.args.model.now.model in
    let l = c.build_tables-l.result in
    let s = c.index_faces in
    let shows : Shows m l (input l.at s.new.work) = subst (Shows m l) (sym s.ensures.work_unchanged) c.build_tables-l.ensures.shows in
    let low : c.args.face < l.at.faces = omega (arith, c.requires.face_in_bounds, faces_shown m l (input l.at s.new.work) shows) in
    let v = c.candidates_of-c.new.work in
    let st = s.ensures.standing.0 in
    let q = c.candidates_of-c.ensures.sought_by.sought in
    let f = c.args.face in
    let old = c.args.found.now in
    let n = found_in c.candidates_of-c.result in
    let k = c.min-k.result in
    let low_n = number_low m l s.new.work v f n st shows low q in
    let few : n < 4294967296 = omega (arith, low_n, st.spaced.few_faces) in
    let first = first_are m l s.new.work v f n st shows low q k (length old) (omega (arith, c.min-k.ensures)) in
    let many : length (take (length old) (candidates_of m f)) ≡ k = omega (arith, length-take (length old) (candidates_of m f), number_is m l s.new.work v f n st shows low q, c.min-k.ensures) in
    let same : l.at.found + k - l.at.found ≡ k = omega arith in
    record {
      result_value = (number_is m l s.new.work v f n st shows low q, few, c.candidates_of-c.ensures.sought_by.way);
      found_after = ap (λ (x : List ℕ). x ++ drop k old) (c.copy_from_slice.ensures.after ∙ ap (λ i. take i (drop l.at.found v)) same ∙ first)
          ∙ ap (λ (j : ℕ). take (length old) (candidates_of m f) ++ drop j old) (sym many)
          ∙ sym (sets_front old (take (length old) (candidates_of m f)) (omega (arith, many, c.min-k.ensures)));
    }
