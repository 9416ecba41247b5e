-- What a search finds in the tables of a model are the candidates of the definition.
use Prim.Native.Nat.{ℕ, ◌≤◌, ◌<◌, min}
use mathlib.Core.Path.{◌≡◌, sym, ap, ap₂, ◌∙◌}
use mathlib.Core.List.{List, map}
use native.Mathlib.Omega.{arith}
use lib.ListN.{length, take, drop}
use lib.Seq.{take-take}
use Rattle.laws.specs.Lists.{up_from}
use Rattle.laws.proofs.ListLaws.{keep-length, length-up_from, get_or-map-up_from}
use Rattle.laws.proofs.Stores.{region_same, take_least}
use Rattle.mesh.specs.Model.{Model}
use Rattle.mesh.specs.Rings.{Face}
use Rattle.mesh.specs.Acceptance.{faces_in}
use Rattle.mesh.specs.Lookup.{no_face, face_at}
use Rattle.findings.specs.Rules.{rules_of, cells_in}
use Rattle.findings.specs.Candidates.{candidates as definedCandidates}
use Rattle.index.specs.Faces.{input}
use Rattle.seek.specs.Candidates.{shares, candidates, Sought}
use Rattle.layout.specs.declared.Layout.{Layout}
use Rattle.layout.specs.Tables.{face_row, faces_at, Standing}
use Rattle.layout.specs.Shown.{Shows}
use Rattle.shown.proofs.Candidates.{candidates_shown}
use Rattle.candidates.specs.Seeking.{candidates_of}

module _ (m : Model) (l : Layout) (w v : List ℕ) (lo n : ℕ) (s : Standing l w) (S : Shows m l (input l.at w)) (h : lo < l.at.faces) (q : Sought l.at lo w v n) where
  abbrev cs : List ℕ
  cs = candidates l.at (input l.at w) lo

  -- no more than there are faces
  few : length cs ≤ l.at.faces
  unfolding candidates
  few = omega (arith, keep-length (shares l.at (input l.at w) lo) (up_from 0 l.at.faces), length-up_from 0 l.at.faces)

  -- the face of number lo
  face_is : face_row l (input l.at w) lo ≡ face_at (faces_in m) lo
  unfolding faces_at
  face_is =
      let t = input l.at w in
      sym (get_or-map-up_from (face_row l t) 0 l.at.faces lo no_face h ∙ ap (face_row l t) (omega arith)) ∙ ap (λ (fs : List Face). face_at fs lo) S.faces

  candidates_are : cs ≡ candidates_of m lo
  unfolding candidates_of
  candidates_are =
      sym (candidates_shown m l (input l.at w) s.faced S lo h)
      ∙ ap (λ (f : Face). map (λ (g : Face). g.num) (definedCandidates (rules_of m) (cells_in m) f)) face_is

  pub number_is : n ≡ length (candidates_of m lo)
  number_is = q.number ∙ ap (λ (x : List ℕ). length x) candidates_are

  pub number_low : n ≤ l.at.faces
  number_low = omega (arith, q.number, few)

  -- the first of them that fit
  pub first_are : (k room : ℕ) → k ≡ min n room → take k (drop l.at.found v) ≡ take room (candidates_of m lo)
  first_are k room e =
      let p = s.spaced in
      let all : take n (drop l.at.found v) ≡ cs =
      ap₂ (λ (i : ℕ) (x : List ℕ). take i (drop l.at.found x)) q.number q.filled
      ∙ region_same w l.at.found cs (omega (arith, few, p.marks_at, p.others_at, p.last_at, p.pairs_at, p.spare_at, p.ends)) in
      let least : k ≡ min room (length cs) = omega (arith, e, q.number) in
      sym (take-take k n (drop l.at.found v) (omega (arith, e))) ∙ ap (take k) all ∙ ap (λ (i : ℕ). take i cs) least ∙ take_least room cs ∙ ap (take room) candidates_are
