-- Faces of cells: their rings, their numbers, and overfull faces as one walk over all faces.
use Prim.Native.Nat.{ℕ, suc, ◌+◌, ◌<◌}
use mathlib.Core.Path.{◌≡◌, refl, sym, ap, ◌∙◌}
use mathlib.Core.List.{List, [], ◌∷◌, ◌++◌, map, append-nil, map-append}
use native.Mathlib.Nat.{zero-add}
use native.Mathlib.Omega.{arith}
use lib.ListN.{length, get_or, take, length-append, get_or-map}
use lib.Seq.{get_or-append_seam, take_at}
use Rattle.laws.specs.Lists.{any, walk, up_from}
use Rattle.laws.proofs.ListLaws.{each_append, walk_append, any-map, any_ext, get_or-up_from, up_from_append}
use Rattle.mesh.specs.Model.{Raw}
use Rattle.mesh.specs.Rings.{Cell, Face, faces_from, faces_of, faces, number_from, numbered}
use Rattle.mesh.specs.Lookup.{no_face, face_at}
use Rattle.findings.specs.Findings.{Rules, meets, meeting, over_at, kind2}
use Rattle.findings.proofs.Laws.{occupied, occupied_only_if, occupied_each}

-- a cell has as many faces as rings
pub length_from : (c n : ℕ) (rs : List (List ℕ)) → length (faces_from c n rs) ≡ length rs
unfolding faces_from
length_from c n [] = refl
length_from c n (r ∷ rs) = ap suc (length_from c (suc n) rs)

-- some face pair of two lists passes where some ring of the one meets some ring of the other
pub meeting_occupied : (R : Rules) (fs gs : List Face)
    → occupied (meeting R fs gs) ≡ any (λ r. any (meets R.spans r) (map (λ g. g.ring) gs)) (map (λ f. f.ring) fs)
unfolding meeting
meeting_occupied R fs gs =
    occupied_each _ fs
    ∙ any_ext (λ f. occupied_each _ gs ∙ any_ext (λ g. occupied_only_if (meets R.spans f.ring g.ring) (f, g)) gs ∙ sym (any-map (meets R.spans f.ring) (λ g. g.ring) gs)) fs
    ∙ sym (any-map (λ r. any (meets R.spans r) (map (λ g. g.ring) gs)) (λ f. f.ring) fs)

-- kind 2, cell by cell, is one walk over all faces
pub face_walk : (R : Rules) (pre cs : List Cell) → walk (kind2 R) pre cs ≡ walk over_at (faces R.rings pre) (faces R.rings cs)
unfolding kind2 faces
face_walk R pre [] = refl
face_walk R pre (c ∷ cs) =
    ap (λ l. kind2 R pre c cs ++ l) (face_walk R (pre ++ (c ∷ [])) cs
    ∙ ap (λ l. walk over_at l (faces R.rings cs)) (each_append (faces_of R.rings) pre (c ∷ []) ∙ ap (λ l. faces R.rings pre ++ l) (append-nil (faces_of R.rings c))))
    ∙ sym (walk_append over_at (faces R.rings pre) (faces_of R.rings c) (faces R.rings cs))

-- ---- a face's number is its place

-- a cell's faces are numbered on from n
nums_from : (c n : ℕ) (rs : List (List ℕ)) → map (λ f. f.num) (faces_from c n rs) ≡ up_from n (length rs)
unfolding faces_from
nums_from c n [] = refl
nums_from c n (r ∷ rs) = ap (λ (l : List ℕ). n ∷ l) (nums_from c (suc n) rs)

module _ (rings : Raw → List (List ℕ)) where
  -- the faces of numbered cells are numbered on from n
  nums_of : (i n : ℕ) (cs : List Raw) → map (λ f. f.num) (faces rings (number_from rings i n cs)) ≡ up_from n (length (faces rings (number_from rings i n cs)))
  unfolding faces faces_of number_from
  nums_of i n [] = refl
  nums_of i n (c ∷ cs) =
      simp (map-append, nums_from, length-append, length_from, nums_of (suc i) (n + length (rings c)) cs) (sym (up_from_append n (length (rings c)) _))

  -- a face's number, the face there, and how many come before it
  place : (cs : List Raw) (a : List Face) (f : Face) (b : List Face) → a ++ (f ∷ b) ≡ faces rings (numbered rings cs)
      → (f.num < length (faces rings (numbered rings cs))) × (face_at (faces rings (numbered rings cs)) f.num ≡ f) × (f.num ≡ length a)
  unfolding numbered
  place cs a f b e =
      let W = faces rings (numbered rings cs) in
      let seam : get_or W (length a) no_face ≡ f = ap (λ l. get_or l (length a) no_face) (sym e) ∙ get_or-append_seam a f b no_face in
      let below : length a < length W = omega (arith, length-append a (f ∷ b), ap length e) in
      let at : f.num ≡ length a =
      ap (λ (g : Face). g.num) (sym seam) ∙ sym (get_or-map (λ (g : Face). g.num) W (length a) no_face)
      ∙ ap (λ l. get_or l (length a) 0) (nums_of 0 0 cs) ∙ get_or-up_from 0 (length W) (length a) 0 below ∙ zero-add (length a) in
      (omega arith, ap (λ k. get_or W k no_face) at ∙ seam, at)

  -- a face stands at the place that is its number
  pub at_place : (cs : List Raw) (a : List Face) (f : Face) (b : List Face) → a ++ (f ∷ b) ≡ faces rings (numbered rings cs)
      → (f.num < length (faces rings (numbered rings cs))) × (face_at (faces rings (numbered rings cs)) f.num ≡ f)
  at_place cs a f b e = let p = place cs a f b e in (p.0, p.1)

  -- and what comes before it is what comes before that place
  pub before_place : (cs : List Raw) (a : List Face) (f : Face) (b : List Face) → a ++ (f ∷ b) ≡ faces rings (numbered rings cs) → take f.num (faces rings (numbered rings cs)) ≡ a
  before_place cs a f b e = ap (take f.num) (sym e) ∙ take_at a (f ∷ b) f.num (sym (place cs a f b e).2)
