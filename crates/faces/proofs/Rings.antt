-- The faces of a model and the rings of its cells.
use Prim.Native.Nat.{ℕ, zero, suc, ◌+◌, ◌≤◌, ◌<◌}
use mathlib.Core.Path.{◌≡◌, refl, sym, ap, ◌∙◌, subst}
use mathlib.Core.List.{List, [], ◌∷◌, map}
use native.Mathlib.Omega.{arith}
use lib.ListN.{length, get_or, take, drop, length-append, get_or-map}
use lib.Seq.{split_at}
use Rattle.std.specs.declared.ops.Range.{Range}
use Rattle.laws.specs.Lists.{each}
use Rattle.laws.proofs.ListLaws.{each_map}
use Rattle.mesh.specs.Model.{Model, cells_of}
use Rattle.mesh.specs.Rings.{Face, ring_words, rings_of}
use Rattle.mesh.specs.Acceptance.{faces_in}
use Rattle.mesh.specs.Lookup.{no_face, face_at, ring_start}
use Rattle.mesh.specs.Steps.{ring_total, Tallied}
use Rattle.mesh.proofs.CellTallies.{total_append}
use Rattle.mesh.proofs.ModelTable.{rings_in_lem, ring_words_lem, face_count_lem}
use Rattle.mesh.specs.CellsRest.{cells_rest}
use Rattle.mesh.specs.declared.accepted.Cells.{Cells}
use Rattle.faces.specs.Spans.{rings_in, rings_left, SpanIn}

-- as many faces as rings
pub faces_are_lem : (m : Model) → length (faces_in m) ≡ length (rings_in m)
faces_are_lem m = face_count_lem m

-- R is the number of their words
pub words_are : (m : Model) → length (ring_words (faces_in m)) ≡ ring_total (rings_in m)
words_are m = ap length (ring_words_lem m)

-- the rings of all its cells
pub left_rings : (cs : Cells) (m : Model) → cells_rest cs ≡ cells_of m → rings_left cs ≡ rings_in m
left_rings cs m e = ap (each rings_of) e

-- a ring among them
pub left_span : (cs : Cells) (m : Model) (f : ℕ) (s : Range ℕ) → cells_rest cs ≡ cells_of m → SpanIn (rings_left cs) f s → SpanIn (rings_in m) f s
left_span cs m f s e p = subst (λ (l : List (List ℕ)). SpanIn l f s) (left_rings cs m e) p

-- the ring of a face
pub ring_at : (m : Model) (f : ℕ) → (face_at (faces_in m) f).ring ≡ get_or (rings_in m) f []
ring_at m f = sym (get_or-map (λ (g : Face). g.ring) (faces_in m) f no_face) ∙ ap (λ (l : List (List ℕ)). get_or l f []) (rings_in_lem m)

-- the rings of the first n faces
take_rings : (n : ℕ) (fs : List Face) → map (λ f. f.ring) (take n fs) ≡ take n (map (λ f. f.ring) fs)
take_rings zero fs = refl
take_rings (suc n) [] = refl
take_rings (suc n) (f ∷ fs) = ap (λ (l : List (List ℕ)). f.ring ∷ l) (take_rings n fs)

-- where it starts
pub start_at : (m : Model) (f : ℕ) → ring_start (faces_in m) f ≡ ring_total (take f (rings_in m))
unfolding ring_start
start_at m f =
    ap length (sym (each_map (λ (r : List ℕ). r) (λ (g : Face). g.ring) (take f (faces_in m))))
    ∙ ap ring_total (take_rings f (faces_in m) ∙ ap (take f) (rings_in_lem m))

-- a ring lies within all rings
pub span_within : (rs : List (List ℕ)) (f : ℕ) → f < length rs → ring_total (take f rs) + length (get_or rs f []) ≤ ring_total rs
span_within rs f h =
    let r = get_or rs f [] in
    let rest = drop (suc f) rs in
    omega (arith, ap ring_total (split_at rs f [] h), total_append (take f rs) (r ∷ rest), length-append r (each (λ (l : List ℕ). l) rest))

-- an accepted model has few rings and ring words
pub few_words : (m : Model) (f r : ℕ) → Tallied m f r → ring_total (rings_in m) < 4294967296
few_words m f r t = omega (arith, t.words, t.small, words_are m)

pub few_faces : (m : Model) (f r : ℕ) → Tallied m f r → length (rings_in m) < 4294967296
few_faces m f r t = omega (arith, t.faces, t.few, faces_are_lem m)
