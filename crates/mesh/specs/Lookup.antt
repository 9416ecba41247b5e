-- The ring lookup and its companion, and the owners of a face.
use Rattle.std.specs.Prelude.{ℕ, Bool, not, ◌||◌, List, [], ◌∷◌, ◌++◌, map, leb, eqb, length, get_or, take, drop}
use Rattle.laws.specs.Lists.{only_if, keep}
use Rattle.laws.specs.Refusals.{Answer, refusal, answer, filled}
use Rattle.mesh.specs.Model.{Model}
use Rattle.mesh.specs.Rings.{Face, same_key, ring_words}
use Rattle.mesh.specs.Acceptance.{model_table, faces_in}
use Rattle.mesh.specs.declared.RingList.{RingList}
use Rattle.mesh.specs.declared.RingList.TheVariants.{Raw, Welded}

abbrev pub no_face : Face
no_face = record { num = 0; cell = 0; ring = [] }

-- the face of number f, its place from 0
abbrev pub face_at : List Face → ℕ → Face
face_at fs f = get_or fs f no_face

-- 12: no such face
abbrev pub face_off : Model → ℕ → Bool
face_off m f = leb (length (faces_in m)) f

-- ---- ring lookup

-- whichever list was named
abbrev pub named : RingList → List ℕ → List ℕ → List ℕ
named Raw raw welded = raw
named Welded raw welded = welded

-- where face f's ring starts in a list of all rings
unfoldable pub ring_start : List Face → ℕ → ℕ
ring_start fs f = length (ring_words (take f fs))

-- 5 to 10, 4 if a list isn't R words, then 12
abbrev pub lookup_table : Model → List ℕ → List ℕ → ℕ → List (ℕ × Bool)
lookup_table m raw welded f =
    model_table m
    ++ ((4, not (eqb (length raw) (length (ring_words (faces_in m)))) || not (eqb (length welded) (length (ring_words (faces_in m)))))
    ∷ (12, face_off m f)
    ∷ [])

-- why the lookup is refused, which its companion answers: the number, 0 for none
unfoldable pub lookup_refusal : Model → List ℕ → List ℕ → ℕ → ℕ
lookup_refusal m raw welded f = refusal (lookup_table m raw welded f)

-- the ring as a part of the list named, empty at any refusal
unfoldable pub ring_part : Model → List ℕ → List ℕ → RingList → ℕ → List ℕ
ring_part m raw welded which f =
    only_if (eqb (lookup_refusal m raw welded f) 0)
    (take (length (face_at (faces_in m) f).ring) (drop (ring_start (faces_in m) f) (named which raw welded)))

-- ---- face owners

-- the cells that hold face f's sorted raw ring, in face order, a cell as often as it holds it
unfoldable pub owners_of : List Face → ℕ → List ℕ
owners_of fs f = map (λ g. g.cell) (keep (same_key (face_at fs f)) fs)

-- 5 to 10, then 12
abbrev pub owners_table : Model → ℕ → List (ℕ × Bool)
owners_table m f = model_table m ++ ((12, face_off m f) ∷ [])

-- answers the whole count
unfoldable pub owners_answer : Model → ℕ → Answer ℕ
owners_answer m f = answer (refusal (owners_table m f)) (length (owners_of (faces_in m) f))

-- fills as many as fit
unfoldable pub owners_after : Model → ℕ → List ℕ → List ℕ
owners_after m f lent = filled (refusal (owners_table m f)) (take (length lent) (owners_of (faces_in m) f)) lent
