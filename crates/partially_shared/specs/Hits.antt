-- For internal contracts: the face pairs of a cell that pass, and the marks that later cells get by them.
use Rattle.std.specs.Prelude.{ℕ, suc, ◌+◌, ◌-◌, ◌≤◌, ◌<◌, Bool, not, ◌≢◌, List, [], ◌∷◌, ◌++◌, map, ◌≡◌, eqb, length, get_or, take}
use Rattle.laws.specs.Lists.{only_if, first, each, keep, up_from}
use Rattle.laws.specs.Merging.{region}
use Rattle.findings.specs.Findings.{Rules, Finding, partly}
use Rattle.index.specs.Faces.{input, base, cell_of, nodes_of, Indexed}
use Rattle.seek.specs.Candidates.{common, candidates}
use Rattle.layout.specs.declared.Layout.{Layout}
use Rattle.layout.specs.Tables.{first_of, Faced, Spaced}
use Rattle.partially_shared.specs.declared.Range.{Range}
use Rattle.partially_shared.specs.Listing.{ListedIf}

-- the common nodes of faces f and g pass the area test
unfoldable pub spans_at : Rules → Layout → List ℕ → ℕ → ℕ → Bool
spans_at R l t f g = R.spans (common (nodes_of l.at t f) (nodes_of l.at t g))

-- face f with each of gs that passes
unfoldable pub passing : Rules → Layout → List ℕ → ℕ → List ℕ → List (ℕ × ℕ)
passing R l t f gs = map (λ g. (f, g)) (keep (spans_at R l t f) gs)

-- the face pairs of face f, and of the faces of c, that pass, by the first face, then the second
unfoldable pub face_hits : Rules → Layout → List ℕ → ℕ → List (ℕ × ℕ)
face_hits R l t f = passing R l t f (candidates l.at t f)

unfoldable pub cell_hits : Rules → Layout → List ℕ → ℕ → List (ℕ × ℕ)
cell_hits R l t c = each (face_hits R l t) (up_from (first_of l t c) (first_of l t (c + 1) - first_of l t c))

-- the first of them whose second face is of cell b
unfoldable pub hit_of : Layout → List ℕ → ℕ → List (ℕ × ℕ) → List (ℕ × ℕ)
hit_of l t b hits = first (keep (λ h. eqb (cell_of l.at t h.1) b) hits)

-- a mark m and its other word o tell such a pair: 0 for none, else one more than the first face, and the second
abbrev pub MarkIs : ℕ → ℕ → List (ℕ × ℕ) → Type 0
MarkIs m o [] = m ≡ 0
MarkIs m o (h ∷ hs) = (m ≡ suc h.0) × (o ≡ h.1)

-- each later cell is marked with its first pair among these; all that are marked lie in the range, and are listed where there is room
pub record Marked (l : Layout) (t : List ℕ) (hits : List (ℕ × ℕ)) (w : List ℕ) (r : Range) : Type 0 where
  pub marks : (b : ℕ) → b < l.at.cell_count → MarkIs (get_or w (l.marks + b) 0) (get_or w (l.others + b) 0) (hit_of l t b hits)
  pub within : (b : ℕ) → b < l.at.cell_count → get_or w (l.marks + b) 0 ≢ 0 → (r.lo ≤ b) × (b < r.hi)
  pub listed : ListedIf l w r.listed

-- what was marked before is marked with these behind
abbrev pub MarkedMore : Layout → List ℕ → List (ℕ × ℕ) → (w v : List ℕ) → (r s : Range) → Type 0
MarkedMore l t more w v r s = (hits : List (ℕ × ℕ)) → Marked l t hits w r → Marked l t (hits ++ more) v s

-- what the search reads stands in w
pub record Searching (l : Layout) (w : List ℕ) : Type 0 where
  pub faced : Faced l (input l.at w)
  pub indexed : Indexed l.at (base l.at w)
  pub below : l.at.offsets ≤ l.at.found
  pub spaced : Spaced l (length w)

-- w became v: all is as before but the words from o on; the last nodes are, too
pub record Beside (o : ℕ) (l : Layout) (w v : List ℕ) : Type 0 where
  pub before : take o v ≡ take o w
  pub behind : region l.last l.at.nodes v ≡ region l.last l.at.nodes w
  pub long : length v ≡ length w

-- the finding that the mark of cell b tells
unfoldable pub told_by : Layout → List ℕ → ℕ → ℕ → ℕ → ℕ → Finding
told_by l t c b m o = partly c b (m - 1) o (common (nodes_of l.at t (m - 1)) (nodes_of l.at t o))

unfoldable pub mark_tells : Layout → List ℕ → List ℕ → ℕ → ℕ → List Finding
mark_tells l t w c b =
    only_if (not (eqb (get_or w (l.marks + b) 0) 0)) (told_by l t c b (get_or w (l.marks + b) 0) (get_or w (l.others + b) 0) ∷ [])

-- a mark of cell b, where there is one, tells faces
abbrev pub MarkFits : Layout → List ℕ → ℕ → Type 0
MarkFits l w b = get_or w (l.marks + b) 0 ≢ 0 → (get_or w (l.marks + b) 0 ≤ l.at.faces) × (get_or w (l.others + b) 0 < l.at.faces)

abbrev pub MarksFit : Layout → List ℕ → Type 0
MarksFit l w = (b : ℕ) → b < l.at.cell_count → MarkFits l w b

-- w became v: the marks of cells from a on, before b, are zero, and no other was set
pub record Cleared (l : Layout) (w : List ℕ) (a b : ℕ) (v : List ℕ) : Type 0 where
  pub beside : Beside l.marks l w v
  pub cleared : (i : ℕ) → i < l.at.cell_count → a ≤ i → i < b → get_or v (l.marks + i) 0 ≡ 0
  pub still : (i : ℕ) → i < l.at.cell_count → get_or w (l.marks + i) 0 ≡ 0 → get_or v (l.marks + i) 0 ≡ 0
