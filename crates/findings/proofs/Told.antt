-- What a finding carries beside its record is what the model has at the faces that the record names.
use Prim.Native.Nat.{ℕ, suc, ◌<◌}
use mathlib.Core.Path.{◌≡◌, refl, sym, ap, ap₂, ◌∙◌}
use mathlib.Core.Logic.{◌⊎◌, inl, inr}
use mathlib.Core.Bool.{Bool, true, false, not, ◌&&◌}
use mathlib.Core.List.{List, [], ◌∷◌, ◌++◌, map, Memᴰ}
use native.Mathlib.Omega.{arith}
use lib.Dec.{leb}
use lib.ListN.{length, get_or, take, length-map}
use Rattle.laws.specs.Lists.{only_if, any, first, each, walk, keep}
use Rattle.std.proofs.lemmas.Bool.{cases_Bool}
use Rattle.laws.proofs.ListLaws.{keep_append, eql_self}
use Rattle.mesh.specs.Model.{Raw}
use Rattle.mesh.specs.Rings.{Cell, Face, faces_from, faces_of, faces, numbered, same_key, key_of}
use Rattle.mesh.specs.Lookup.{face_at, owners_of}
use Rattle.findings.specs.Findings.{Rules, Finding, bowtie, overfull, partly, repeated, common, meets, over_of, over_at, meeting, partly_of, pair_at, kind3, full}
use Rattle.findings.specs.Records.{fields_of}
use Rattle.findings.proofs.Laws.{keep_nothing, Every, every_append, every_only_if, every_walk_in, every_mem, every_split, every_first, every_each_parts, every_map_in, every_each}
use Rattle.findings.proofs.Faces.{face_walk, at_place, before_place}
use Rattle.findings.proofs.ByKind.{every_full, every_bow, every_rep}

-- ---- what is told of a finding by the faces whose numbers it has

-- an overfull face: its key, its owners, their number and the first two are those of the face of its number, which is the first with its key
pub record OverfullTold (fs : List Face) (c₁ c₂ f n : ℕ) (k os : List ℕ) : Type 0 where
  pub within : f < length fs
  pub key : k ≡ key_of (face_at fs f)
  pub owners : os ≡ owners_of fs f
  pub count : n ≡ length os
  pub first : c₁ ≡ get_or os 0 0
  pub second : c₂ ≡ get_or os 1 0
  pub foremost : any (same_key (face_at fs f)) (take f fs) ≡ false

-- a partly shared pair: its cells and common nodes are those of the faces of its numbers
pub record PartlyTold (fs : List Face) (c₁ c₂ a b : ℕ) (ns : List ℕ) : Type 0 where
  pub within_a : a < length fs
  pub within_b : b < length fs
  pub cell_a : c₁ ≡ (face_at fs a).cell
  pub cell_b : c₂ ≡ (face_at fs b).cell
  pub nodes : ns ≡ common (face_at fs a).ring (face_at fs b).ring

-- of the other kinds the record has all
unfoldable pub Told : List Face → Finding → Type 0
Told fs (bowtie c) = Unit
Told fs (overfull c₁ c₂ f n k os) = OverfullTold fs c₁ c₂ f n k os
Told fs (partly c₁ c₂ a b ns) = PartlyTold fs c₁ c₂ a b ns
Told fs (repeated c a b) = Unit

-- a face has its own key
same_self : (f : Face) → same_key f f ≡ true
unfolding same_key
same_self f = eql_self (key_of f)

module _ (R : Rules) (cs : List Raw) where
  -- all faces
  abbrev whole : List Face
  whole = faces R.rings (numbered R.rings cs)

  -- a face and all that have its key
  told_over : (a : List Face) (f : Face) (b : List Face) → a ++ (f ∷ b) ≡ whole → Every (Told whole) (over_at a f b)
  unfolding over_at over_of Every Told owners_of
  told_over a f b e = go (cases_Bool (any (same_key f) a)) (leb 2 (length (keep (same_key f) b)))
    where
      below : f.num < length whole
      below = (at_place R.rings cs a f b e).0

      here : face_at whole f.num ≡ f
      here = (at_place R.rings cs a f b e).1

      all : any (same_key f) a ≡ false → keep (same_key f) whole ≡ f ∷ keep (same_key f) b
      all q = ap (keep (same_key f)) (sym e) ∙ keep_append (same_key f) a (f ∷ b) ∙ rw (keep_nothing (same_key f) a q, same_self f)

      go : (any (same_key f) a ≡ true) ⊎ (any (same_key f) a ≡ false) → (t : Bool)
          → Every (Told whole) (only_if (not (any (same_key f) a)) (only_if t (overfull f.cell (get_or (map (λ g. g.cell) (keep (same_key f) b)) 0 0) f.num (suc (length (keep (same_key f) b))) (key_of f) (f.cell ∷ map (λ g. g.cell) (keep (same_key f) b)) ∷ [])))
      go (inl q) t = rw q tt
      go (inr q) true =
          rw q (
            record {
              within = below;
              key = ap key_of (sym here);
              owners = ap (map (λ (g : Face). g.cell)) (sym (all q)) ∙ ap (λ (g : Face). map (λ (h : Face). h.cell) (keep (same_key g) whole)) (sym here);
              count = ap suc (sym (length-map (keep (same_key f) b) (λ (g : Face). g.cell)));
              first = refl;
              second = refl;
              foremost = ap₂ (λ (g : Face) (l : List Face). any (same_key g) l) here (before_place R.rings cs a f b e) ∙ q;
            },
            tt,
          )
      go (inr q) false = rw q tt

  -- f is a face of cell c, at the place that is its number
  abbrev At : ℕ → Face → Type 0
  At c f = (f.cell ≡ c) × (f.num < length whole) × (face_at whole f.num ≡ f)

  -- every face is at its place
  all_placed : Every (λ (c : Cell). Every (λ (f : Face). (f.num < length whole) × (face_at whole f.num ≡ f)) (faces_of R.rings c)) (numbered R.rings cs)
  unfolding faces
  all_placed =
      every_each_parts (λ (f : Face). (f.num < length whole) × (face_at whole f.num ≡ f)) (faces_of R.rings) (numbered R.rings cs)
      (every_split (λ (f : Face). (f.num < length whole) × (face_at whole f.num ≡ f)) whole (at_place R.rings cs) [] whole refl)

  -- a cell's faces have its number
  own : (c n : ℕ) (rs : List (List ℕ)) → Every (λ (f : Face). (f.num < length whole) × (face_at whole f.num ≡ f)) (faces_from c n rs) → Every (At c) (faces_from c n rs)
  unfolding Every faces_from
  own c n [] h = tt
  own c n (r ∷ rs) h = ((refl, h.0.0, h.0.1), own c (suc n) rs h.1)

  -- a cell all of whose faces are at their places
  abbrev Placed : Cell → Type 0
  Placed c = Every (At c.num) (faces_of R.rings c)

  -- every cell is such
  cells_placed : (l : List Cell) → Every (λ (c : Cell). Every (λ (f : Face). (f.num < length whole) × (face_at whole f.num ≡ f)) (faces_of R.rings c)) l → Every Placed l
  unfolding Every faces_of
  cells_placed [] h = tt
  cells_placed (c ∷ l) h = (own c.num c.from (R.rings c.raw) h.0, cells_placed l h.1)

  -- the face pairs of two lists are pairs of such faces
  meeting_in : (P Q : Face → Type 0) (fs gs : List Face) → Every P fs → Every Q gs → Every (λ (p : Face × Face). P p.0 × Q p.1) (meeting R fs gs)
  unfolding meeting Every
  meeting_in P Q fs gs h k =
      every_each P (λ (p : Face × Face). P p.0 × Q p.1) _
      (λ f u. every_each Q (λ (p : Face × Face). P p.0 × Q p.1) _
      (λ g v. every_only_if (λ (p : Face × Face). P p.0 × Q p.1) (meets R.spans f.ring g.ring) ((f, g) ∷ []) ((u, v), tt)) gs k) fs h

  -- the pair of two such cells
  told_pair : (a b : Cell) → Placed a → Placed b → Every (Told whole) (pair_at R a b)
  unfolding pair_at partly_of Told
  told_pair a b h k =
      let m = meeting R (faces_of R.rings a) (faces_of R.rings b) in
      let Q : (Face × Face → Type 0) = λ p. At a.num p.0 × At b.num p.1 in
      every_only_if (Told whole) (not (R.bow a.raw) && not (R.bow b.raw)) (map (partly_of R a b) (first m))
      (every_map_in Q (Told whole) (partly_of R a b) (λ p t.
      record {
        within_a = t.0.1;
        within_b = t.1.1;
        cell_a = sym (ap (λ (f : Face). f.cell) t.0.2 ∙ t.0.0);
        cell_b = sym (ap (λ (f : Face). f.cell) t.1.2 ∙ t.1.0);
        nodes = ap₂ (λ (f g : Face). common f.ring g.ring) (sym t.0.2) (sym t.1.2);
      }) (first m) (every_first Q m (meeting_in (At a.num) (At b.num) (faces_of R.rings a) (faces_of R.rings b) h k)))

  -- kind 3
  told3 : (pre l : List Cell) → Every Placed l → Every (Told whole) (walk (kind3 R) pre l)
  unfolding kind3 Every
  told3 pre [] h = tt
  told3 pre (c ∷ l) h =
      every_append (Told whole) (each (pair_at R c) l) _ (every_each Placed (Told whole) (pair_at R c) (λ b k. told_pair c b h.0 k) l h.1) (told3 (pre ++ (c ∷ [])) l h.1)

  -- every finding
  told_full : (flags : ℕ) → Every (Told whole) (full R flags (numbered R.rings cs))
  unfolding Told faces
  told_full flags =
      let ns = numbered R.rings cs in
      every_full R (Told whole) flags ns (λ t. every_bow R (Told whole) (λ c. tt) ns)
      (λ t. rw (face_walk R [] ns) (every_walk_in (Told whole) over_at whole told_over [] whole refl))
      (λ t. told3 [] ns (cells_placed ns all_placed)) (λ t. every_rep R (Told whole) (λ c a b. tt) ns)

-- what any finding of the full list tells
pub told : (R : Rules) (flags : ℕ) (cs : List Raw) (x : Finding) → Memᴰ x (full R flags (numbered R.rings cs)) → Told (faces R.rings (numbered R.rings cs)) x
told R flags cs x m = every_mem (Told (faces R.rings (numbered R.rings cs))) m (told_full R cs flags)

-- of an overfull face, that it is the first with its key
pub first_told : (fs : List Face) (x : Finding) → Told fs x → (fields_of x).kind ≡ 2 → ((fields_of x).a < length fs) × (any (same_key (face_at fs (fields_of x).a)) (take (fields_of x).a fs) ≡ false)
unfolding Told fields_of
first_told fs (bowtie c) t k = absurd (omega (arith, k))
first_told fs (overfull c₁ c₂ f n ks os) t k = (t.within, t.foremost)
first_told fs (partly c₁ c₂ a b ns) t k = absurd (omega (arith, k))
first_told fs (repeated c a b) t k = absurd (omega (arith, k))
