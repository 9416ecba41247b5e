-- What the two searches give are the candidates of the definition, and the way that is taken is the definition's.
use Prim.Native.Nat.{ℕ, zero, suc, ◌+◌, ◌*◌, ◌<◌}
use mathlib.Core.Path.{◌≡◌, refl, sym, ap, ap₂, ◌∙◌}
use mathlib.Core.Bool.{Bool, true, false, not, ◌&&◌, ◌||◌, or-false}
use mathlib.Core.List.{List, [], ◌∷◌, map, map-id, map-map}
use native.Mathlib.Omega.{arith}
use borrow.Author.Tests.{ltb-true, eq-eqb, ne_eqb}
use lib.Dec.{leb, ltb, eqb}
use lib.ListN.{length, get_or, length-map}
use Rattle.laws.specs.Lists.{any, keep, elem, up_from, sum, pairs_of, triples_of}
use Rattle.std.proofs.lemmas.Bool.{and_parts}
use Rattle.laws.proofs.ListLaws.{keep-map, length-up_from}
use Rattle.laws.proofs.Ascending.{keep_cong, elem-up_from}
use Rattle.mesh.specs.Model.{Model, Raw, cells_of}
use Rattle.mesh.specs.Rings.{Cell, Face, rings_of, node_set, number_from, numbered, faces}
use Rattle.mesh.specs.Acceptance.{faces_in}
use Rattle.findings.specs.Findings.{common as ringCommon, sharing as ringSharing}
use Rattle.findings.specs.Rules.{rules_with, rules_of, cells_in}
use Rattle.findings.specs.Compared.{none}
use Rattle.findings.specs.Candidates.{bow_at, candidate, candidates as definedCandidates, node_work as definedNodeWork, triple_work as definedTripleWork, is_by_nodes as definedByNodes}
use Rattle.index.specs.declared.Places.{Places}
use Rattle.index.specs.Faces.{cell_of, bow_of, nodes_of, faces_with}
use Rattle.seek.specs.Candidates.{common, sharing, shares, candidates as soughtCandidates, Sought}
use Rattle.pairs.specs.Work.{node_work, triple_work, is_by_nodes}
use Rattle.layout.specs.declared.Layout.{Layout}
use Rattle.layout.specs.Tables.{ring_row, face_row, faces_at, Faced}
use Rattle.layout.specs.Shown.{Shows}
use Rattle.shown.proofs.Parts.{map_agree}

-- a member of the numbers below n is below n
below_all : (n g : ℕ) → elem g (up_from 0 n) ≡ true → g < n
below_all n g e =
    omega (arith, ltb-true g (0 + n) (and_parts (leb 0 g) (ltb g (0 + n)) (sym (elem-up_from g 0 n) ∙ e)).1)

-- ---- the cell of a number

module _ (b : Raw → Bool) where
  -- cs have a cell of number c that passes the test
  abbrev passes : ℕ → List Cell → Bool
  passes c cs = any (λ (d : Cell). eqb d.num c && b d.raw) cs

  -- no cell has a number below the first
  before_all : (i n : ℕ) (cs : List Raw) (c : ℕ) → c < i → passes c (number_from rings_of i n cs) ≡ false
  unfolding number_from
  before_all i n [] c h = refl
  before_all i n (x ∷ cs) c h = rw (ne_eqb i c (λ z. absurd (omega (arith, z, h)))) (before_all (suc i) (n + length (rings_of x)) cs c (omega arith))

  -- of cells numbered from i on, the one of number i + k is at place k: its test is that of the cell there
  at_place : (i n : ℕ) (cs : List Raw) (k c : ℕ) → c ≡ i + k → k < length cs → passes c (number_from rings_of i n cs) ≡ b (get_or cs k none)
  unfolding number_from
  at_place i n [] k c e h = absurd (omega arith)
  at_place i n (x ∷ cs) zero c e h =
      ap₂ (λ (p q : Bool). (p && b x) || q) (eq-eqb i c (omega arith)) (before_all (suc i) (n + length (rings_of x)) cs c (omega arith)) ∙ or-false (b x)
  at_place i n (x ∷ cs) (suc k) c e h =
      ap (λ (p : Bool). (p && b x) || passes c (number_from rings_of (suc i) (n + length (rings_of x)) cs)) (ne_eqb i c (λ z. absurd (omega (arith, z, e))))
      ∙ at_place (suc i) (n + length (rings_of x)) cs k c (omega arith) (omega arith)

-- ---- a model's

-- the tables have as many faces as the model
pub faces_shown : (m : Model) (l : Layout) (t : List ℕ) → Shows m l t → l.at.faces ≡ length (faces_in m)
unfolding faces_at
faces_shown m l t S =
    sym (length-map (up_from 0 l.at.faces) (face_row l t) ∙ length-up_from 0 l.at.faces) ∙ ap (λ (fs : List Face). length fs) S.faces

module _ (m : Model) (l : Layout) (t : List ℕ) (F : Faced l t) (S : Shows m l t) where
  -- the definition's bow-ties are those of the tables
  bow_at_lem : (c : ℕ) → c < l.at.cell_count → bow_at (rules_of m) (cells_in m) c ≡ bow_of l.at t c
  unfolding bow_at cells_in numbered
  bow_at_lem c h =
      let in_model : c < length (cells_of m) = omega (arith, h, S.cells) in
      at_place (rules_of m).bow 0 0 (cells_of m) c c (omega arith) in_model ∙ sym (S.bows c in_model)

  -- the rules' faces are those of the tables
  all_faces : faces (rules_of m).rings (cells_in m) ≡ faces_at l t
  unfolding rules_of rules_with faces_in cells_in
  all_faces = sym S.faces

  -- two faces share by their rings where they share by their node sets
  same_sharing : (f g : ℕ) → f < l.at.faces → g < l.at.faces → ringSharing (ring_row l t f) (ring_row l t g) ≡ sharing (nodes_of l.at t f) (nodes_of l.at t g)
  unfolding ringSharing ringCommon sharing common
  same_sharing f g a b = ap₂ sharing (sym (F.noded f a)) (sym (F.noded g b))

  -- face g is a candidate of face f by the definition where it is one by numbers
  same_test : (f g : ℕ) → f < l.at.faces → g < l.at.faces → candidate (rules_of m) (cells_in m) (face_row l t f) (face_row l t g) ≡ shares l.at t f g
  unfolding candidate shares face_row
  same_test f g a b =
      let later = ltb f g in
      let apart = not (eqb (cell_of l.at t f) (cell_of l.at t g)) in
      ap₂ (λ (x y : Bool). later && apart && not x && not y && ringSharing (ring_row l t f) (ring_row l t g)) (bow_at_lem (cell_of l.at t f) (F.laid.celled f a)) (bow_at_lem (cell_of l.at t g) (F.laid.celled g b))
      ∙ ap (λ (s : Bool). later && apart && not (bow_of l.at t (cell_of l.at t f)) && not (bow_of l.at t (cell_of l.at t g)) && s) (same_sharing f g a b)

  -- the numbers of a face's candidates by the definition are what the searches give
  pub candidates_shown : (lo : ℕ) → lo < l.at.faces → map (λ (g : Face). g.num) (definedCandidates (rules_of m) (cells_in m) (face_row l t lo)) ≡ soughtCandidates l.at t lo
  unfolding definedCandidates soughtCandidates faces_at face_row
  candidates_shown lo h =
      let test = candidate (rules_of m) (cells_in m) (face_row l t lo) in
      let all = up_from 0 l.at.faces in
      let kept = keep (λ g. test (face_row l t g)) all in
      ap (λ (fs : List Face). map (λ (g : Face). g.num) (keep test fs)) all_faces
      ∙ ap (map (λ (g : Face). g.num)) (keep-map test (face_row l t) all)
      ∙ map-map (λ (g : Face). g.num) (face_row l t) kept
      ∙ map-id kept
      ∙ keep_cong (λ g. test (face_row l t g)) (shares l.at t lo) all (λ g e. same_test lo g h (below_all l.at.faces g e))

  -- node n is in as many faces by rings as by node sets
  with_node : (n : ℕ) → length (keep (λ (f : Face). elem n (node_set f.ring)) (faces_at l t)) ≡ length (faces_with l.at t n)
  unfolding faces_at face_row faces_with
  with_node n =
      let all = up_from 0 l.at.faces in
      let has : ℕ → Bool = λ g. elem n (node_set (ring_row l t g)) in
      ap length (keep-map (λ (f : Face). elem n (node_set f.ring)) (face_row l t) all)
      ∙ length-map (keep has all) (face_row l t)
      ∙ ap length (keep_cong has (λ g. elem n (nodes_of l.at t g)) all (λ g e. ap (elem n) (sym (F.noded g (below_all l.at.faces g e)))))

  -- the work by common nodes is the definition's
  pub node_work_shown : definedNodeWork l.at.nodes (faces_in m) ≡ node_work l.at t
  unfolding definedNodeWork node_work
  node_work_shown =
      let held : ℕ → ℕ = λ n. pairs_of (length (keep (λ (f : Face). elem n (node_set f.ring)) (faces_at l t))) in
      ap (definedNodeWork l.at.nodes) (sym S.faces)
      ∙ ap sum (map_agree held (λ n. pairs_of (length (faces_with l.at t n))) 0 l.at.nodes (λ n a b. ap pairs_of (with_node n)))

  -- the work by node triples is the definition's
  pub triple_work_shown : definedTripleWork (faces_in m) ≡ triple_work l.at t
  unfolding definedTripleWork triple_work faces_at face_row
  triple_work_shown =
      let triples : List ℕ → ℕ = λ r. triples_of (length r) in
      ap definedTripleWork (sym S.faces)
      ∙ ap sum (map-map (λ (f : Face). triples (node_set f.ring)) (face_row l t) (up_from 0 l.at.faces)
      ∙ map_agree (λ g. triples (node_set (ring_row l t g))) (λ g. triples (nodes_of l.at t g)) 0 l.at.faces (λ g a b. ap triples (sym (F.noded g (omega (arith, b))))))

  -- the way that is taken is the definition's
  pub way_shown : definedByNodes l.at.nodes (faces_in m) ≡ is_by_nodes l.at t
  unfolding definedByNodes is_by_nodes
  way_shown = ap₂ (λ (a b : ℕ). leb a (4 * b)) node_work_shown triple_work_shown

-- ---- both ways

-- whichever way was taken, the same list stands there and the same number was answered
pub ways_alike : (p : Places) (lo : ℕ) (w v v' : List ℕ) (r r' : ℕ) → Sought p lo w v r → Sought p lo w v' r' → (v ≡ v') × (r ≡ r')
ways_alike p lo w v v' r r' a b = (a.filled ∙ sym b.filled, a.number ∙ sym b.number)
