-- The table of a model, row by row; and its faces by its cells.
use Prim.Native.Nat.{ℕ, suc, ◌+◌, ◌*◌, ◌≤◌, ◌<◌}
use mathlib.Core.Path.{◌≡◌, refl, sym, ap, ap₂, ◌∙◌}
use mathlib.Core.Logic.{◌≢◌}
use mathlib.Core.Bool.{true, false, not, ◌||◌}
use mathlib.Core.List.{List, [], ◌∷◌, ◌++◌, map, map-append}
use native.Mathlib.Omega.{arith}
use borrow.Author.Tests.{ltb-false, eqb-true, not-false, lt-ltb, le-ltb, eq-eqb, ne_eqb}
use lib.Dec.{ltb, eqb}
use lib.ListN.{length}
use Rattle.laws.specs.Lists.{each}
use Rattle.laws.specs.Limits.{cell_limit, word_limit, flag_limit}
use Rattle.laws.specs.Refusals.{refusal}
use Rattle.laws.proofs.Tables.{Numbered, numbered_append, refusal_first, refusal_second}
use Rattle.std.proofs.lemmas.Bool.{or_parts}
use Rattle.geometry.specs.Coordinates.{node_count, count_off, tolerance_off, coordinates_off}
use Rattle.mesh.specs.Model.{Model, Raw, cells_of}
use Rattle.mesh.specs.Rings.{Face, rings_of, faces_from, number_from, numbered, faces_of, faces, ring_words}
use Rattle.mesh.specs.Acceptance.{ends_off, shape_off, cell_table, cells_table, mesh_table, model_refusal, faces_in, work_needed}
use Rattle.mesh.specs.Steps.{Tallied}
use Rattle.mesh.proofs.CellTallies.{nine}

-- ---- lengths and limits

-- what it is for lengths and limits to be right
pub record Shaped (m : Model) : Type 0 where
  pub count : count_off (length m.coords) ≡ false
  pub cells : length m.kinds ≤ cell_limit
  pub words : length m.words ≤ word_limit
  pub equal : length m.kinds ≡ length m.ends
  pub order : ends_off 0 m.ends (length m.words) ≡ false

pub shape_is : (m : Model) → (count_off (length m.coords) || ltb cell_limit (length m.kinds) || ltb word_limit (length m.words) || not (eqb (length m.kinds) (length m.ends)) || ends_off 0 m.ends (length m.words)) ≡ shape_off m
unfolding shape_off
shape_is m = refl

pub shaped : (m : Model) → shape_off m ≡ false → Shaped m
unfolding shape_off
shaped m h =
    let a = count_off (length m.coords) in
    let b = ltb cell_limit (length m.kinds) in
    let d = ltb word_limit (length m.words) in
    let e = not (eqb (length m.kinds) (length m.ends)) in
    let p = or_parts (a || b || d || e) (ends_off 0 m.ends (length m.words)) h in
    let q = or_parts (a || b || d) e p.0 in
    let r = or_parts (a || b) d q.0 in
    let s = or_parts a b r.0 in
    record {
      count = s.0;
      cells = ltb-false cell_limit (length m.kinds) s.1;
      words = ltb-false word_limit (length m.words) r.1;
      equal = eqb-true (length m.kinds) (length m.ends) (not-false (eqb (length m.kinds) (length m.ends)) q.1);
      order = p.1;
    }

-- ---- the rows

-- no row before the cells holds
pub record Before9 (m : Model) : Type 0 where
  pub shape : shape_off m ≡ false
  pub tolerance : tolerance_off m.tolerance ≡ false
  pub coordinates : coordinates_off m.coords ≡ false
  pub some : length m.kinds ≢ 0

pub row5 : (m : Model) → shape_off m ≡ true → refusal (mesh_table m) ≡ 5
row5 m a = rw a

pub row6 : (m : Model) → shape_off m ≡ false → tolerance_off m.tolerance ≡ true → refusal (mesh_table m) ≡ 6
row6 m a b = rw (a, b)

pub row7 : (m : Model) → shape_off m ≡ false → tolerance_off m.tolerance ≡ false → coordinates_off m.coords ≡ true → refusal (mesh_table m) ≡ 7
row7 m a b c = rw (a, b, c)

pub row8 : (m : Model) → shape_off m ≡ false → tolerance_off m.tolerance ≡ false → coordinates_off m.coords ≡ false → length m.kinds ≡ 0 → refusal (mesh_table m) ≡ 8
row8 m a b c d = rw (a, b, c, eq-eqb (length m.kinds) 0 d)

-- the refusal of the cells
abbrev pub cells_refusal : Model → ℕ
cells_refusal m = refusal (cells_table (node_count m.coords) 0 (cells_of m))

pub rows9 : (m : Model) → Before9 m → refusal (mesh_table m) ≡ cells_refusal m
rows9 m b = rw (b.shape, b.tolerance, b.coordinates, ne_eqb (length m.kinds) 0 b.some)

pub nines : (n before : ℕ) (cs : List Raw) → Numbered (cells_table n before cs)
nines n before [] = tt
nines n before (c ∷ cs) = numbered_append (cell_table n before c) (cells_table n c.kind cs) (nine n before c) (nines n c.kind cs)

-- ---- the mesh, then the flags

-- every row of the mesh has a number
pub numbers_mesh : (m : Model) → Numbered (mesh_table m)
numbers_mesh m = (λ e. omega arith, (λ e. omega arith, (λ e. omega arith, (λ e. omega arith, nines (node_count m.coords) 0 (cells_of m)))))

pub mesh_first : (m : Model) → refusal (mesh_table m) ≢ 0 → model_refusal m ≡ refusal (mesh_table m)
unfolding model_refusal
mesh_first m z = refusal_first (mesh_table m) ((10, ltb flag_limit m.flags) ∷ []) z

flags_next : (m : Model) → refusal (mesh_table m) ≡ 0 → model_refusal m ≡ refusal ((10, ltb flag_limit m.flags) ∷ [])
unfolding model_refusal
flags_next m z = refusal_second (mesh_table m) ((10, ltb flag_limit m.flags) ∷ []) (numbers_mesh m) z

pub flags_off : (m : Model) → refusal (mesh_table m) ≡ 0 → flag_limit < m.flags → model_refusal m ≡ 10
flags_off m z f = flags_next m z ∙ rw (lt-ltb flag_limit m.flags f)

pub no_row : (m : Model) → refusal (mesh_table m) ≡ 0 → m.flags ≤ flag_limit → model_refusal m ≡ 0
no_row m z f = flags_next m z ∙ rw (le-ltb flag_limit m.flags f)

-- ---- faces by cells

-- the rings of a cell's faces are the cell's rings
pub rings_from : (c n : ℕ) (rs : List (List ℕ)) → map (λ f. f.ring) (faces_from c n rs) ≡ rs
unfolding faces_from
rings_from c n [] = refl
rings_from c n (r ∷ rs) = ap (λ (l : List (List ℕ)). r ∷ l) (rings_from c (suc n) rs)

-- the rings of all faces are those of the cells
pub rings_numbered : (i n : ℕ) (cs : List Raw) → map (λ f. f.ring) (faces rings_of (number_from rings_of i n cs)) ≡ each rings_of cs
unfolding number_from faces faces_of
rings_numbered i n [] = refl
rings_numbered i n (c ∷ cs) =
    map-append (λ (f : Face). f.ring) (faces_from i n (rings_of c)) (faces rings_of (number_from rings_of (suc i) (n + length (rings_of c)) cs))
    ∙ ap₂ (λ (a b : List (List ℕ)). a ++ b) (rings_from i n (rings_of c)) (rings_numbered (suc i) (n + length (rings_of c)) cs)

-- the rings of a model's faces are those of its cells, in order
pub rings_in_lem : (m : Model) → map (λ f. f.ring) (faces_in m) ≡ each rings_of (cells_of m)
unfolding faces_in numbered
rings_in_lem m = rings_numbered 0 0 (cells_of m)

words_of : (fs : List Face) → ring_words fs ≡ each (λ r. r) (map (λ f. f.ring) fs)
words_of [] = refl
words_of (f ∷ fs) = ap (λ (l : List ℕ). f.ring ++ l) (words_of fs)

-- all rings of a model, one after the other
pub ring_words_lem : (m : Model) → ring_words (faces_in m) ≡ each (λ r. r) (each rings_of (cells_of m))
ring_words_lem m = words_of (faces_in m) ∙ ap (each (λ (r : List ℕ). r)) (rings_in_lem m)

length_rings : (fs : List Face) → length (map (λ f. f.ring) fs) ≡ length fs
length_rings [] = refl
length_rings (f ∷ fs) = ap suc (length_rings fs)

pub face_count_lem : (m : Model) → length (faces_in m) ≡ length (each rings_of (cells_of m))
face_count_lem m = sym (length_rings (faces_in m)) ∙ ap length (rings_in_lem m)

-- ---- the work needed

-- from the counts
pub work_is_lem : (m : Model) (f r : ℕ) → Tallied m f r → 8 * r + 4 * f + 8 * length m.kinds + 4 * node_count m.coords + 4 * length m.words + 16 ≡ work_needed m
unfolding work_needed
work_is_lem m f r t = rw (t.words, t.faces)

-- it holds three words a node
pub work_room : (m : Model) → 3 * node_count m.coords ≤ work_needed m
unfolding work_needed
work_room m = omega arith
