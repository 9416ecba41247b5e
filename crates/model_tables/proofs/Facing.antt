-- The tables of faces read: they are as the check needs them.
use Prim.Native.Nat.{ℕ, zero, suc, ◌+◌, ◌≤◌, ◌<◌}
use mathlib.Core.Path.{◌≡◌, refl, sym, ap, ◌∙◌, subst}
use mathlib.Core.Bool.{Bool, true, false, not}
use mathlib.Core.List.{List, [], ◌∷◌, map}
use native.Mathlib.Omega.{arith}
use lib.Dec.{leb, eqb}
use lib.Ieee.{Float}
use lib.ListN.{length, get_or, take, replicate, length-map, get_or-map}
use lib.Seq.{take-length}
use Rattle.laws.specs.Lists.{each, sort}
use Rattle.laws.specs.Merging.{region, AllBelow, starts_of, Asc}
use Rattle.laws.proofs.Ascending.{asc_distinct}
use Rattle.laws.proofs.Bounds.{below_at, below_append, below-sort}
use Rattle.laws.proofs.ListLaws.{each_map, get_or_any}
use Rattle.laws.proofs.Sorting.{length-sort}
use Rattle.laws.proofs.Stores.{get_or-region}
use Rattle.mesh.specs.Model.{Raw}
use Rattle.mesh.specs.Rings.{rings_of, node_set, faces, numbered}
use Rattle.mesh.specs.Steps.{ring_total}
use Rattle.findings.specs.Compared.{none}
use Rattle.index.specs.Faces.{cell_of, bow_of, start_of, nodes_of, Laid}
use Rattle.layout.specs.declared.Layout.{Layout}
use Rattle.layout.specs.Tables.{ring_row, key_row, first_of, faces_at, Faced}
use Rattle.layout.specs.ByCell.{bit}
use Rattle.tables.specs.Owners.{owners_from}
use Rattle.tables.proofs.Passing.{owners_length}
use Rattle.laws.proofs.Rows.{joined, starts_length, joined_next, start_read, row_read}
use Rattle.tables.proofs.Shown.{cell_read, faces_read, first_last, owned}
use Rattle.model_tables.proofs.Sizes.{below-sets, sets_total}
use Rattle.findings.proofs.Fits.{set-length}
use Rattle.model_tables.proofs.Reading.{holds_long, each_most}
use Rattle.model_tables.proofs.Contents.{meets, Settled, RingTables, FaceTables}
use Rattle.model_tables.proofs.Ringing.{starts_held, firsts_held, ring_at, first_at, face_in, rows_rise, rows_within, ring_sized, ring_known, welds_known, firsts_rising}

-- ---- lists as long as others

-- they start where those start
starts_same : (f : List ℕ → List ℕ) → ((r : List ℕ) → length (f r) ≡ length r) → (k : ℕ) (rs : List (List ℕ)) → starts_of k (map f rs) ≡ starts_of k rs
starts_same f h k [] = refl
starts_same f h k (r ∷ rs) = ap (λ (x : List ℕ). k ∷ x) (ap (λ (n : ℕ). starts_of (k + n) (map f rs)) (h r) ∙ starts_same f h (k + length r) rs)

-- a number below n, again and again
below-replicate : (n k v : ℕ) → v < n → AllBelow n (replicate k v)
below-replicate n zero v h = tt
below-replicate n (suc k) v h = (h, below-replicate n k v h)

-- the owner of a face is one of the cells
below_owners : (n i : ℕ) (cs : List Raw) → i + length cs ≤ n → AllBelow n (owners_from i cs)
below_owners n i [] h = tt
below_owners n i (c ∷ cs) h =
    below_append n (replicate (length (rings_of c)) i) (owners_from (suc i) cs) (below-replicate n (length (rings_of c)) i (omega arith)) (below_owners n (suc i) cs (omega arith))

-- a mark is not zero where its cell is a bow-tie
mark_read : (b : Bool) → not (eqb (bit b) 0) ≡ b
mark_read true = refl
mark_read false = refl

module _ (coords : List Float) (tol : Float) (cells : List Raw) (M K : ℕ) (l : Layout) (t : List ℕ) (s : Settled coords cells M K l) (b : RingTables coords tol cells l t) (f : FaceTables coords tol cells l t) where
  -- all rings, and their node sets
  abbrev rs : List (List ℕ)
  rs = each rings_of cells

  abbrev sets : List (List ℕ)
  sets = map node_set rs

  -- ---- marks, owners and faces

  -- the cells of faces
  owners_held : region l.at.cells (length rs) t ≡ owners_from 0 cells
  owners_held = holds_long t l.at.cells (length rs) (owners_from 0 cells) (sym (owners_length 0 cells)) f.owners

  -- the mark of a cell
  pub bow_read : (c : ℕ) → c < length cells → bow_of l.at t c ≡ meets coords tol cells (get_or cells c none)
  bow_read c h =
      let marks = map (λ c. bit (meets coords tol cells c)) cells in
      let n : length marks ≡ length cells = length-map cells (λ c. bit (meets coords tol cells c)) in
      ap (λ (v : ℕ). not (eqb v 0))
      (sym (get_or-region l.at.bows (length marks) t c 0 (omega arith))
      ∙ ap (λ (x : List ℕ). get_or x c 0) f.bows
      ∙ get_or_any marks c 0 (bit (meets coords tol cells none)) (omega arith)
      ∙ get_or-map (λ c. bit (meets coords tol cells c)) cells c none)
      ∙ mark_read (meets coords tol cells (get_or cells c none))

  -- the faces are those of the cells
  pub faces_are_lem : faces_at l t ≡ faces rings_of (numbered rings_of cells)
  faces_are_lem = faces_read l t cells b.rings (starts_held coords tol cells M K l t s b) owners_held s.planned.many_faces

  -- the owner of a face
  owner_at : (g : ℕ) → g < l.at.faces → cell_of l.at t g ≡ get_or (owners_from 0 cells) g 0
  owner_at g h = cell_read l t cells b.rings (starts_held coords tol cells M K l t s b) owners_held g (face_in coords tol cells M K l t s b g h)

  -- ---- keys

  -- the key of a face
  key_at : (g : ℕ) → g < l.at.faces → key_row l t g ≡ sort leb (ring_row l t g)
  unfolding key_row
  key_at g h =
      let k = face_in coords tol cells M K l t s b g h in
      let n : length (map (sort leb) rs) ≡ length rs = length-map rs (sort leb) in
      let begun : region l.rows (length (map (sort leb) rs) + 1) t ≡ starts_of 0 (map (sort leb) rs) =
      ap (λ (i : ℕ). region l.rows (i + 1) t) n ∙ starts_held coords tol cells M K l t s b ∙ sym (starts_same (sort leb) (length-sort leb) 0 rs) in
      row_read (map (sort leb) rs) l.rows l.keys t f.keys begun g (omega arith)
      ∙ get_or-map (sort leb) rs g []
      ∙ ap (sort leb) (sym (ring_at coords tol cells M K l t s b g k))

  -- ---- node sets

  -- as many sets as rings
  many_sets : length sets ≡ length rs
  many_sets = length-map rs node_set

  -- the starts of sets
  sets_begun : region l.at.starts (length sets + 1) t ≡ starts_of 0 sets
  sets_begun = holds_long t l.at.starts (length sets + 1) (starts_of 0 sets) (sym (starts_length 0 sets)) f.starts

  -- where a set starts
  start_at : (g : ℕ) → g ≤ l.at.faces → start_of l.at t g ≡ ring_total (take g sets)
  start_at g h = start_read sets l.at.starts l.at.sets t f.sets sets_begun g (omega (arith, many_sets, s.planned.many_faces))

  -- the node set of a face
  set_at : (g : ℕ) → g < l.at.faces → nodes_of l.at t g ≡ node_set (ring_row l t g)
  unfolding nodes_of
  set_at g h =
      let k = face_in coords tol cells M K l t s b g h in
      row_read sets l.at.starts l.at.sets t f.sets sets_begun g (omega (arith, many_sets))
      ∙ get_or-map node_set rs g []
      ∙ ap node_set (sym (ring_at coords tol cells M K l t s b g k))

  -- a word of the sets is a node
  set_known : (k : ℕ) → k < ring_total sets → get_or t (l.at.sets + k) 0 < l.at.nodes
  set_known k h =
      let e = sym (get_or-region l.at.sets (ring_total sets) t k 0 h) ∙ ap (λ (x : List ℕ). get_or x k 0) f.sets in
      let a = below-sets l.at.nodes rs (subst (λ (n : ℕ). AllBelow n (joined rs)) (sym s.planned.many_nodes) s.below) in
      let z = below_at l.at.nodes (joined sets) k (subst (AllBelow l.at.nodes) (sym (each_map (λ (r : List ℕ). r) node_set rs)) a) h in
      omega (arith, e, z)

  -- ---- all of them

  module _ (whole : length t ≡ l.at.offsets) (size : K ≡ ring_total sets) where
    -- the node sets are laid out
    laid : Laid l.at t
    laid =
        let p = s.planned in
        let most = sets_total rs in
        record {
          cells_at = omega arith;
          bows_at = omega arith;
          sets_at = omega arith;
          offsets_at = omega arith;
          whole = whole;
          celled = λ g h. omega (arith, owner_at g h, below_at (length cells) (owners_from 0 cells) g (below_owners (length cells) 0 cells (omega arith)) (omega (arith, owners_length 0 cells)));
          first = start_at 0 (omega arith);
          last = start_at l.at.faces (omega arith) ∙ ap (λ (k : ℕ). ring_total (take k sets)) (p.many_faces ∙ sym many_sets) ∙ ap ring_total (take-length sets) ∙ sym size ∙ sym p.many_sets;
          rising = λ g h. omega (arith, start_at g (omega arith), start_at (g + 1) (omega arith), joined_next sets g (omega (arith, many_sets)));
          known = λ k h. set_known k (omega arith);
          asc = λ g h. subst Asc (sym (set_at g h)) (asc_distinct (ring_row l t g));
          few = λ g h. omega (arith, ap length (set_at g h), set-length (ring_row l t g), (ring_sized coords tol cells M K l t s b g h).1);
        }

    -- the tables are as they must be
    pub faced : Faced l t
    faced =
        let p = s.planned in
        let most = sets_total rs in
        record {
          laid = laid;
          weld_at = omega arith;
          rings_at = omega arith;
          keys_at = omega arith;
          rows_at = omega arith;
          firsts_at = omega arith;
          rising = rows_rise coords tol cells M K l t s b;
          within = rows_within coords tol cells M K l t s b;
          some = λ g h. (ring_sized coords tol cells M K l t s b g h).0;
          short = λ g h. (ring_sized coords tol cells M K l t s b g h).1;
          keyed = key_at;
          noded = set_at;
          known = λ g h. subst (AllBelow l.at.nodes) (sym (key_at g h)) (below-sort leb l.at.nodes (ring_row l t g) (ring_known coords tol cells M K l t s b g h));
          first_zero = first_at coords tol cells M K l t s b 0 (omega arith);
          first_last = ap (first_of l t) p.many_cells ∙ first_last l t cells (firsts_held coords tol cells M K l t s b) ∙ sym p.many_faces;
          first_rising = firsts_rising coords tol cells M K l t s b;
          owned = λ c g h x y.
              let last : first_of l t (c + 1) ≤ l.at.faces = omega (arith, first_at coords tol cells M K l t s b (c + 1) (omega arith), each_most rings_of (c + 1) cells) in
              owner_at g (omega arith) ∙ owned l t cells (firsts_held coords tol cells M K l t s b) c g (omega arith) x y;
          welds = welds_known coords tol cells M K l t s b;
        }
