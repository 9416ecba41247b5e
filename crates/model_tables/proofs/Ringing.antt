-- The tables of rings read: they are as the marks, the keys and the node sets need them.
use Prim.Native.Nat.{ℕ, ◌+◌, ◌-◌, ◌≤◌, ◌<◌}
use mathlib.Core.Path.{◌≡◌, sym, ap, ap₂, ◌∙◌, subst}
use mathlib.Core.Bool.{Bool}
use mathlib.Core.List.{List, [], map}
use native.Mathlib.Nat.{zero-add}
use native.Mathlib.Omega.{arith}
use lib.Dec.{leb}
use lib.Ieee.{Float}
use lib.ListN.{length, get_or, take, length-map}
use lib.Seq.{take-length}
use Rattle.laws.specs.Lists.{any, each, sort, up_from}
use Rattle.laws.specs.Merging.{region, AllBelow, starts_of}
use Rattle.laws.proofs.ListLaws.{each_map}
use Rattle.geometry.specs.Coordinates.{node_count}
use Rattle.geometry.specs.Points.{points_of}
use Rattle.bow_tie.specs.BowTie.{bow_tie_of}
use Rattle.mesh.specs.Model.{Raw}
use Rattle.mesh.specs.Rings.{rings_of, node_set}
use Rattle.mesh.specs.Steps.{ring_total}
use Rattle.snap.specs.Weld.{welded_by}
use Rattle.welding.specs.Used.{used_nodes, welded_used}
use Rattle.welding.proofs.Used.{length_welds}
use Rattle.findings.specs.Rules.{bow_of}
use Rattle.findings.specs.Compared.{none}
use Rattle.layout.specs.declared.Layout.{Layout}
use Rattle.layout.specs.Tables.{ring_row, first_of, Ringed}
use Rattle.layout.specs.ByCell.{ring_bow, cell_bow, bit}
use Rattle.node_sets.specs.Sets.{keys_of, sets_from}
use Rattle.laws.proofs.Rows.{joined, starts_length, joined_next, start_read, row_read}
use Rattle.tables.proofs.Shown.{first_read, firsts_rise}
use Rattle.model_tables.proofs.Sizes.{sized_cells, sized_at, below_ring}
use Rattle.model_tables.proofs.Welds.{welded_below}
use Rattle.model_tables.proofs.Reading.{holds_long, map-up_from, any-up_from, each_most, each_next, each_at}
use Rattle.model_tables.proofs.Contents.{meets, Settled, RingTables}

module _ (coords : List Float) (tol : Float) (cells : List Raw) (M K : ℕ) (l : Layout) (t : List ℕ) (s : Settled coords cells M K l) (b : RingTables coords tol cells l t) where
  -- all rings, and all welded numbers
  abbrev rs : List (List ℕ)
  rs = each rings_of cells

  abbrev welds : List ℕ
  welds = welded_used coords tol cells

  -- ---- words of the tables

  -- the starts of rings
  pub starts_held : region l.rows (length rs + 1) t ≡ starts_of 0 rs
  starts_held = holds_long t l.rows (length rs + 1) (starts_of 0 rs) (sym (starts_length 0 rs)) b.rows

  -- the first faces of cells
  pub firsts_held : region l.firsts (length cells + 1) t ≡ starts_of 0 (map rings_of cells)
  firsts_held = holds_long t l.firsts (length cells + 1) (starts_of 0 (map rings_of cells)) (omega (arith, starts_length 0 (map rings_of cells), length-map cells rings_of)) b.firsts

  -- the welded map
  pub welds_held : region l.weld l.at.nodes t ≡ welds
  welds_held = holds_long t l.weld l.at.nodes welds (s.planned.many_nodes ∙ sym (length_welds coords tol cells)) b.welds

  -- where a ring starts
  pub row_at : (g : ℕ) → g ≤ length rs → get_or t (l.rows + g) 0 ≡ ring_total (take g rs)
  row_at g h = start_read rs l.rows l.rings t b.rings starts_held g h

  -- a ring
  pub ring_at : (g : ℕ) → g < length rs → ring_row l t g ≡ get_or rs g []
  unfolding ring_row
  ring_at g h = row_read rs l.rows l.rings t b.rings starts_held g h

  -- the first face of a cell
  pub first_at : (c : ℕ) → c ≤ length cells → first_of l t c ≡ length (each rings_of (take c cells))
  first_at c h = first_read l t cells firsts_held c h

  -- a face's number is that of a ring
  pub face_in : (g : ℕ) → g < l.at.faces → g < length rs
  face_in g h = omega (arith, s.planned.many_faces)

  -- ---- what the tables must be

  -- the starts of rings rise
  pub rows_rise : (g : ℕ) → g < l.at.faces → get_or t (l.rows + g) 0 ≤ get_or t (l.rows + (g + 1)) 0
  rows_rise g h =
      let k = face_in g h in
      omega (arith, row_at g (omega arith), row_at (g + 1) (omega arith), joined_next rs g k)

  -- they lie within all words of rings
  pub rows_within : (g : ℕ) → g ≤ l.at.faces → get_or t (l.rows + g) 0 ≤ l.total
  rows_within g h = omega (arith, row_at g (omega (arith, s.planned.many_faces)), each_most (λ r. r) g rs, s.planned.many_total)

  -- a ring has 3 to 64 words
  pub ring_sized : (g : ℕ) → g < l.at.faces → (3 ≤ length (ring_row l t g)) × (length (ring_row l t g) ≤ 64)
  ring_sized g h =
      let k = face_in g h in
      let z = sized_at rs g (sized_cells cells s.well) k in
      (omega (arith, z.0, ap length (ring_at g k)), omega (arith, z.1, ap length (ring_at g k)))

  -- they are nodes
  pub ring_known : (g : ℕ) → g < l.at.faces → AllBelow l.at.nodes (ring_row l t g)
  ring_known g h =
      let k = face_in g h in
      subst (λ (n : ℕ). AllBelow n (ring_row l t g)) (sym s.planned.many_nodes)
      (subst (AllBelow (node_count coords)) (sym (ring_at g k)) (below_ring (node_count coords) rs g s.below k))

  -- so are the welded numbers
  pub welds_known : AllBelow l.at.nodes (region l.weld l.at.nodes t)
  unfolding welded_used
  welds_known =
      subst (λ (n : ℕ). AllBelow n (region l.weld l.at.nodes t)) (sym s.planned.many_nodes)
      (subst (AllBelow (node_count coords)) (sym welds_held) (welded_below coords tol (node_count coords) (used_nodes cells) s.used))

  -- the first faces rise
  pub firsts_rising : (c : ℕ) → c < l.at.cell_count → first_of l t c ≤ first_of l t (c + 1)
  firsts_rising c h = firsts_rise l t cells firsts_held c (omega (arith, s.planned.many_cells))

  -- so the rings stand as they must
  pub ringed : length t ≡ l.at.bows → Ringed l t
  ringed whole =
      let p = s.planned in
      let z : l.rows + 0 ≡ l.rows = omega arith in
      record {
        whole = whole;
        weld_at = omega arith;
        rings_at = omega arith;
        rows_at = omega arith;
        firsts_at = omega arith;
        row_zero = ap (λ (k : ℕ). get_or t k 0) (sym z) ∙ row_at 0 (omega arith);
        row_last = row_at l.at.faces (omega arith) ∙ ap (λ (k : ℕ). ring_total (take k rs)) p.many_faces ∙ ap ring_total (take-length rs) ∙ sym p.many_total;
        rising = rows_rise;
        within = rows_within;
        short = λ g h. (ring_sized g h).1;
        known = ring_known;
        first_most = λ c h. omega (arith, first_at c (omega arith), each_most rings_of c cells);
        first_rising = firsts_rising;
        welds = welds_known;
      }

  -- ---- what is made of the rings

  -- a ring in welded numbers meets itself
  abbrev crossed : List ℕ → Bool
  crossed r = bow_tie_of tol (points_of coords (map (welded_by welds) r))

  -- a ring of the tables does where the ring does
  ring_bow_lem : (g : ℕ) → g < length rs → ring_bow coords tol l t g ≡ crossed (get_or rs g [])
  unfolding ring_bow
  ring_bow_lem g h = ap₂ (λ (x r : List ℕ). bow_tie_of tol (points_of coords (map (welded_by x) r))) welds_held (ring_at g h)

  -- a cell is marked as its rings say
  cell_bow_lem : (c : ℕ) → c < length cells → cell_bow coords tol l t c ≡ meets coords tol cells (get_or cells c none)
  unfolding cell_bow bow_of
  cell_bow_lem c h =
      let cell = get_or cells c none in
      let from = length (each rings_of (take c cells)) in
      let next = each_next rings_of cells c none h in
      let n : length (each rings_of (take (c + 1) cells)) - from ≡ length (rings_of cell) = omega (arith, next) in
      ap₂ (λ (x y : ℕ). any (ring_bow coords tol l t) (up_from x (y - x))) (first_at c (omega arith)) (first_at (c + 1) (omega arith))
      ∙ ap (λ (k : ℕ). any (ring_bow coords tol l t) (up_from from k)) n
      ∙ any-up_from (ring_bow coords tol l t) crossed [] (rings_of cell) from
      (λ j k. ring_bow_lem (from + j) (omega (arith, next, each_most rings_of (c + 1) cells)) ∙ ap crossed (each_at rings_of cells c none j [] h k))

  -- the marks of all cells
  pub bows_are : map (λ c. bit (cell_bow coords tol l t c)) (up_from 0 l.at.cell_count) ≡ map (λ c. bit (meets coords tol cells c)) cells
  bows_are =
      ap (λ (n : ℕ). map (λ c. bit (cell_bow coords tol l t c)) (up_from 0 n)) s.planned.many_cells
      ∙ map-up_from (λ c. bit (cell_bow coords tol l t c)) (λ c. bit (meets coords tol cells c)) none cells 0
      (λ j h. ap bit (ap (cell_bow coords tol l t) (zero-add j) ∙ cell_bow_lem j h))

  -- the keys of all faces
  pub keys_are : keys_of l t l.at.faces ≡ joined (map (sort leb) rs)
  keys_are =
      ap (keys_of l t) s.planned.many_faces
      ∙ sym (each_map (λ (r : List ℕ). r) (λ g. sort leb (ring_row l t g)) (up_from 0 (length rs)))
      ∙ ap joined (map-up_from (λ g. sort leb (ring_row l t g)) (sort leb) [] rs 0 (λ j h. ap (sort leb) (ap (ring_row l t) (zero-add j) ∙ ring_at j h)))

  -- their node sets
  pub sets_are : sets_from l t 0 l.at.faces ≡ map node_set rs
  sets_are =
      ap (sets_from l t 0) s.planned.many_faces
      ∙ map-up_from (λ g. node_set (ring_row l t g)) node_set [] rs 0 (λ j h. ap node_set (ap (ring_row l t) (zero-add j) ∙ ring_at j h))
