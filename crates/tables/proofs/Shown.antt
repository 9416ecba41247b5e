-- The tables read back: lists by their starts, faces by rings, rows and owners, and the first face of each cell.
use Prim.Native.Nat.{ℕ, zero, suc, ◌+◌, ◌-◌, ◌≤◌, ◌<◌}
use mathlib.Core.Path.{◌≡◌, refl, sym, ap, ap₂, ◌∙◌, subst}
use mathlib.Core.List.{List, [], ◌∷◌, ◌++◌, map}
use native.Mathlib.Nat.{add-zero, zero-add, add-suc, suc-add}
use native.Mathlib.Numerals.{add-one}
use native.Mathlib.Omega.{arith}
use lib.ListN.{length, get_or, take, replicate, length-append, length-map, length-replicate, get_or-replicate, get_or-append}
use lib.Seq.{get_or-append-add, take-length}
use Rattle.laws.specs.Lists.{each, up_from}
use Rattle.laws.specs.Merging.{region, starts_of}
use Rattle.laws.proofs.Stores.{get_or-region}
use Rattle.laws.proofs.Rows.{joined, starts_at, joined_next, row_read}
use Rattle.mesh.specs.Model.{Raw}
use Rattle.mesh.specs.Rings.{Face, faces_from, number_from, numbered, faces_of, faces, rings_of}
use Rattle.index.specs.Faces.{cell_of}
use Rattle.layout.specs.declared.Layout.{Layout}
use Rattle.layout.specs.Tables.{ring_row, first_of, face_row, faces_at}
use Rattle.tables.specs.Owners.{owners_from}
use Rattle.tables.proofs.Passing.{owners_length}

-- ---- faces

-- faces numbered from n on, of cells and rings one by one
abbrev faced : ℕ → List ℕ → List (List ℕ) → List Face
faced n [] rs = []
faced n (c ∷ cs) [] = []
faced n (c ∷ cs) (r ∷ rs) = record { num = n; cell = c; ring = r } ∷ faced (suc n) cs rs

-- face by face the same
faced_by : (f : ℕ → Face) (n : ℕ) (cs : List ℕ) (rs : List (List ℕ)) → length cs ≡ length rs → ((g k : ℕ) → k ≡ n + g → g < length rs → f k ≡ record { num = k; cell = get_or cs g 0; ring = get_or rs g [] })
    → map f (up_from n (length rs)) ≡ faced n cs rs
faced_by f n [] [] e h = refl
faced_by f n [] (r ∷ rs) e h = absurd (omega arith)
faced_by f n (c ∷ cs) [] e h = absurd (omega arith)
faced_by f n (c ∷ cs) (r ∷ rs) e h =
    ap₂ (λ (x : Face) (xs : List Face). x ∷ xs) (h 0 n (omega arith) (omega arith))
    (faced_by f (suc n) cs rs (omega arith) (λ g k q l. h (suc g) k (omega arith) (omega arith)))

-- the faces of one cell, and those behind them
faced_cell : (c n : ℕ) (rs : List (List ℕ)) (cs : List ℕ) (qs : List (List ℕ)) → faced n (replicate (length rs) c ++ cs) (rs ++ qs) ≡ faces_from c n rs ++ faced (n + length rs) cs qs
unfolding faces_from
faced_cell c n [] cs qs = ap (λ (k : ℕ). faced k cs qs) (sym (add-zero n))
faced_cell c n (r ∷ rs) cs qs =
    ap (λ (l : List Face). record { num = n; cell = c; ring = r } ∷ l)
    (faced_cell c (suc n) rs cs qs ∙ ap (λ (k : ℕ). faces_from c (suc n) rs ++ faced k cs qs) (suc-add n (length rs) ∙ sym (add-suc n (length rs))))

-- the faces of cells
faced_cells : (i n : ℕ) (cs : List Raw) → faced n (owners_from i cs) (each rings_of cs) ≡ faces rings_of (number_from rings_of i n cs)
unfolding faces faces_of number_from
faced_cells i n [] = refl
faced_cells i n (c ∷ cs) =
    faced_cell i n (rings_of c) (owners_from (suc i) cs) (each rings_of cs)
    ∙ ap (λ (l : List Face). faces_from i n (rings_of c) ++ l) (faced_cells (suc i) (n + length (rings_of c)) cs)

module _ (l : Layout) (t : List ℕ) (cells : List Raw) (flat : region l.rings (length (joined (each rings_of cells))) t ≡ joined (each rings_of cells)) (begun : region l.rows (length (each rings_of cells) + 1) t ≡ starts_of 0 (each rings_of cells)) (owned : region l.at.cells (length (each rings_of cells)) t ≡ owners_from 0 cells) where
  -- the cell of a face
  pub cell_read : (g : ℕ) → g < length (each rings_of cells) → cell_of l.at t g ≡ get_or (owners_from 0 cells) g 0
  cell_read g h = sym (get_or-region l.at.cells (length (each rings_of cells)) t g 0 h) ∙ ap (λ (s : List ℕ). get_or s g 0) owned

  -- a face
  face_read : (g : ℕ) → g < length (each rings_of cells) → face_row l t g ≡ record { num = g; cell = get_or (owners_from 0 cells) g 0; ring = get_or (each rings_of cells) g [] }
  unfolding face_row ring_row
  face_read g h = ap₂ (λ (c : ℕ) (r : List ℕ). record { num = g; cell = c; ring = r }) (cell_read g h) (row_read (each rings_of cells) l.rows l.rings t flat begun g h)

  -- the faces are those of the cells
  pub faces_read : l.at.faces ≡ length (each rings_of cells) → faces_at l t ≡ faces rings_of (numbered rings_of cells)
  unfolding faces_at numbered
  faces_read many =
      ap (λ (n : ℕ). map (face_row l t) (up_from 0 n)) many
      ∙ faced_by (face_row l t) 0 (owners_from 0 cells) (each rings_of cells) (owners_length 0 cells)
      (λ g k e h. let q : g ≡ k = omega arith in subst (λ (j : ℕ). face_row l t k ≡ record { num = k; cell = get_or (owners_from 0 cells) j 0; ring = get_or (each rings_of cells) j [] }) (sym q) (face_read k (omega arith)))
      ∙ faced_cells 0 0 cells

-- ---- the first face of each cell

-- the rings of the first c cells
joined_rings : (c : ℕ) (cells : List Raw) → joined (take c (map rings_of cells)) ≡ each rings_of (take c cells)
joined_rings zero cells = refl
joined_rings (suc c) [] = refl
joined_rings (suc c) (x ∷ cells) = ap (λ (l : List (List ℕ)). rings_of x ++ l) (joined_rings c cells)

-- a face among those of a cell has the cell's number
owners_at : (i : ℕ) (cs : List Raw) (c g : ℕ) → c < length cs → length (each rings_of (take c cs)) ≤ g → g < length (each rings_of (take (suc c) cs)) → get_or (owners_from i cs) g 0 ≡ i + c
owners_at i [] c g h a b = absurd (omega arith)
owners_at i (x ∷ cs) zero g h a b =
    let n = length (rings_of x) in
    let m : g < n = omega (arith, length-append (rings_of x) []) in
    get_or-append (replicate n i) (owners_from (suc i) cs) 0 g (omega (arith, length-replicate n i)) ∙ get_or-replicate n g i 0 m ∙ sym (add-zero i)
owners_at i (x ∷ cs) (suc c) g h a b =
    let n = length (rings_of x) in
    let p = length-append (rings_of x) (each rings_of (take c cs)) in
    let q = length-append (rings_of x) (each rings_of (take (suc c) cs)) in
    let m : g ≡ length (replicate n i) + (g - n) = omega (arith, length-replicate n i, p) in
    ap (λ (k : ℕ). get_or (replicate n i ++ owners_from (suc i) cs) k 0) m
    ∙ get_or-append-add (replicate n i) (owners_from (suc i) cs) (g - n) 0
    ∙ owners_at (suc i) cs c (g - n) (omega arith) (omega (arith, p)) (omega (arith, p, q))
    ∙ suc-add i c
    ∙ sym (add-suc i c)

module _ (l : Layout) (t : List ℕ) (cells : List Raw) (begun : region l.firsts (length cells + 1) t ≡ starts_of 0 (map rings_of cells)) where
  -- as many faces belong to the cells before
  pub first_read : (c : ℕ) → c ≤ length cells → first_of l t c ≡ length (each rings_of (take c cells))
  first_read c h =
      sym (get_or-region l.firsts (length cells + 1) t c 0 (omega arith))
      ∙ ap (λ (s : List ℕ). get_or s c 0) begun
      ∙ starts_at (map rings_of cells) c (omega (arith, length-map cells rings_of))
      ∙ ap length (joined_rings c cells)

  -- the numbers rise
  pub firsts_rise : (c : ℕ) → c < length cells → first_of l t c ≤ first_of l t (c + 1)
  firsts_rise c h =
      omega (
        arith,
        first_read c (omega arith),
        first_read (c + 1) (omega arith),
        ap length (joined_rings c cells),
        ap length (joined_rings (c + 1) cells),
        joined_next (map rings_of cells) c (omega (arith, length-map cells rings_of)),
      )

  -- the last is that of all faces
  pub first_last : first_of l t (length cells) ≡ length (each rings_of cells)
  first_last = first_read (length cells) (omega arith) ∙ ap (λ (s : List Raw). length (each rings_of s)) (take-length cells)

  -- a face between two of them belongs to the cell
  pub owned : (c g : ℕ) → c < length cells → first_of l t c ≤ g → g < first_of l t (c + 1) → get_or (owners_from 0 cells) g 0 ≡ c
  owned c g h a b =
      owners_at 0 cells c g h (omega (arith, first_read c (omega arith))) (omega (arith, first_read (c + 1) (omega arith), ap (λ (k : ℕ). length (each rings_of (take k cells))) (add-one c)))
      ∙ zero-add c
