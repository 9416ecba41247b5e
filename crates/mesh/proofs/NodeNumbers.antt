-- The nodes of an accepted model's rings are below its number of nodes.
use Prim.Native.Nat.{ℕ, ◌<◌}
use mathlib.Core.Path.{◌≡◌, refl, sym, subst}
use mathlib.Core.Logic.{◌⊎◌, inl, inr, ◌≢◌}
use mathlib.Core.Bool.{Bool, true, false, ◌||◌}
use mathlib.Core.List.{List, [], ◌∷◌}
use native.Mathlib.Omega.{arith}
use borrow.Author.Tests.{leb-false, eqb-true, eqb-false, ne_eqb, le-ltb}
use lib.Dec.{leb, ltb, eqb}
use lib.ListN.{length, get_or}
use Rattle.laws.specs.Lists.{any, each, keep}
use Rattle.laws.specs.Merging.{AllBelow}
use Rattle.laws.proofs.Bounds.{below_at, below_append, below_left, below_right}
use Rattle.laws.proofs.ListLaws.{each_append}
use Rattle.laws.proofs.Tests.{clash}
use Rattle.std.proofs.lemmas.Bool.{cases_Bool, or_parts}
use Rattle.mesh.specs.Model.{Raw, PHED}
use Rattle.mesh.specs.Rings.{separator, at, tet_rings, hex_rings, wedge_rings, onto, runs, rings_of}
use Rattle.mesh.specs.Acceptance.{count_wrong, node_off}
use Rattle.mesh.specs.Steps.{WellCell, WellCells}
use Rattle.mesh.proofs.Accepts.{cell_wrong}
use Rattle.mesh.proofs.ByKind.{tet_is, hex_is, wedge_is, phed_is}
use Rattle.mesh.proofs.CellKinds.{the_fourth}

-- ---- words that are nodes

-- in a cell that is no PHED every word is a node
plain_below : (n k : ℕ) (ws : List ℕ) → k ≢ PHED → any (node_off n k) ws ≡ false → AllBelow n ws
plain_below n k [] p e = tt
plain_below n k (w ∷ ws) p e =
    let q = or_parts (node_off n k w) (any (node_off n k) ws) e in
    (go (cases_Bool (leb n w)) q.0, plain_below n k ws p q.1)
  where
    go : (leb n w ≡ true) ⊎ (leb n w ≡ false) → node_off n k w ≡ false → w < n
    go (inl a) f = clash (rw (a, ne_eqb k PHED p)) f
    go (inr a) f = leb-false n w a

-- in a PHED those that are no separators
word_below : (n w : ℕ) → node_off n PHED w ≡ false → eqb w separator ≡ false → w < n
word_below n w e f = go (cases_Bool (leb n w))
  where
    go : (leb n w ≡ true) ⊎ (leb n w ≡ false) → w < n
    go (inl a) = clash (rw (a, f)) e
    go (inr a) = leb-false n w a

-- ---- the words of runs

flat_onto : (w : ℕ) (rs : List (List ℕ)) → each (λ r. r) (onto w rs) ≡ w ∷ each (λ r. r) rs
flat_onto w [] = refl
flat_onto w (r ∷ rs) = refl

runs_below : (n : ℕ) (ws : List ℕ) → any (node_off n PHED) ws ≡ false → AllBelow n (each (λ r. r) (runs ws))
runs_below n [] e = tt
runs_below n (w ∷ ws) e =
    let q = or_parts (node_off n PHED w) (any (node_off n PHED) ws) e in
    go (cases_Bool (eqb w separator)) (runs_below n ws q.1) q.0
  where
    go : (eqb w separator ≡ true) ⊎ (eqb w separator ≡ false) → AllBelow n (each (λ r. r) (runs ws)) → node_off n PHED w ≡ false → AllBelow n (each (λ r. r) (runs (w ∷ ws)))
    go (inl s) h f = rw s h
    go (inr s) h f = rw (s, flat_onto w (runs ws)) (word_below n w f s, h)

keep-below : (n : ℕ) (p : List ℕ → Bool) (rs : List (List ℕ)) → AllBelow n (each (λ r. r) rs) → AllBelow n (each (λ r. r) (keep p rs))
keep-below n p [] h = tt
keep-below n p (r ∷ rs) h = go (cases_Bool (p r)) (keep-below n p rs (below_right n r (each (λ (l : List ℕ). l) rs) h))
  where
    go : (p r ≡ true) ⊎ (p r ≡ false) → AllBelow n (each (λ r. r) (keep p rs)) → AllBelow n (each (λ r. r) (keep p (r ∷ rs)))
    go (inl t) k = rw t (below_append n r (each (λ (l : List ℕ). l) (keep p rs)) (below_left n r (each (λ (l : List ℕ). l) rs) h) k)
    go (inr t) k = rw t k

-- ---- the rings of a cell

-- words at places of a list of rings
module _ (n : ℕ) (ws : List ℕ) (h : AllBelow n ws) where
  g : (i : ℕ) → i < length ws → get_or ws i 0 < n
  g i k = below_at n ws i h k

  tet_below : length ws ≡ 4 → AllBelow n (each (λ r. r) (at ws tet_rings))
  tet_below e = (g 0 (omega arith), (g 1 (omega arith), (g 3 (omega arith), (g 1 (omega arith), (g 2 (omega arith), (g 3 (omega arith), (g 2 (omega arith), (g 0 (omega arith), (g 3 (omega arith), (g 0 (omega arith), (g 2 (omega arith), (g 1 (omega arith), tt))))))))))))

  wedge_below : length ws ≡ 6 → AllBelow n (each (λ r. r) (at ws wedge_rings))
  wedge_below e = (g 0 (omega arith), (g 2 (omega arith), (g 1 (omega arith), (g 3 (omega arith), (g 4 (omega arith), (g 5 (omega arith), (g 0 (omega arith), (g 1 (omega arith), (g 4 (omega arith), (g 3 (omega arith), (g 1 (omega arith), (g 2 (omega arith), (g 5 (omega arith), (g 4 (omega arith), (g 2 (omega arith), (g 0 (omega arith), (g 3 (omega arith), (g 5 (omega arith), tt))))))))))))))))))

  hex_below : length ws ≡ 8 → AllBelow n (each (λ r. r) (at ws hex_rings))
  hex_below e = (g 0 (omega arith), (g 3 (omega arith), (g 2 (omega arith), (g 1 (omega arith), (g 4 (omega arith), (g 5 (omega arith), (g 6 (omega arith), (g 7 (omega arith), (g 0 (omega arith), (g 1 (omega arith), (g 5 (omega arith), (g 4 (omega arith), (g 2 (omega arith), (g 3 (omega arith), (g 7 (omega arith), (g 6 (omega arith), (g 1 (omega arith), (g 2 (omega arith), (g 6 (omega arith), (g 5 (omega arith), (g 3 (omega arith), (g 0 (omega arith), (g 4 (omega arith), (g 7 (omega arith), tt))))))))))))))))))))))))

-- the nodes of a cell's rings are below n
pub cell_below : (n : ℕ) (c : Raw) → WellCell c → any (node_off n c.kind) c.words ≡ false → AllBelow n (each (λ r. r) (rings_of c))
cell_below n c w e = go (cases_Bool (eqb c.kind 1)) (cases_Bool (eqb c.kind 2)) (cases_Bool (eqb c.kind 3))
  where
    flat_below : {rs : List (List ℕ)} → rings_of c ≡ rs → AllBelow n (each (λ r. r) rs) → AllBelow n (each (λ r. r) (rings_of c))
    flat_below q h = subst (λ (l : List (List ℕ)). AllBelow n (each (λ r. r) l)) (sym q) h

    go : (eqb c.kind 1 ≡ true) ⊎ (eqb c.kind 1 ≡ false) → (eqb c.kind 2 ≡ true) ⊎ (eqb c.kind 2 ≡ false) → (eqb c.kind 3 ≡ true) ⊎ (eqb c.kind 3 ≡ false) → AllBelow n (each (λ r. r) (rings_of c))
    go (inl a) b d =
        let k = eqb-true c.kind 1 a in
        let t = tet_is c.kind c.words k w in
        flat_below t.1 (tet_below n c.words (plain_below n c.kind c.words (λ z. omega arith) e) t.0)
    go (inr a) (inl b) d =
        let k = eqb-true c.kind 2 b in
        let t = hex_is c.kind c.words k w in
        flat_below t.1 (hex_below n c.words (plain_below n c.kind c.words (λ z. omega arith) e) t.0)
    go (inr a) (inr b) (inl d) =
        let k = eqb-true c.kind 3 d in
        let t = wedge_is c.kind c.words k w in
        flat_below t.1 (wedge_below n c.words (plain_below n c.kind c.words (λ z. omega arith) e) t.0)
    go (inr a) (inr b) (inr d) =
        let k = the_fourth c.kind w.kind (eqb-false c.kind 1 a) (eqb-false c.kind 2 b) (eqb-false c.kind 3 d) in
        flat_below (phed_is c.kind c.words k) (keep-below n (λ r. leb 3 (length r)) (runs c.words) (runs_below n c.words (subst (λ (j : ℕ). any (node_off n j) c.words ≡ false) k e)))

-- ---- the rings of a model

-- a cell that is not wrong is right in kind, count and nodes
right_cell : (n : ℕ) (c : Raw) → cell_wrong n c ≡ false → WellCell c × (any (node_off n c.kind) c.words ≡ false)
unfolding cell_wrong
right_cell n c e =
    let p = or_parts (eqb c.kind 0 || ltb PHED c.kind) (count_wrong c || any (node_off n c.kind) c.words) e in
    let q = or_parts (eqb c.kind 0) (ltb PHED c.kind) p.0 in
    let r = or_parts (count_wrong c) (any (node_off n c.kind) c.words) p.1 in
    (record { kind = rw (le-ltb c.kind 0 (omega arith), q.0) q.1; count = r.0 }, r.1)

pub well_cells : (n : ℕ) (cs : List Raw) → any (cell_wrong n) cs ≡ false → WellCells cs
well_cells n [] e = tt
well_cells n (c ∷ cs) e = let p = or_parts (cell_wrong n c) (any (cell_wrong n) cs) e in ((right_cell n c p.0).0, well_cells n cs p.1)

pub cells_below : (n : ℕ) (cs : List Raw) → any (cell_wrong n) cs ≡ false → AllBelow n (each (λ r. r) (each rings_of cs))
cells_below n [] e = tt
cells_below n (c ∷ cs) e =
    let p = or_parts (cell_wrong n c) (any (cell_wrong n) cs) e in
    let q = right_cell n c p.0 in
    rw (each_append (λ (r : List ℕ). r) (rings_of c) (each rings_of cs))
    (below_append n (each (λ (r : List ℕ). r) (rings_of c)) (each (λ (r : List ℕ). r) (each rings_of cs)) (cell_below n c q.0 q.1) (cells_below n cs p.1))
