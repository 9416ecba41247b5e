-- All numbers of a record are below a bound that the cells, the faces, the rings and the repeated nodes keep.
use Prim.Native.Nat.{ℕ, suc, ◌+◌, ◌≤◌, ◌<◌}
use mathlib.Core.Path.{ap}
use mathlib.Core.Bool.{Bool, true, false, cond}
use mathlib.Core.List.{List, [], ◌∷◌, Memᴰ}
use native.Mathlib.Omega.{arith}
use lib.Dec.{leb}
use lib.ListN.{length, length-map}
use Rattle.laws.specs.Lists.{keep, elem, add}
use Rattle.laws.proofs.ListLaws.{keep-length}
use Rattle.mesh.specs.Model.{Raw}
use Rattle.mesh.specs.Rings.{Cell, Face, faces_from, faces_of, faces, number_from, numbered, node_set, same_key}
use Rattle.mesh.specs.Lookup.{no_face, face_at, owners_of}
use Rattle.findings.specs.Findings.{Rules, Finding, bowtie, overfull, partly, repeated, common, full}
use Rattle.findings.specs.Records.{fields_of}
use Rattle.findings.specs.Demand3.{Below}
use Rattle.findings.proofs.Laws.{Every, every_mem, every_keep, every_get_or, every_map_in, every_each}
use Rattle.findings.proofs.ByKind.{every_full, every_bows, every_overs, every_partly, every_reps}
use Rattle.findings.proofs.Told.{OverfullTold, PartlyTold, Told, told}
use Rattle.findings.proofs.Small.{Low}

-- ---- common nodes are at most as many as a ring has

-- an element put in its place makes at most one more
add-length : (x : ℕ) (l : List ℕ) → length (add leb x l) ≤ suc (length l)
add-length x [] = omega arith
add-length x (y ∷ l) = go (leb x y) (leb y x) (add-length x l)
  where
    go : (b c : Bool) → length (add leb x l) ≤ suc (length l) → length (cond b (cond c (y ∷ l) (x ∷ y ∷ l)) (y ∷ add leb x l)) ≤ suc (suc (length l))
    go true true h = omega arith
    go true false h = omega arith
    go false c h = omega arith

-- a node set has at most as many as the ring
pub set-length : (r : List ℕ) → length (node_set r) ≤ length r
set-length [] = omega arith
set-length (x ∷ r) = omega (arith, add-length x (node_set r), set-length r)

-- and so have common nodes
common_length : (r s : List ℕ) → length (common r s) ≤ length r
unfolding common
common_length r s = omega (arith, keep-length (λ n. elem n (node_set s)) (node_set r), set-length r)

module _ (rings : Raw → List (List ℕ)) (N : ℕ) where
  -- cells are numbered below their number
  cells_below : (k n : ℕ) (cs : List Raw) → k + length cs ≤ N → Every (λ (c : Cell). c.num < N) (number_from rings k n cs)
  unfolding Every number_from
  cells_below k n [] h = tt
  cells_below k n (c ∷ cs) h = (omega arith, cells_below (suc k) (n + length (rings c)) cs (omega arith))

  -- the faces of a cell below N
  own_below : (c n : ℕ) (rs : List (List ℕ)) → c < N → Every (λ (f : Face). f.cell < N) (faces_from c n rs)
  unfolding Every faces_from
  own_below c n [] h = tt
  own_below c n (r ∷ rs) h = (h, own_below c (suc n) rs h)

  -- all faces
  faces_below : (cs : List Raw) → length cs ≤ N → Every (λ (f : Face). f.cell < N) (faces rings (numbered rings cs))
  unfolding faces faces_of numbered
  faces_below cs h =
      every_each (λ (c : Cell). c.num < N) (λ (f : Face). f.cell < N) (faces_of rings) (λ c u. own_below c.num c.from (rings c.raw) u) (numbered rings cs) (cells_below 0 0 cs (omega arith))

-- what a record has of kinds 1 and 4: cells and nodes
unfoldable Plain : ℕ → Finding → Type 0
Plain n (bowtie c) = c < n
Plain n (overfull c₁ c₂ f k ns os) = Unit
Plain n (partly c₁ c₂ a b ns) = Unit
Plain n (repeated c a b) = (c < n) × Low n (a, b)

module _ (R : Rules) (cs : List Raw) (n : ℕ) where
  -- all faces
  abbrev all : List Face
  all = faces R.rings (numbered R.rings cs)

  -- the cells with their numbers
  cells_plain : (k i : ℕ) (l : List Raw) → k + length l ≤ n → Every (λ (c : Raw). Every (Low n) (R.repeats c)) l
      → Every (λ (c : Cell). (c.num < n) × Every (Low n) (R.repeats c.raw)) (number_from R.rings k i l)
  unfolding Every number_from
  cells_plain k i [] h w = tt
  cells_plain k i (c ∷ l) h w = ((omega arith, w.0), cells_plain (suc k) (i + length (R.rings c)) l (omega arith) w.1)

  -- every finding of kinds 1 and 4
  all_plain : (flags : ℕ) → length cs ≤ n → Every (λ (c : Raw). Every (Low n) (R.repeats c)) cs → Every (Plain n) (full R flags (numbered R.rings cs))
  unfolding Plain numbered
  all_plain flags h w =
      let ns = numbered R.rings cs in
      let Q : (Cell → Type 0) = λ c. (c.num < n) × Every (Low n) (R.repeats c.raw) in
      let q = cells_plain 0 0 cs (omega arith) w in
      every_full R (Plain n) flags ns (λ t. every_bows R (Plain n) Q (λ c u. u.0) [] ns q) (λ t. every_overs R (Plain n) (λ c₁ c₂ f k ns os. tt) [] ns)
      (λ t. every_partly R (Plain n) (λ c₁ c₂ a b ns. tt) [] ns)
      (λ t. every_reps R (Plain n) Q (λ c u. every_map_in (Low n) (Plain n) (λ (p : ℕ × ℕ). repeated c.num p.0 p.1) (λ p v. (u.0, v)) (R.repeats c.raw) u.1) [] ns q)

  -- an overfull face's numbers
  over_below : (c₁ c₂ f k : ℕ) (ks os : List ℕ) → length cs ≤ n → length all < n → OverfullTold all c₁ c₂ f k ks os → Below n (fields_of (overfull c₁ c₂ f k ks os))
  unfolding fields_of owners_of
  over_below c₁ c₂ f k ks os h w t =
      let kept = keep (same_key (face_at all f)) all in
      let low : Every (λ (c : ℕ). c < n) (owners_of all f) =
      every_map_in (λ (g : Face). g.cell < n) (λ (c : ℕ). c < n) (λ (g : Face). g.cell) (λ g u. u) kept
      (every_keep (λ (g : Face). g.cell < n) (same_key (face_at all f)) all (faces_below R.rings n cs h)) in
      let own : Every (λ (c : ℕ). c < n) os = rw t.owners low in
      let many : length os ≤ length all = omega (arith, ap length t.owners, length-map kept (λ (g : Face). g.cell), keep-length (same_key (face_at all f)) all) in
      (rw t.first (every_get_or (λ (c : ℕ). c < n) os 0 0 (omega arith) own), rw t.second (every_get_or (λ (c : ℕ). c < n) os 1 0 (omega arith) own), omega (arith, t.within), omega arith, omega (arith, t.count))

  -- a partly shared pair's numbers
  pair_below : (c₁ c₂ a b : ℕ) (ns : List ℕ) → length cs ≤ n → length all < n → Every (λ (f : Face). length f.ring < n) all → PartlyTold all c₁ c₂ a b ns → Below n (fields_of (partly c₁ c₂ a b ns))
  unfolding fields_of
  pair_below c₁ c₂ a b ns h w r t =
      let cell : ((i : ℕ) → (face_at all i).cell < n) = λ i. every_get_or (λ (f : Face). f.cell < n) all i no_face (omega arith) (faces_below R.rings n cs h) in
      let long : length (face_at all a).ring < n = every_get_or (λ (f : Face). length f.ring < n) all a no_face (omega arith) r in
      (rw t.cell_a (cell a), rw t.cell_b (cell b), omega (arith, t.within_a), omega (arith, t.within_b), omega (arith, ap length t.nodes, common_length (face_at all a).ring (face_at all b).ring))

  -- every finding's numbers
  pub below : (flags : ℕ) (x : Finding) → 2 < n → length cs ≤ n → length all < n → Every (λ (f : Face). length f.ring < n) all → Every (λ (c : Raw). Every (Low n) (R.repeats c)) cs
      → Memᴰ x (full R flags (numbered R.rings cs)) → Below n (fields_of x)
  below flags x two h w r q m = go x (every_mem (Plain n) m (all_plain flags h q)) (told R flags cs x m)
    where
      go : (x : Finding) → Plain n x → Told all x → Below n (fields_of x)
      go (bowtie c) p t = unfold Plain fields_of in (p, omega arith, omega arith, omega arith, omega arith)
      go (overfull c₁ c₂ f k ks os) p t = over_below c₁ c₂ f k ks os h w (unfold Told in t)
      go (partly c₁ c₂ a b ns) p t = pair_below c₁ c₂ a b ns h w r (unfold Told in t)
      go (repeated c a b) p t = unfold Plain fields_of in (p.0, p.0, p.1.0, p.1.1, two)
