-- The numbers that an accepted model's findings name are small.
use Prim.Native.Nat.{ℕ, suc, ◌+◌, ◌*◌, ◌≤◌, ◌<◌}
use mathlib.Core.Path.{◌≡◌, refl, ap}
use mathlib.Core.Bool.{Bool, true, false, not, cond}
use mathlib.Core.List.{List, [], ◌∷◌}
use native.Mathlib.Omega.{arith}
use borrow.Author.Tests.{ltb-false}
use lib.Dec.{leb, ltb, eqb}
use lib.ListN.{length, length-append}
use Rattle.laws.specs.Lists.{any, each, walk, keep, last, add, distinct}
use Rattle.laws.specs.Limits.{cell_limit, word_limit}
use Rattle.laws.specs.Merging.{AllBelow}
use Rattle.laws.proofs.ListLaws.{keep-length}
use Rattle.mesh.specs.Model.{Model, Raw, TET4, HEX8, WEDGE6, PHED, cells_of}
use Rattle.mesh.specs.Rings.{Face, separator, nodes_in, at, tet_rings, hex_rings, wedge_rings, onto, runs, phed_rings, rings_of, numbered}
use Rattle.mesh.specs.Acceptance.{node_off, faces_in}
use Rattle.findings.specs.Rules.{pair_le, pair_of, repeat_at, repeats_of}
use Rattle.findings.proofs.Laws.{Every, every_imp, every_parts, every_keep, every_last, every_map_in, every_map_parts, every_each, every_walk_in}
use Rattle.mesh.proofs.Accepts.{cell_wrong, Accepts}
use Rattle.std.proofs.lemmas.Bool.{or_parts}
use Rattle.mesh.proofs.CellWords.{cells_count, cells_words, named_low, right_words}
use Rattle.mesh.proofs.ModelTable.{rings_numbered, face_count_lem}

-- ---- how many faces

-- a word in front makes at most one run more
onto_few : (w : ℕ) (l : List (List ℕ)) → length (onto w l) ≤ suc (length l)
onto_few w [] = omega arith
onto_few w (r ∷ l) = omega arith

-- as many runs as words, and one
runs_few : (ws : List ℕ) → length (runs ws) ≤ suc (length ws)
runs_few [] = omega arith
runs_few (w ∷ ws) = go (eqb w separator) (runs_few ws) (onto_few w (runs ws))
  where
    go : (b : Bool) → length (runs ws) ≤ suc (length ws) → length (onto w (runs ws)) ≤ suc (length (runs ws)) → length (cond b ([] ∷ runs ws) (onto w (runs ws))) ≤ suc (suc (length ws))
    go true h k = omega arith
    go false h k = omega arith

-- a cell has at most six rings, or as many as words and one
rings_few : (c : Raw) → length (rings_of c) ≤ length c.words + 6
unfolding rings_of
rings_few c = go (eqb c.kind TET4) (eqb c.kind HEX8) (eqb c.kind WEDGE6) (eqb c.kind PHED)
  where
    go : (t h w p : Bool) → length (cond t (at c.words tet_rings) (cond h (at c.words hex_rings) (cond w (at c.words wedge_rings) (cond p (phed_rings c.words) [])))) ≤ length c.words + 6
    go true h w p = omega arith
    go false true w p = omega arith
    go false false true p = omega arith
    go false false false true = omega (arith, runs_few c.words, keep-length (λ r. leb 3 (length r)) (runs c.words))
    go false false false false = omega arith

-- the rings of all cells
all_few : (cs : List Raw) → length (each rings_of cs) ≤ length (each (λ c. c.words) cs) + 6 * length cs
all_few [] = omega arith
all_few (c ∷ cs) =
    omega (arith, rings_few c, all_few cs, length-append (rings_of c) (each rings_of cs), length-append c.words (each (λ c. c.words) cs))

-- an accepted model has under 2^32 faces
pub faces_few : (m : Model) → Accepts m → length (faces_in m) < 4294967296
faces_few m h =
    omega (arith, face_count_lem m, all_few (cells_of m), cells_count m h, ap length (cells_words m h), ltb-false cell_limit (length m.kinds) h.cells, ltb-false word_limit (length m.words) h.words)

-- and under 2^32 cells
pub cells_few : (m : Model) → Accepts m → length (cells_of m) < 4294967296
cells_few m h = omega (arith, cells_count m h, ltb-false cell_limit (length m.kinds) h.cells)

-- ---- how long rings are

-- a ring of at most n
abbrev Upto : ℕ → List ℕ → Type 0
Upto n r = length r ≤ n

-- a run has at most as many as all words
run_lengths : (ws : List ℕ) → Every (Upto (length ws)) (runs ws)
unfolding Every
run_lengths [] = (omega arith, tt)
run_lengths (w ∷ ws) = go (eqb w separator) (runs ws) (every_imp (Upto (length ws)) (Upto (suc (length ws))) (λ r u. omega arith) (runs ws) (run_lengths ws)) (run_lengths ws)
  where
    go : (b : Bool) (l : List (List ℕ)) → Every (Upto (suc (length ws))) l → Every (Upto (length ws)) l → Every (Upto (suc (length ws))) (cond b ([] ∷ l) (onto w l))
    go true l h k = (omega arith, h)
    go false [] h k = (omega arith, tt)
    go false (r ∷ l) h k = (omega (arith, k.0), h.1)

-- a ring has at most four, or as many as all words
ring_lengths : (c : Raw) → Every (Upto (length c.words + 4)) (rings_of c)
unfolding rings_of Every
ring_lengths c = go (eqb c.kind TET4) (eqb c.kind HEX8) (eqb c.kind WEDGE6) (eqb c.kind PHED)
  where
    go : (t h w p : Bool) → Every (Upto (length c.words + 4)) (cond t (at c.words tet_rings) (cond h (at c.words hex_rings) (cond w (at c.words wedge_rings) (cond p (phed_rings c.words) []))))
    go true h w p = omega arith
    go false true w p = omega arith
    go false false true p = omega arith
    go false false false true =
        every_imp (Upto (length c.words)) (Upto (length c.words + 4)) (λ r u. omega arith) (phed_rings c.words)
        (every_keep (Upto (length c.words)) (λ r. leb 3 (length r)) (runs c.words) (run_lengths c.words))
    go false false false false = tt

-- a cell has at most as many words as all cells
words_few : (M : ℕ) (cs : List Raw) → length (each (λ c. c.words) cs) ≤ M → Every (λ (c : Raw). length c.words ≤ M) cs
unfolding Every
words_few M [] h = tt
words_few M (c ∷ cs) h =
    let e = length-append c.words (each (λ c. c.words) cs) in
    (omega arith, words_few M cs (omega arith))

-- an accepted model's rings have under 2^32 nodes
pub rings_short : (m : Model) → Accepts m → Every (λ (f : Face). length f.ring < 4294967296) (faces_in m)
unfolding faces_in numbered
rings_short m h =
    let w : length (each (λ (c : Raw). c.words) (cells_of m)) ≤ word_limit = omega (arith, ap length (cells_words m h), ltb-false word_limit (length m.words) h.words) in
    every_map_parts Short (λ (f : Face). f.ring) (faces_in m)
    (rw (rings_numbered 0 0 (cells_of m))
    (every_each (λ (c : Raw). length c.words ≤ word_limit) Short rings_of (λ c u. every_imp (Upto (length c.words + 4)) Short (λ r v. omega arith) (rings_of c) (ring_lengths c)) (cells_of m)
    (words_few word_limit (cells_of m) w)))
  where
    Short : List ℕ → Type 0
    Short r = length r < 4294967296

-- ---- the nodes of repeated pairs

-- both nodes are below n
abbrev pub Low : ℕ → ℕ × ℕ → Type 0
Low n p = (p.0 < n) × (p.1 < n)

-- two nodes below n, the smaller first
low_pair : (n x p : ℕ) → x < n → p < n → Low n (pair_of x p)
low_pair n x p h k = go (ltb x p)
  where
    go : (b : Bool) → Low n (cond b (x, p) (p, x))
    go true = (h, k)
    go false = (k, h)

-- a node with one before it
low_at : (n : ℕ) (weld : ℕ → ℕ) (before : List ℕ) (x : ℕ) → Every (λ w. w < n) before → x < n → Every (Low n) (repeat_at weld before x)
low_at n weld before x h k =
    let same : (ℕ → Bool) = λ p. eqb (weld p) (weld x) in
    let other : (ℕ → Bool) = λ p. not (eqb p x) in
    every_map_in (λ w. w < n) (Low n) (pair_of x) (λ p u. low_pair n x p k u) (keep other (last (keep same before)))
    (every_keep (λ w. w < n) other (last (keep same before)) (every_last (λ w. w < n) (keep same before) (every_keep (λ w. w < n) same before h)))

-- either of two lists
every_cond {ℓ κ} : {A : Type ℓ} (P : A → Type κ) (b : Bool) (l m : List A) → Every P l → Every P m → Every P (cond b l m)
every_cond P true l m h k = h
every_cond P false l m h k = k

module _ {ℓ κ} {A : Type ℓ} (le : A → A → Bool) (P : A → Type κ) where
  -- an element put in its place
  every_add : (x : A) (l : List A) → P x → Every P l → Every P (add le x l)
  unfolding Every
  every_add x [] u h = (u, tt)
  every_add x (y ∷ l) u h =
      every_cond P (le x y) (cond (le y x) (y ∷ l) (x ∷ y ∷ l)) (y ∷ add le x l) (every_cond P (le y x) (y ∷ l) (x ∷ y ∷ l) h (u, h)) (h.0, every_add x l u h.1)

  -- each once
  every_distinct : (l : List A) → Every P l → Every P (distinct le l)
  unfolding Every
  every_distinct [] h = tt
  every_distinct (x ∷ l) h = every_add x (distinct le l) h.0 (every_distinct l h.1)

-- numbers below n
every_below : (n : ℕ) (l : List ℕ) → AllBelow n l → Every (λ w. w < n) l
unfolding Every
every_below n [] b = tt
every_below n (w ∷ l) b = (b.0, every_below n l b.1)

-- the repeated pairs of words whose nodes are below n
pub repeats_low : (n k : ℕ) (weld : ℕ → ℕ) (ws : List ℕ) → any (node_off n k) ws ≡ false → Every (Low n) (repeats_of weld ws)
unfolding repeats_of Every
repeats_low n k weld ws e =
    let l = nodes_in ws in
    let all = every_below n l (named_low n k ws e) in
    every_distinct pair_le (Low n) (walk (λ before x after. repeat_at weld before x) [] l)
    (every_walk_in (Low n) (λ before x after. repeat_at weld before x) l (λ a x b q. let r = every_parts (λ w. w < n) a (x ∷ b) (rw q all) in low_at n weld a x r.0 r.1.0) [] l refl)

-- no cell is wrong
pub cells_nodes : (n : ℕ) (cs : List Raw) → any (cell_wrong n) cs ≡ false → Every (λ c. any (node_off n c.kind) c.words ≡ false) cs
unfolding Every
cells_nodes n [] e = tt
cells_nodes n (c ∷ cs) e =
    let q = or_parts (cell_wrong n c) (any (cell_wrong n) cs) e in
    (right_words n c q.0, cells_nodes n cs q.1)
