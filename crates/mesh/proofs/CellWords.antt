-- The words of an accepted model's cells: they are its words, and those that are no separators are nodes.
use Prim.Native.Nat.{ℕ, suc, ◌+◌, ◌-◌, ◌*◌, ◌%◌, ◌≤◌, ◌<◌}
use mathlib.Core.Path.{◌≡◌, refl, sym, ap, ◌∙◌, subst}
use mathlib.Core.Logic.{◌⊎◌, inl, inr}
use mathlib.Core.Bool.{Bool, true, false, not, ◌&&◌, ◌||◌, and-true}
use mathlib.Core.List.{List, [], ◌∷◌, ◌++◌}
use native.Mathlib.Omega.{arith}
use borrow.Author.Tests.{leb-false, ltb-false, eqb-true, not-false}
use lib.Dec.{leb, ltb, eqb}
use lib.ListN.{length, take, drop, length-drop, take-append-drop}
use Rattle.laws.specs.Limits.{node_limit}
use Rattle.laws.specs.Lists.{any, each}
use Rattle.laws.specs.Merging.{AllBelow}
use Rattle.laws.proofs.Bounds.{below_append}
use Rattle.laws.proofs.ListLaws.{keep_append}
use Rattle.std.proofs.lemmas.Bool.{cases_Bool, or_parts}
use Rattle.geometry.specs.Coordinates.{node_count}
use Rattle.mesh.specs.Model.{Model, Raw, PHED, cells_from, cells_of}
use Rattle.mesh.specs.Rings.{separator, nodes_in}
use Rattle.mesh.specs.Acceptance.{ends_off, count_wrong, node_off}
use Rattle.mesh.proofs.Ends.{ends_most}
use Rattle.mesh.proofs.Accepts.{cell_wrong, Accepts}

-- ---- the words are those of the cells

-- the words of cells read are the words
round_words : (at : ℕ) (ks es ws : List ℕ) → length ks ≡ length es → ends_off at es (at + length ws) ≡ false → each (λ c. c.words) (cells_from at ks es ws) ≡ ws
round_words at [] [] [] l h = refl
round_words at [] [] (w ∷ ws) l h = absurd (omega (arith, eqb-true at (at + suc (length ws)) (not-false (eqb at (at + suc (length ws))) h)))
round_words at [] (e ∷ es) ws l h = absurd (omega arith)
round_words at (k ∷ ks) [] ws l h = absurd (omega arith)
round_words at (k ∷ ks) (e ∷ es) ws l h =
    let p = or_parts (ltb e at) (ends_off e es (at + length ws)) h in
    let n : at + length ws ≡ e + length (drop (e - at) ws) =
    omega (arith, length-drop (e - at) ws, ltb-false e at p.0, ends_most e es (at + length ws) p.1) in
    ap (λ (r : List ℕ). take (e - at) ws ++ r) (round_words e ks es (drop (e - at) ws) (omega arith) (ap (ends_off e es) (sym n) ∙ p.1))
    ∙ take-append-drop (e - at) ws

-- from the first word on
pub all_words : (ks es ws : List ℕ) → length ks ≡ length es → ends_off 0 es (length ws) ≡ false → each (λ c. c.words) (cells_from 0 ks es ws) ≡ ws
all_words ks es ws l h =
    let n : length ws ≡ 0 + length ws = omega arith in
    round_words 0 ks es ws l (ap (ends_off 0 es) (sym n) ∙ h)

-- there are as many cells as kinds
pub count_cells : (at : ℕ) (ks es ws : List ℕ) → length ks ≡ length es → length (cells_from at ks es ws) ≡ length ks
count_cells at [] es ws l = refl
count_cells at (k ∷ ks) [] ws l = absurd (omega arith)
count_cells at (k ∷ ks) (e ∷ es) ws l = ap suc (count_cells e ks es (drop (e - at) ws) (omega arith))

-- an accepted model has as many cells as kinds
pub cells_count : (m : Model) → Accepts m → length (cells_of m) ≡ length m.kinds
unfolding cells_of
cells_count m h = count_cells 0 m.kinds m.ends m.words h.paired

-- and its cells' words are its words
pub cells_words : (m : Model) → Accepts m → each (λ c. c.words) (cells_of m) ≡ m.words
unfolding cells_of
cells_words m h = all_words m.kinds m.ends m.words h.paired h.ends

-- ---- words that are nodes

-- a word that is not off, and no separator, is a node
word_low : (n k w : ℕ) → node_off n k w ≡ false → eqb w separator ≡ false → w < n
word_low n k w e s = leb-false n w (go (eqb k PHED) e)
  where
    go : (b : Bool) → (leb n w && not (b && eqb w separator)) ≡ false → leb n w ≡ false
    go true q = sym (and-true (leb n w)) ∙ (rw s at q)
    go false q = sym (and-true (leb n w)) ∙ q

-- so are all that words name, where none is off
pub named_low : (n k : ℕ) (ws : List ℕ) → any (node_off n k) ws ≡ false → AllBelow n (nodes_in ws)
named_low n k [] e = tt
named_low n k (w ∷ ws) e = let p = or_parts (node_off n k w) (any (node_off n k) ws) e in go (named_low n k ws p.1) p.0 (cases_Bool (eqb w separator))
  where
    go : AllBelow n (nodes_in ws) → node_off n k w ≡ false → (eqb w separator ≡ true) ⊎ (eqb w separator ≡ false) → AllBelow n (nodes_in (w ∷ ws))
    go h p (inl t) = rw t h
    go h p (inr t) = rw t (word_low n k w p t, h)

-- a cell that is not wrong has no word that is off
pub right_words : (n : ℕ) (c : Raw) → cell_wrong n c ≡ false → any (node_off n c.kind) c.words ≡ false
unfolding cell_wrong
right_words n c e =
    let p = or_parts (eqb c.kind 0 || ltb PHED c.kind) (count_wrong c || any (node_off n c.kind) c.words) e in
    (or_parts (count_wrong c) (any (node_off n c.kind) c.words) p.1).1

-- the words of cells that are not wrong
cells_low : (n : ℕ) (cs : List Raw) → any (cell_wrong n) cs ≡ false → AllBelow n (nodes_in (each (λ c. c.words) cs))
cells_low n [] e = tt
cells_low n (c ∷ cs) e =
    let p = or_parts (cell_wrong n c) (any (cell_wrong n) cs) e in
    subst (AllBelow n) (sym (keep_append (λ w. not (eqb w separator)) c.words (each (λ c. c.words) cs)))
    (below_append n (nodes_in c.words) (nodes_in (each (λ c. c.words) cs)) (named_low n c.kind c.words (right_words n c p.0)) (cells_low n cs p.1))

-- an accepted model's words name nodes
pub words_low : (m : Model) → Accepts m → AllBelow (node_count m.coords) (nodes_in m.words)
words_low m h = subst (λ (ws : List ℕ). AllBelow (node_count m.coords) (nodes_in ws)) (cells_words m h) (cells_low (node_count m.coords) (cells_of m) h.right)

-- and there are few of them
pub few_nodes : (m : Model) → Accepts m → node_count m.coords ≤ node_limit
few_nodes m h =
    let p = or_parts (ltb (3 * node_limit) (length m.coords)) (not (eqb (length m.coords % 3) 0)) h.coordinates in
    omega (arith, ltb-false (3 * node_limit) (length m.coords) p.0)
