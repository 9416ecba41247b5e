-- What stands in an index, read.
use Prim.Native.Nat.{ℕ, suc, ◌+◌, ◌-◌, ◌≤◌, ◌<◌}
use mathlib.Core.Path.{◌≡◌, sym, ap, ◌∙◌, subst}
use mathlib.Core.List.{List}
use native.Mathlib.Omega.{arith}
use lib.ListN.{length, get_or}
use lib.Seq.{get_or-take}
use Rattle.laws.specs.Merging.{region}
use Rattle.laws.proofs.Stores.{region-take}
use Rattle.counting.specs.Counts.{times, below}
use Rattle.counting.proofs.CountLaws.{below_length, below_suc}
use Rattle.index.specs.declared.Places.{Places}
use Rattle.index.specs.declared.by_node.Index.{Index}
use Rattle.index.specs.Faces.{input, cell_of, start_of, nodes_of, words_of, Indexed}
use Rattle.index.proofs.Entries.{read_start, start_le, words_long, nodes_long, node_at}

-- what holds of an index of p and b holds of p and b
pub of_index : {p : Places} {b : List ℕ} (i : Index) (P : Places → List ℕ → Type 0) → (i.base.now ≡ b) × (i.at ≡ p) → P i.at i.base.now → P p b
of_index {b = b} i P e h = subst (λ (q : Places). P q b) e.1 (subst (P i.at) e.0 h)

-- and the other way round
pub to_index : {p : Places} {b : List ℕ} (i : Index) (P : Places → List ℕ → Type 0) → (i.base.now ≡ b) × (i.at ≡ p) → P p b → P i.at i.base.now
to_index {b = b} i P e h = subst (P i.at) (sym e.0) (subst (λ (q : Places). P q b) (sym e.1) h)

module _ (p : Places) (b : List ℕ) (ix : Indexed p b) where
  abbrev pub t : List ℕ
  t = input p b

  abbrev pub S : List ℕ
  S = words_of p t

  -- a face's cell, read
  pub read_cell : (g : ℕ) → g < p.faces → get_or b (p.cells + g) 0 ≡ cell_of p t g
  read_cell g h = sym (get_or-take p.offsets b (p.cells + g) 0 (omega (arith, ix.laid.cells_at)))

  -- the word that tells whether its cell is a bow-tie lies within the slice
  pub bow_fits : (g : ℕ) → g < p.faces → p.bows + get_or b (p.cells + g) 0 < length b
  bow_fits g h = omega (arith, read_cell g h, ix.laid.celled g h, ix.laid.bows_at, ix.index_at, ix.whole)

  -- and is read
  pub read_bow : (g : ℕ) → g < p.faces → get_or b (p.bows + get_or b (p.cells + g) 0) 0 ≡ get_or t (p.bows + cell_of p t g) 0
  read_bow g h =
      ap (λ (c : ℕ). get_or b (p.bows + c) 0) (read_cell g h)
      ∙ sym (get_or-take p.offsets b (p.bows + cell_of p t g) 0 (omega (arith, ix.laid.celled g h, ix.laid.bows_at)))

  -- a node of a set, read
  pub read_node : (g i : ℕ) → g < p.faces → i < length (nodes_of p t g) → get_or b (p.sets + start_of p t g + i) 0 ≡ get_or (nodes_of p t g) i 0
  read_node g i h k =
      let e : p.sets + start_of p t g + i ≡ p.sets + (start_of p t g + i) = omega arith in
      let l : p.sets + (start_of p t g + i) < p.offsets = omega (arith, nodes_long p t ix.laid g h, ix.laid.rising g h, start_le p t ix.laid (g + 1) (omega arith), ix.laid.offsets_at) in
      ap (λ (j : ℕ). get_or b j 0) e ∙ sym (get_or-take p.offsets b (p.sets + (start_of p t g + i)) 0 l) ∙ sym (node_at p t ix.laid g i h k)

  -- it is a node
  pub node_low : (g i : ℕ) → g < p.faces → i < length (nodes_of p t g) → get_or (nodes_of p t g) i 0 < p.nodes
  node_low g i h k =
      let s : start_of p t g + i < p.words = omega (arith, nodes_long p t ix.laid g h, ix.laid.rising g h, start_le p t ix.laid (g + 1) (omega arith)) in
      omega (arith, node_at p t ix.laid g i h k, ix.laid.known (start_of p t g + i) s)

  -- an offset is at most all words
  pub below_words : (n : ℕ) → below n S ≤ p.words
  below_words n = omega (arith, below_length n S, words_long p t ix.laid)

  -- the index lies within the slice
  pub long : p.offsets + (p.nodes + 2) + p.words ≤ length b
  long = omega (arith, ix.index_at, ix.whole)

  -- a node set lies within the slice
  pub set-fits : (g : ℕ) → g < p.faces → p.sets + start_of p t g + length (nodes_of p t g) ≤ length b
  set-fits g h = omega (arith, nodes_long p t ix.laid g h, ix.laid.rising g h, start_le p t ix.laid (g + 1) (omega arith), ix.laid.offsets_at, long)

  -- and stands at its place
  pub set_there : (g : ℕ) → g < p.faces → region (p.sets + start_of p t g) (length (nodes_of p t g)) b ≡ nodes_of p t g
  unfolding nodes_of
  set_there g h =
      ap (λ (k : ℕ). region (p.sets + start_of p t g) k b) (nodes_long p t ix.laid g h)
      ∙ sym (region-take (p.sets + start_of p t g) (start_of p t (g + 1) - start_of p t g) p.offsets b
      (omega (arith, ix.laid.rising g h, start_le p t ix.laid (g + 1) (omega arith), ix.laid.offsets_at)))

  -- the length of a node set, as two starts give it
  pub set_long : (g : ℕ) → g < p.faces → get_or b (p.starts + g + 1) 0 - get_or b (p.starts + g) 0 ≡ length (nodes_of p t g)
  set_long g h =
      let j : p.starts + g + 1 ≡ p.starts + (g + 1) = omega arith in
      let next : get_or b (p.starts + g + 1) 0 ≡ start_of p t (g + 1) = ap (λ (k : ℕ). get_or b k 0) j ∙ read_start p b ix.laid (g + 1) (omega arith) in
      omega (arith, read_start p b ix.laid g (omega arith), nodes_long p t ix.laid g h)

  -- the length of a node's list, as two offsets give it: they rise
  pub list_long : (v : ℕ) → v < p.nodes
      → (get_or b (p.offsets + v) 0 ≤ get_or b (p.offsets + v + 1) 0) × (get_or b (p.offsets + v + 1) 0 - get_or b (p.offsets + v) 0 ≡ times v S)
  list_long v h =
      let j : p.offsets + v + 1 ≡ p.offsets + suc v = omega arith in
      let next : get_or b (p.offsets + v + 1) 0 ≡ below v S + times v S = ap (λ (k : ℕ). get_or b k 0) j ∙ ix.offset (suc v) (omega arith) ∙ below_suc v S in
      omega (arith, ix.offset v (omega arith))
