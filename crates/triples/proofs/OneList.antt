-- The list of a key in an index: where it stands, and that it is the list of its faces.
use Prim.Native.Nat.{ℕ, suc, ◌+◌, ◌-◌, ◌≤◌, ◌<◌}
use mathlib.Core.Path.{◌≡◌, sym, ap, ap₂, ◌∙◌}
use mathlib.Core.Bool.{true}
use mathlib.Core.List.{List}
use native.Mathlib.Omega.{arith}
use borrow.Author.Tests.{ltb-true}
use lib.Dec.{leb, ltb}
use lib.ListN.{length, get_or, take}
use lib.Seq.{length-take-le}
use Rattle.laws.specs.Lists.{keep, up_from, elem}
use Rattle.laws.specs.Merging.{region}
use Rattle.std.proofs.lemmas.Bool.{and_parts}
use Rattle.laws.proofs.Stores.{get_or-region, length-region}
use Rattle.laws.proofs.Ascending.{elem-keep, elem-up_from}
use Rattle.counting.specs.Counts.{times, below}
use Rattle.counting.proofs.CountLaws.{below_suc}
use Rattle.index.specs.declared.Places.{Places}
use Rattle.index.specs.declared.by_node.Index.{Index}
use Rattle.index.specs.Read.{input_of}
use Rattle.index.specs.Faces.{input, base, nodes_of, words_of, faces_with}
use Rattle.merge.specs.Runs.{rest}
use Rattle.ascending.proofs.Adding.{get_or_in}
use Rattle.seek.specs.Candidates.{shares}
use Rattle.index.proofs.Read.{of_index, below_words}
use Rattle.triples.specs.Hits.{hits_by, Beside}

-- an index that is read below `found` of another stands in what that one reads
pub second : (p : Places) {q : Places} (i : Index) (w : List ℕ) → q.found ≡ p.found → (i.base.now ≡ base q w) × (i.at ≡ q) → (i.base.now ≡ base p w) × (i.at ≡ q)
second p i w same e = (e.0 ∙ ap (λ (k : ℕ). take k w) same, e.1)

-- so do the ends of a key's list
pub ends_in : (p : Places) {q : Places} (i : Index) (w : List ℕ) (m : ℕ) {x e : ℕ} → q.found ≡ p.found → (i.base.now ≡ base q w) × (i.at ≡ q)
    → (x ≡ i.at.index + below m (words_of i.at (input_of i))) × (e ≡ x + times m (words_of i.at (input_of i)))
    → (x ≡ q.index + below m (words_of q (input q (base p w)))) × (e ≡ x + times m (words_of q (input q (base p w))))
ends_in p i w m {x = x} {e = e} same is h =
    of_index i (λ (r : Places) (b : List ℕ). (x ≡ r.index + below m (words_of r (input r b))) × (e ≡ x + times m (words_of r (input r b)))) (second p i w same is) h

module _ (p q : Places) (w : List ℕ) (room : p.found ≤ length w) (s : Beside p q (base p w)) (m : ℕ) (low : m < q.nodes) (x e : ℕ)
    (is_x : x ≡ q.index + below m (words_of q (input q (base p w)))) (is_e : e ≡ x + times m (words_of q (input q (base p w)))) where
  abbrev B : List ℕ
  B = base p w

  abbrev t : List ℕ
  t = input q B

  abbrev S : List ℕ
  S = words_of q t

  -- what is read is whole
  pub long : length B ≡ p.found
  long = length-take-le p.found w room

  -- it lies below `found`
  pub within : (x ≤ e) × (e ≤ p.found)
  within = omega (arith, is_x, is_e, below_suc m S, below_words q B s.indexed (suc m), s.indexed.whole, long)

  -- it is the list of m
  pub the_list : rest x e B ≡ faces_with q t m
  the_list =
      let d : e - x ≡ times m S = omega (arith, is_e) in
      ap₂ (λ (i k : ℕ). region i k B) is_x d ∙ s.indexed.part m low

  -- of faces
  pub all_faces : (i : ℕ) → x ≤ i → i < e → get_or B i 0 < p.faces
  unfolding faces_with
  all_faces i a b =
      let l : List ℕ = faces_with q t m in
      let j : ℕ = i - x in
      let k : j < length l = omega (arith, ap length (sym the_list) ∙ length-region x (e - x) B (omega (arith, within, long))) in
      let v : get_or B i 0 ≡ get_or l j 0 = let n : i ≡ x + j = omega arith in ap (λ (r : ℕ). get_or B r 0) n ∙ sym (get_or-region x (e - x) B j 0 (omega arith)) ∙ ap (λ (r : List ℕ). get_or r j 0) the_list in
      let u : elem (get_or l j 0) (up_from 0 q.faces) ≡ true = (and_parts (elem m (nodes_of q t (get_or l j 0))) (elem (get_or l j 0) (up_from 0 q.faces)) (sym (elem-keep (get_or l j 0) (λ g. elem m (nodes_of q t g)) (up_from 0 q.faces)) ∙ get_or_in l j k)).1 in
      omega (arith, v, s.faces, ltb-true (get_or l j 0) (0 + q.faces) (and_parts (leb 0 (get_or l j 0)) (ltb (get_or l j 0) (0 + q.faces)) (sym (elem-up_from (get_or l j 0) 0 q.faces) ∙ u)).1)

  -- so its candidates are those that have the key
  pub the_hits : (lo : ℕ) → keep (shares p (input p B) lo) (rest x e B) ≡ hits_by p q B lo m
  unfolding hits_by
  the_hits lo = ap (keep (shares p (input p B) lo)) the_list
