-- The nodes of a face, read one by one.
use Prim.Native.Nat.{ℕ, ◌+◌, ◌-◌, ◌<◌}
use mathlib.Core.Path.{◌≡◌, ◌∙◌, subst}
use mathlib.Core.Bool.{true}
use mathlib.Core.List.{List}
use native.Mathlib.Omega.{arith}
use lib.ListN.{length, get_or, take, drop, length-take}
use lib.Seq.{get_or-take, get_or-drop}
use Rattle.laws.specs.Lists.{elem}
use Rattle.index.specs.declared.Places.{Places}
use Rattle.index.specs.Faces.{input, nodes_of, Indexed}
use Rattle.ascending.proofs.Adding.{get_or_in}
use Rattle.index.proofs.Read.{node_low}
use Rattle.seek.proofs.Merging.{all_of}

module _ (p : Places) (b : List ℕ) (ix : Indexed p b) (g : ℕ) (h : g < p.faces) where
  -- the tables
  abbrev t : List ℕ
  t = input p b

  -- a member of a face's node set is a node
  pub member_low : (v : ℕ) → elem v (nodes_of p t g) ≡ true → v < p.nodes
  member_low v e = all_of (λ n. n < p.nodes) (nodes_of p t g) (λ i k. node_low p b ix g i h k) v e

  -- and so is the word at each place of a list that is the set
  pub word_member : (l : List ℕ) → l ≡ nodes_of p t g → (i : ℕ) → i < length l → elem (get_or l i 0) (nodes_of p t g) ≡ true
  word_member l e i k = subst (λ (r : List ℕ). elem (get_or l i 0) r ≡ true) e (get_or_in l i k)

  -- also behind the first
  pub later_member : (l : List ℕ) → l ≡ nodes_of p t g → (i : ℕ) → i < length (take (length l - 1) (drop 1 l)) → elem (get_or (take (length l - 1) (drop 1 l)) i 0) (nodes_of p t g) ≡ true
  later_member l e i k =
      let n : i < length l - 1 = omega (arith, length-take (length l - 1) (drop 1 l)) in
      rw (get_or-take (length l - 1) (drop 1 l) i 0 n ∙ get_or-drop 1 l i 0) (word_member l e (1 + i) (omega arith))
