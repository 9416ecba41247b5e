-- The faces whose node sets are still to be put: before the first, one face less, and after the last.
use Prim.Native.Nat.{ℕ, ◌+◌, ◌-◌, ◌≤◌, ◌<◌}
use mathlib.Core.Path.{◌≡◌, sym, ap, ap₂, ◌∙◌}
use mathlib.Core.List.{List}
use native.Mathlib.Numerals.{add-one}
use native.Mathlib.Omega.{arith}
use lib.ListN.{length, get_or, set, length-append}
use lib.Seq.{sets}
use Rattle.laws.specs.Merging.{starts_of}
use Rattle.laws.proofs.Stores.{sets_append}
use Rattle.laws.proofs.Rows.{joined}
use Rattle.mesh.specs.Rings.{node_set}
use Rattle.layout.specs.declared.Layout.{Layout}
use Rattle.layout.specs.Tables.{ring_row, Ringed}
use Rattle.node_sets.specs.Sets.{sets_from}
use Rattle.node_sets.proofs.Putting.{sets_next}

-- the node sets of the faces from g on
abbrev remaining : Layout → List ℕ → ℕ → List (List ℕ)
remaining l t g = sets_from l t g (l.at.faces - g)

-- all node sets
abbrev pub all : Layout → List ℕ → List (List ℕ)
all l t = sets_from l t 0 l.at.faces

-- the sets of the faces before g stand in y, with k words, and their starts in x; the others, put behind them, make all
pub record Left (l : Layout) (t a b : List ℕ) (g k : ℕ) (x y : List ℕ) : Type 0 where
  pub start : k ≤ get_or t (l.rows + g) 0
  pub count : k + length (joined (remaining l t g)) ≡ length (joined (all l t))
  pub starts_put : sets x g (starts_of k (remaining l t g)) ≡ sets a 0 (starts_of 0 (all l t))
  pub put : sets y k (joined (remaining l t g)) ≡ sets b 0 (joined (all l t))

-- before the first face
pub left_all : (l : Layout) (t a b : List ℕ) → Left l t a b 0 0 a b
left_all l t a b =
    let n : l.at.faces - 0 ≡ l.at.faces = omega arith in
    let e : remaining l t 0 ≡ all l t = ap (sets_from l t 0) n in
    record {
      start = omega arith;
      count = omega (arith, ap (λ (S : List (List ℕ)). length (joined S)) e);
      starts_put = ap (λ (S : List (List ℕ)). sets a 0 (starts_of 0 S)) e;
      put = ap (λ (S : List (List ℕ)). sets b 0 (joined S)) e;
    }

module _ (l : Layout) (t a b x y : List ℕ) (g k : ℕ) (i : Left l t a b g k x y) where
  -- one face less
  pub left_next : (r : ℕ) (y' : List ℕ) → g < l.at.faces → r ≡ k + length (node_set (ring_row l t g)) → r ≤ get_or t (l.rows + (g + 1)) 0
      → y' ≡ sets y k (node_set (ring_row l t g)) → Left l t a b (g + 1) r (set x g k) y'
  left_next r y' h is most put =
      let s = node_set (ring_row l t g) in
      let S = remaining l t (g + 1) in
      let next = sets_next l t l.at.faces g h in
      record {
        start = most;
        count = omega (arith, is, i.count, ap (λ (R : List (List ℕ)). length (joined R)) next ∙ length-append s (joined S));
        starts_put =
            ap₂ (λ (j n : ℕ). sets (set x g k) j (starts_of n S)) (add-one g) is
            ∙ ap (λ (R : List (List ℕ)). sets x g (starts_of k R)) (sym next) ∙ i.starts_put;
        put =
            ap₂ (λ (v : List ℕ) (n : ℕ). sets v n (joined S)) put is
            ∙ sym (sets_append y k s (joined S)) ∙ ap (λ (R : List (List ℕ)). sets y k (joined R)) (sym next) ∙ i.put;
      }

-- after the last face
module _ (l : Layout) (t a b x y : List ℕ) (k : ℕ) (f : Ringed l t) (i : Left l t a b l.at.faces k x y) where
  none : remaining l t l.at.faces ≡ sets_from l t l.at.faces 0
  none = let z : l.at.faces - l.at.faces ≡ 0 = omega arith in ap (sets_from l t l.at.faces) z

  -- so many words stand there
  pub done_count : k ≡ length (joined (all l t))
  done_count = omega (arith, i.count, ap (λ (S : List (List ℕ)). length (joined S)) none)

  pub done_most : k ≤ l.total
  done_most = omega (arith, i.start, f.row_last)

  -- with where the last ends, all is put
  pub done_starts : set x l.at.faces k ≡ sets a 0 (starts_of 0 (all l t))
  done_starts = sym (ap (λ (S : List (List ℕ)). sets x l.at.faces (starts_of k S)) none) ∙ i.starts_put

  pub done_put : y ≡ sets b 0 (joined (all l t))
  done_put = sym (ap (λ (S : List (List ℕ)). sets y k (joined S)) none) ∙ i.put
