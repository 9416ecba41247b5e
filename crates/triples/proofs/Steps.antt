-- Keys walked in several steps.
use Prim.Native.Nat.{ℕ, ◌≤◌, ◌<◌}
use mathlib.Core.Path.{◌≡◌, sym, ap, ◌∙◌, subst}
use mathlib.Core.List.{List, ◌++◌}
use native.Mathlib.Omega.{arith}
use lib.ListN.{get_or}
use Rattle.laws.specs.Lists.{each}
use Rattle.index.specs.declared.Places.{Places}
use Rattle.index.specs.Faces.{base}
use Rattle.merge.specs.Runs.{rest}
use Rattle.seek.proofs.Searching.{base_same}
use Rattle.triples.specs.Hits.{hits_by, add_all, listed, Open, Added, Beside, Known}
use Rattle.triples.proofs.Adds.{Faces, open_next, added_more}
use Rattle.triples.proofs.Turns.{faces_each, faces_hits}

-- a part of keys
pub known_part : (q : Places) (b c : List ℕ) (s e s' e' : ℕ) → b ≡ c → s ≤ s' → e' ≤ e → Known q c s e → Known q b s' e'
known_part q b c s e s' e' same x y k i h l = subst (λ (r : List ℕ). get_or r i 0 < q.nodes) (sym same) (k i (omega arith) (omega arith))

module _ (p q : Places) (lo n : ℕ) (w : List ℕ) (op : Open p lo n w) (bs : Beside p q (base p w)) (s e r : ℕ) (v : List ℕ)
    (a : Added p (each (hits_by p q (base p w) lo) (rest s e (base p w))) n w r v) where
  -- all that is added are faces
  all : Faces p (each (hits_by p q (base p w) lo) (rest s e (base p w)))
  all = faces_each p (hits_by p q (base p w) lo) (λ x. faces_hits p q (base p w) lo x bs.faces) (rest s e (base p w))

  -- more can be added
  pub step_open : Open p lo r v
  step_open = open_next p lo n w op (each (hits_by p q (base p w) lo) (rest s e (base p w))) all r v a

  -- what is read stays
  pub step_base : base p v ≡ base p w
  step_base = ap (base p) a.filled ∙ base_same p w (add_all (each (hits_by p q (base p w) lo) (rest s e (base p w))) (listed p n w))

  -- so does the other index
  pub step_beside : (o : Places) → Beside p o (base p w) → Beside p o (base p v)
  step_beside o b = subst (Beside p o) (sym step_base) b

  -- two steps make one
  pub step_more : (ys : List ℕ) (r' : ℕ) (u : List ℕ) → Added p ys r v r' u → Added p (each (hits_by p q (base p w) lo) (rest s e (base p w)) ++ ys) n w r' u
  step_more ys r' u b = added_more p lo n w op (each (hits_by p q (base p w) lo) (rest s e (base p w))) all r v a ys r' u b

  -- the next keys, read where they stood
  pub step_keys : (o : Places) (i j r' : ℕ) (u : List ℕ) → Added p (each (hits_by p o (base p v) lo) (rest i j (base p v))) r v r' u
      → Added p (each (hits_by p o (base p w) lo) (rest i j (base p w))) r v r' u
  step_keys o i j r' u b = subst (λ (x : List ℕ). Added p (each (hits_by p o x lo) (rest i j x)) r v r' u) step_base b
