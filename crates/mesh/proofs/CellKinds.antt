-- A cell by its kind: its word count and its rings; and what is judged of it.
use Prim.Native.Nat.{ℕ, ◌≤◌}
use Rattle.std.specs.Prelude.{Option, None, is_none, IfSome}
use Rattle.std.proofs.lemmas.Option.{IfSome_then}
use mathlib.Core.Path.{◌≡◌, refl, sym, ◌∙◌, subst}
use mathlib.Core.Logic.{◌≢◌, ◌⊎◌, inl, inr}
use mathlib.Core.Bool.{Bool, true, false, not, ◌&&◌, ◌||◌, false≢true}
use mathlib.Core.List.{List, [], ◌∷◌}
use native.Mathlib.Omega.{arith}
use borrow.Author.Tests.{ltb-false, eqb-true, eqb-false}
use lib.Dec.{leb, ltb, eqb}
use lib.ListN.{length}
use Rattle.laws.specs.Lists.{any}
use Rattle.laws.specs.Refusals.{refusal}
use Rattle.laws.proofs.Tests.{clash}
use Rattle.std.proofs.lemmas.Bool.{cases_Bool, or_parts}
use Rattle.mesh.specs.Model.{Raw, TET4, PHED}
use Rattle.mesh.specs.Rings.{rings_of}
use Rattle.mesh.specs.Acceptance.{kind_off, count_wrong, node_off, cell_table}
use Rattle.mesh.specs.Steps.{ring_total, cell_with, RunsCounted, KindCounted}
use Rattle.mesh.specs.declared.CellTally.{CellTally}

-- ---- counts

-- a cell of a kind that has so many words, faces and ring words
pub fixed : (c : Raw) (wanted f w : ℕ) (r : Option CellTally) → count_wrong c ≡ not (eqb (length c.words) wanted) → length (rings_of c) ≡ f → ring_total (rings_of c) ≡ w → f ≤ 6 → w ≤ 24
    → is_none r ≡ not (eqb (length c.words) wanted) → IfSome r (λ t. (t.faces ≡ f) × (t.words ≡ w)) → KindCounted c r
fixed c wanted f w r o a b h k n t = record {
  off = n ∙ sym o;
  tallied =
      IfSome_then r t
      (λ x e. record { faces = e.0 ∙ sym a; words = e.1 ∙ sym b; few = omega (arith, e.0); small = omega (arith, e.1) });
}

-- a PHED that has words
pub polyhedron : (ws : List ℕ) (r : Option CellTally) → eqb (length ws) 0 ≡ false → RunsCounted ws r → KindCounted (cell_with 4 ws) r
unfolding rings_of
polyhedron ws r e h = record {
  off = rw e h.long;
  tallied = IfSome_then r h.tallied (λ x t. record { faces = t.faces; words = t.words; few = omega (arith, t.few); small = omega (arith, t.small) });
}

-- and one that has none
pub no_words : (ws : List ℕ) → eqb (length ws) 0 ≡ true → KindCounted (cell_with 4 ws) None
no_words ws e = record { off = rw e; tallied = tt }

-- a kind that is none of the others
pub the_fourth : (k : ℕ) → kind_off 0 k ≡ false → k ≢ 1 → k ≢ 2 → k ≢ 3 → k ≡ 4
the_fourth k h a b c =
    let p = or_parts (ltb k 0 || eqb k 0) (ltb 4 k) h in
    let q = or_parts (ltb k 0) (eqb k 0) p.0 in
    omega (arith, eqb-false k 0 q.1, ltb-false 4 k p.1)

-- ---- judgements

-- 9 for a wrong kind
pub judged_kind : (n before : ℕ) (c : Raw) → kind_off before c.kind ≡ true → refusal (cell_table n before c) ≡ 9
unfolding cell_table
judged_kind n before c e = rw e

pub judged_count : (n before : ℕ) (c : Raw) → kind_off before c.kind ≡ false → count_wrong c ≡ true → refusal (cell_table n before c) ≡ 9
unfolding cell_table
judged_count n before c e f = rw (e, f)

pub judged_nodes : (n before : ℕ) (c : Raw) → kind_off before c.kind ≡ false → count_wrong c ≡ false → any (node_off n c.kind) c.words ≡ true → refusal (cell_table n before c) ≡ 9
unfolding cell_table
judged_nodes n before c e f g = rw (e, f, g)

pub judged_well_lem : (n before : ℕ) (c : Raw) → kind_off before c.kind ≡ false → count_wrong c ≡ false → any (node_off n c.kind) c.words ≡ false → refusal (cell_table n before c) ≡ 0
unfolding cell_table
judged_well_lem n before c e f g = rw (e, f, g)

-- ---- words judged all at once

-- words that are all nodes of a tetrahedron are so of any kind
pub any_kind : (n k : ℕ) (ws : List ℕ) → any (node_off n TET4) ws ≡ false → any (node_off n k) ws ≡ false
any_kind n k [] e = refl
any_kind n k (w ∷ ws) e =
    let s = or_parts (node_off n TET4 w) (any (node_off n TET4) ws) e in
    go (cases_Bool (leb n w)) s.0 (any_kind n k ws s.1)
  where
    go : (leb n w ≡ true) ⊎ (leb n w ≡ false) → node_off n TET4 w ≡ false → any (node_off n k) ws ≡ false → any (node_off n k) (w ∷ ws) ≡ false
    go (inl a) f h = clash (rw a) f
    go (inr a) f h = rw a h

-- words with no node off in any kind, or in a PHED where the kind is that
pub good_words : (n k : ℕ) (ws : List ℕ) (a b p : Bool) → a ≡ any (node_off n TET4) ws → b ≡ any (node_off n PHED) ws → p ≡ eqb k PHED → (not a || (not b && p)) ≡ true → any (node_off n k) ws ≡ false
good_words n k ws false b p d e f h = any_kind n k ws (sym d)
good_words n k ws true false p d e f h = subst (λ (j : ℕ). any (node_off n j) ws ≡ false) (sym (eqb-true k PHED (sym f ∙ h))) (sym e)
good_words n k ws true true p d e f h = absurd (false≢true h)
