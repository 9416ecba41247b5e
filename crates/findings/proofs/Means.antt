-- The computed condition of a partly shared pair and the condition in words are the same.
use Prim.Native.Nat.{ℕ, ◌≤◌}
use mathlib.Core.Path.{◌≡◌, sym, ap, ◌∙◌}
use mathlib.Core.Logic.{⊎_elim, ◌↔◌, ◌≢◌}
use mathlib.Core.Bool.{Bool, true, false, not, ◌&&◌, false≢true}
use mathlib.Core.List.{List}
use borrow.Author.Tests.{leb-true, le-leb, not-true}
use lib.Dec.{leb}
use lib.ListN.{length}
use Rattle.laws.specs.Lists.{any, eql}
use Rattle.std.proofs.lemmas.Bool.{and_parts, cases_Bool}
use Rattle.laws.proofs.ListLaws.{eql_true, eql_self}
use Rattle.mesh.specs.Model.{Raw}
use Rattle.mesh.specs.Rings.{node_set}
use Rattle.findings.specs.Findings.{Rules, common, sharing, meets}
use Rattle.findings.specs.Compared.{shares}
use Rattle.findings.specs.Demand3.{PartlyShared}
use Rattle.findings.proofs.Laws.{any_some, some_any}

-- what two rings that meet have in common
meets_there : (R : Rules) (r s : List ℕ) → meets R.spans r s ≡ true → (node_set r ≢ node_set s) × (3 ≤ length (common r s)) × (R.spans (common r s) ≡ true)
unfolding meets sharing
meets_there R r s e =
    let p = and_parts (not (eql (node_set r) (node_set s)) && leb 3 (length (common r s))) (R.spans (common r s)) e in
    let q = and_parts (not (eql (node_set r) (node_set s))) (leb 3 (length (common r s))) p.0 in
    let u : (node_set r ≡ node_set s → ⊥) = λ i. false≢true (sym (not-true _ q.0) ∙ ap (eql (node_set r)) (sym i) ∙ eql_self (node_set r)) in
    (u, leb-true 3 (length (common r s)) q.1, p.1)

-- two rings with that in common meet
meets_back : (R : Rules) (r s : List ℕ) → node_set r ≢ node_set s → 3 ≤ length (common r s) → R.spans (common r s) ≡ true → meets R.spans r s ≡ true
unfolding meets sharing
meets_back R r s unlike three area =
    let u : eql (node_set r) (node_set s) ≡ false = ⊎_elim (λ e. absurd (unlike (eql_true (node_set r) (node_set s) e))) (λ e. e) (cases_Bool (eql (node_set r) (node_set s))) in
    let t : leb 3 (length (common r s)) ≡ true = le-leb 3 (length (common r s)) three in
    rw (u, t) area

-- the condition in words, both ways
pub shares_means : (R : Rules) (a b : Raw) → (shares R a b ≡ true) ↔ PartlyShared R a b
unfolding shares
shares_means R a b = (there, back)
  where
    meet_b : List ℕ → Bool
    meet_b r = any (meets R.spans r) (R.rings b)

    there : shares R a b ≡ true → PartlyShared R a b
    there e =
        let p = and_parts (not (R.bow a) && not (R.bow b)) (any meet_b (R.rings a)) e in
        let q = and_parts (not (R.bow a)) (not (R.bow b)) p.0 in
        let f = any_some meet_b (R.rings a) p.1 in
        let g = any_some (meets R.spans f.0) (R.rings b) f.2 in
        let s = meets_there R f.0 g.0 g.2 in
        record {
          plain_a = not-true (R.bow a) q.0;
          plain_b = not-true (R.bow b) q.1;
          ring_a = f.0;
          ring_b = g.0;
          of_a = f.1;
          of_b = g.1;
          unlike = s.0;
          three = s.1;
          area = s.2;
        }

    back : PartlyShared R a b → shares R a b ≡ true
    back h =
        rw (h.plain_a, h.plain_b)
        (some_any meet_b h.of_a (some_any (meets R.spans h.ring_a) h.of_b (meets_back R h.ring_a h.ring_b h.unlike h.three h.area)))
