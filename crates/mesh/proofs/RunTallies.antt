-- The pass over a PHED's rings: what is counted so far, and what is left.
use Prim.Native.Nat.{ℕ, suc, ◌+◌, ◌*◌, ◌≤◌, ◌<◌}
use mathlib.Core.Path.{◌≡◌, refl, sym, ap, ◌∙◌}
use mathlib.Core.Logic.{◌⊎◌, inl, inr}
use mathlib.Core.Bool.{Bool, true, false, ◌||◌}
use mathlib.Core.List.{List, [], ◌∷◌}
use native.Mathlib.Omega.{arith}
use borrow.Author.Tests.{leb-true, leb-false, lt-ltb, le-ltb}
use lib.Dec.{leb, eqb}
use lib.ListN.{length, length-append}
use Rattle.std.specs.Prelude.{Some, None}
use Rattle.laws.specs.Limits.{ring_limit}
use Rattle.laws.specs.Lists.{any, keep, each}
use Rattle.std.proofs.lemmas.Bool.{cases_Bool}
use Rattle.mesh.specs.Rings.{separator, onto, runs, phed_rings}
use Rattle.mesh.specs.Steps.{ring_total, too_long, RunsCounted}
use Rattle.mesh.specs.declared.CellTally.{CellTally}

-- ---- rings are runs

-- a run that is too long is a ring
pub long_rings : (rs : List (List ℕ)) → any too_long (keep (λ r. leb 3 (length r)) rs) ≡ any too_long rs
long_rings [] = refl
long_rings (r ∷ rs) = go (cases_Bool (leb 3 (length r))) (long_rings rs)
  where
    go : (leb 3 (length r) ≡ true) ⊎ (leb 3 (length r) ≡ false) → any too_long (keep (λ r. leb 3 (length r)) rs) ≡ any too_long rs
        → any too_long (keep (λ r. leb 3 (length r)) (r ∷ rs)) ≡ any too_long (r ∷ rs)
    go (inl e) h = rw e (ap (λ (b : Bool). too_long r || b) h)
    go (inr e) h = rw (e, le-ltb ring_limit (length r) (omega (arith, leb-false 3 (length r) e))) h

-- rings have three words or more, and no more than there are
few_rings : (rs : List (List ℕ)) → 3 * length (keep (λ r. leb 3 (length r)) rs) ≤ ring_total (keep (λ r. leb 3 (length r)) rs)
few_rings [] = omega arith
few_rings (r ∷ rs) = go (cases_Bool (leb 3 (length r))) (few_rings rs)
  where
    go : (leb 3 (length r) ≡ true) ⊎ (leb 3 (length r) ≡ false) → 3 * length (keep (λ r. leb 3 (length r)) rs) ≤ ring_total (keep (λ r. leb 3 (length r)) rs)
        → 3 * length (keep (λ r. leb 3 (length r)) (r ∷ rs)) ≤ ring_total (keep (λ r. leb 3 (length r)) (r ∷ rs))
    go (inl e) h = rw e (omega (arith, leb-true 3 (length r) e, length-append r (each (λ (x : List ℕ). x) (keep (λ x. leb 3 (length x)) rs))))
    go (inr e) h = rw e h

small_rings : (rs : List (List ℕ)) → ring_total (keep (λ r. leb 3 (length r)) rs) ≤ ring_total rs
small_rings [] = omega arith
small_rings (r ∷ rs) = go (cases_Bool (leb 3 (length r))) (small_rings rs)
  where
    go : (leb 3 (length r) ≡ true) ⊎ (leb 3 (length r) ≡ false) → ring_total (keep (λ r. leb 3 (length r)) rs) ≤ ring_total rs → ring_total (keep (λ r. leb 3 (length r)) (r ∷ rs)) ≤ ring_total (r ∷ rs)
    go (inl e) h = rw e (omega (arith, length-append r (each (λ (x : List ℕ). x) (keep (λ x. leb 3 (length x)) rs)), length-append r (each (λ (x : List ℕ). x) rs)))
    go (inr e) h = rw e (omega (arith, length-append r (each (λ (x : List ℕ). x) rs)))

onto_total : (w : ℕ) (rs : List (List ℕ)) → ring_total (onto w rs) ≡ suc (ring_total rs)
onto_total w [] = refl
onto_total w (r ∷ rs) = refl

runs_total : (ws : List ℕ) → ring_total (runs ws) ≤ length ws
runs_total [] = omega arith
runs_total (w ∷ ws) = go (cases_Bool (eqb w separator)) (runs_total ws)
  where
    go : (eqb w separator ≡ true) ⊎ (eqb w separator ≡ false) → ring_total (runs ws) ≤ length ws → ring_total (runs (w ∷ ws)) ≤ suc (length ws)
    go (inl e) h = rw e (omega arith)
    go (inr e) h = rw e (omega (arith, onto_total w (runs ws)))

-- a PHED has no more faces and ring words than words
pub phed_few : (ws : List ℕ) → (length (phed_rings ws) ≤ length ws) × (ring_total (phed_rings ws) ≤ length ws)
phed_few ws = (omega (arith, few_rings (runs ws), small_rings (runs ws), runs_total ws), omega (arith, small_rings (runs ws), runs_total ws))

-- ---- the pass

-- no ring so far is too long, and what is counted, with the rings that are left, is all
pub record Running (ws : List ℕ) (t : CellTally) (rest : List (List ℕ)) : Type 0 where
  pub long : any too_long rest ≡ any too_long (runs ws)
  pub faces : t.faces + length rest ≡ length (phed_rings ws)
  pub words : t.words + ring_total rest ≡ ring_total (phed_rings ws)

-- no ring is counted yet
pub running_start : (ws : List ℕ) (t : CellTally) (rest : List (List ℕ)) → rest ≡ phed_rings ws → t.faces ≡ 0 → t.words ≡ 0 → Running ws t rest
running_start ws t rest is a b =
    record { long = ap (any too_long) is ∙ long_rings (runs ws); faces = omega (arith, a, ap length is); words = omega (arith, b, ap ring_total is) }

module _ {ws : List ℕ} {t : CellTally} {rest : List (List ℕ)} (p : Running ws t rest) where
  -- no ring has more words than there are, with those that are counted
  pub running_room : (r : List ℕ) (later : List (List ℕ)) → rest ≡ r ∷ later → (t.faces + 1 ≤ length ws) × (t.words + length r ≤ length ws)
  running_room r later is =
      let h = phed_few ws in
      (omega (arith, h.0, p.faces, ap length is), omega (arith, h.1, p.words, ap ring_total is, length-append r (each (λ (x : List ℕ). x) later)))

  -- a ring that is too long
  pub running_long : (r : List ℕ) (later : List (List ℕ)) → rest ≡ r ∷ later → ring_limit < length r → RunsCounted ws None
  running_long r later is h = record { long = rw (lt-ltb ring_limit (length r) h) at (ap {B = Bool} (any too_long) (sym is) ∙ p.long); tallied = tt }

  -- one ring more
  pub running_next : (u : CellTally) (r : List ℕ) (later : List (List ℕ)) → rest ≡ r ∷ later → length r ≤ ring_limit → u.faces ≡ t.faces + 1 → u.words ≡ t.words + length r → Running ws u later
  running_next u r later is h a b = record {
    long = rw (le-ltb ring_limit (length r) h) at (ap {B = Bool} (any too_long) (sym is) ∙ p.long);
    faces = omega (arith, a, p.faces, ap length is);
    words = omega (arith, b, p.words, ap ring_total is, length-append r (each (λ (x : List ℕ). x) later));
  }

  -- no ring is left
  pub running_end : rest ≡ [] → RunsCounted ws (Some t)
  running_end is =
      let h = phed_few ws in
      record {
        long = ap (any too_long) (sym is) ∙ p.long;
        tallied = record {
          faces = omega (arith, p.faces, ap length is);
          words = omega (arith, p.words, ap ring_total is);
          few = omega (arith, p.faces, h.0);
          small = omega (arith, p.words, h.1);
        };
      }
