-- Runs one by one: the first run of a list of words, and those behind it.
use Prim.Native.Nat.{ℕ, suc, ◌≤◌}
use mathlib.Core.Path.{◌≡◌, refl, sym, ap, ap₂, ◌∙◌}
use mathlib.Core.Logic.{◌⊎◌, inl, inr}
use mathlib.Core.Bool.{Bool, true, false, cond}
use mathlib.Core.List.{List, [], ◌∷◌, ◌++◌}
use native.Mathlib.Omega.{arith}
use borrow.Author.Tests.{ltb-false, lt-ltb}
use lib.Dec.{leb, ltb, eqb, leb-suc-suc}
use lib.ListN.{length, take, drop, drop_of_length-le}
use lib.Seq.{length-take-le}
use Rattle.std.specs.Option.{unwrap_or}
use Rattle.std.specs.List.{position, position_or_len}
use Rattle.std.proofs.lemmas.List.Recursion.{is_position_or_len}
use Rattle.laws.specs.Lists.{only_if, keep}
use Rattle.std.proofs.lemmas.Bool.{cases_Bool}
use Rattle.mesh.specs.Rings.{separator, runs, phed_rings}
use Rattle.mesh.specs.Steps.{lead}

-- ---- where a run ends

pub lead_le : (ws : List ℕ) → lead ws ≤ length ws
lead_le [] = omega arith
lead_le (w ∷ ws) = go (cases_Bool (eqb w separator)) (lead_le ws)
  where
    go : (eqb w separator ≡ true) ⊎ (eqb w separator ≡ false) → lead ws ≤ length ws → lead (w ∷ ws) ≤ suc (length ws)
    go (inl e) h = rw e (omega arith)
    go (inr e) h = rw e (omega arith)

-- the first separator's place, or how many words there are
lead_is : (ws : List ℕ) → lead ws ≡ position_or_len (λ w. eqb w separator) ws
lead_is ws = is_position_or_len lead (λ w. eqb w separator) refl (λ w l. ap (cond (eqb w separator) 0) (omega arith)) ws

pub lead_found : (ws : List ℕ) → unwrap_or (position (λ w. eqb w separator) ws) (length ws) ≡ lead ws
lead_found ws = go (cases_Bool (ltb (position_or_len (λ w. eqb w separator) ws) (length ws)))
  where
    go : (ltb (position_or_len (λ w. eqb w separator) ws) (length ws) ≡ true) ⊎ (ltb (position_or_len (λ w. eqb w separator) ws) (length ws) ≡ false) → unwrap_or (position (λ w. eqb w separator) ws) (length ws) ≡ lead ws
    go (inl e) = rw e (sym (lead_is ws))
    go (inr e) = rw e (omega (arith, lead_is ws, lead_le ws, ltb-false (position_or_len (λ w. eqb w separator) ws) (length ws) e))

-- ---- the first run, and those behind it

-- the runs behind the first: none where it reaches the end
abbrev behind : List ℕ → List (List ℕ)
behind ws = cond (ltb (lead ws) (length ws)) (runs (drop (suc (lead ws)) ws)) []

runs_first : (ws : List ℕ) → runs ws ≡ take (lead ws) ws ∷ behind ws
runs_first [] = refl
runs_first (w ∷ ws) = go (cases_Bool (eqb w separator)) (runs_first ws)
  where
    go : (eqb w separator ≡ true) ⊎ (eqb w separator ≡ false) → runs ws ≡ take (lead ws) ws ∷ behind ws → runs (w ∷ ws) ≡ take (lead (w ∷ ws)) (w ∷ ws) ∷ behind (w ∷ ws)
    go (inl e) h = rw (e, lt-ltb 0 (suc (length ws)) (omega arith))
    go (inr e) h = rw (e, h, leb-suc-suc (suc (lead ws)) (length ws))

-- the runs behind the first that pass a test, which fails for an empty run
keep_behind : (p : List ℕ → Bool) → p [] ≡ false → (ws : List ℕ) → keep p (behind ws) ≡ keep p (runs (drop (suc (lead ws)) ws))
keep_behind p e ws = go (cases_Bool (ltb (lead ws) (length ws)))
  where
    go : (ltb (lead ws) (length ws) ≡ true) ⊎ (ltb (lead ws) (length ws) ≡ false) → keep p (behind ws) ≡ keep p (runs (drop (suc (lead ws)) ws))
    go (inl t) = rw t
    go (inr t) =
        let h : length ws ≤ suc (lead ws) = omega (arith, ltb-false (lead ws) (length ws) t) in
        rw (t, drop_of_length-le ws h, e)

first_length : (ws : List ℕ) → length (take (lead ws) ws) ≡ lead ws
first_length ws = length-take-le (lead ws) ws (lead_le ws)

-- a PHED's rings: the first run if it has three words, and those behind it
pub phed_next : (ws : List ℕ) → phed_rings ws ≡ only_if (leb 3 (lead ws)) (take (lead ws) ws ∷ []) ++ phed_rings (drop (suc (lead ws)) ws)
phed_next ws =
    ap (keep (λ (r : List ℕ). leb 3 (length r))) (runs_first ws)
    ∙ ap₂ (λ (b : Bool) (l : List (List ℕ)). only_if b (take (lead ws) ws ∷ []) ++ l) (ap (leb 3) (first_length ws)) (keep_behind (λ r. leb 3 (length r)) refl ws)
