-- Pairs of nodes that stand as two words each, and their findings kept one by one.
use Prim.Native.Nat.{ℕ, ◌+◌, ◌<◌}
use mathlib.Core.Path.{◌≡◌, refl, ap, subst}
use mathlib.Core.List.{List, [], ◌∷◌, ◌++◌, map}
use native.Mathlib.Omega.{arith}
use lib.Ieee.{Float, nan}
use lib.ListN.{length, get_or, length-map}
use Rattle.laws.specs.Merging.{AllBelow}
use Rattle.findings.specs.Findings.{Finding, repeated}
use Rattle.pair_sort.specs.Pairs.{pairs_in}
use Rattle.records.specs.declared.Sink.{Sink}
use Rattle.records.proofs.Keeping.{kept_none, kept_then}
use Rattle.layout.specs.ByCell.{plain_rules}
use Rattle.repeated_nodes.specs.OfCell.{of_cell}
use Rattle.layout.specs.Kept.{KeptAny}

-- the first pair of words s, and those behind it
pub record First (n : ℕ) (s x r : List ℕ) : Type 0 where
  pub low : (get_or x 0 0 < n) × (get_or x 1 0 < n)
  pub below : AllBelow n r
  pub pairs : pairs_in s ≡ (get_or x 0 0, get_or x 1 0) ∷ pairs_in r
  pub long : length s ≡ length r + 2

pub first_pair : (n : ℕ) (s x r : List ℕ) → s ≡ x ++ r → length x ≡ 2 → AllBelow n s → First n s x r
first_pair n s [] r e k h = absurd (omega (arith, k))
first_pair n s (a ∷ []) r e k h = absurd (omega (arith, k))
first_pair n s (a ∷ b ∷ c ∷ x) r e k h = absurd (omega (arith, k))
first_pair n s (a ∷ b ∷ []) r e k h =
    let low = subst (AllBelow n) e h in
    record { low = (low.0, low.1.0); below = low.1.1; pairs = ap pairs_in e; long = omega (arith, ap length e) }

-- fewer than two words are no pair
pub no_pair : (s : List ℕ) → length s < 2 → pairs_in s ≡ []
no_pair [] h = refl
no_pair (a ∷ []) h = refl
no_pair (a ∷ b ∷ s) h = absurd (omega (arith, h))

-- whatever keeps the findings of the pairs left, from u on, keeps those of all pairs, from s on
abbrev pub KeepsOn : List Float → ℕ → List ℕ → Sink → List ℕ → Sink → Type 0
KeepsOn coords c pairs s left u =
    (v : Sink) → KeptAny coords (map (of_cell c) (pairs_in left)) u v → KeptAny coords (map (of_cell c) (pairs_in pairs)) s v

module _ (coords : List Float) (c : ℕ) (pairs : List ℕ) (s : Sink) where
  -- and once the next one's is kept
  pub kept_next : (n : ℕ) (left x r : List ℕ) (u t : Sink) → First n left x r → KeepsOn coords c pairs s left u
      → KeptAny coords (repeated c (get_or x 0 0) (get_or x 1 0) ∷ []) u t → KeepsOn coords c pairs s r t
  kept_next n left x r u t f go one v p =
      let more : List Finding = map (of_cell c) (pairs_in r) in
      go v (λ tol. rw f.pairs (kept_then (plain_rules coords tol) (repeated c (get_or x 0 0) (get_or x 1 0) ∷ []) more u t v (one tol) (p tol)))

  -- and where none is left all are kept
  pub kept_all : (left : List ℕ) (u : Sink) → length left < 2 → KeepsOn coords c pairs s left u → KeptAny coords (map (of_cell c) (pairs_in pairs)) s u
  kept_all left u h go = go u (λ tol. rw (no_pair left h) (kept_none (plain_rules coords tol) u))

-- as many are counted as there are pairs
pub pairs_counted : (coords : List Float) (c : ℕ) (ps : List (ℕ × ℕ)) (s t : Sink) → KeptAny coords (map (of_cell c) ps) s t → t.count ≡ s.count + length ps
pairs_counted coords c ps s t p = omega (arith, (p nan).count, length-map ps (of_cell c))
