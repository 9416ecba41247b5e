-- The public operation's refusals, row by row, and what a list that is not refused says of its numbers.
use mathlib.Core.Path.{◌≡◌}
use mathlib.Core.Bool.{Bool, true, false, not, ◌||◌}
use mathlib.Core.List.{List, [], ◌∷◌}
use Prim.Native.Nat.{ℕ, zero, suc, ◌/◌, ◌<◌}
use native.Mathlib.Omega.{arith}
use lib.Dec.{leb}
use lib.ListN.{length, get_or}
use lib.Ieee.{Float}
use borrow.Author.Tests.{leb-false}
use Rattle.laws.specs.Lists.{any}
use Rattle.laws.specs.Refusals.{Answer, refused, done, refusal, answer}
use Rattle.std.proofs.lemmas.Bool.{or_parts}
use Rattle.geometry.specs.Steps.{InNodes}
use Rattle.area.specs.declared.Area.{Area}
use Rattle.area.specs.AreaTest.{ascends_from, list_off}

-- ---- the table

-- the answer by the five reasons in order
abbrev pub table_of : Bool → Bool → Bool → Bool → Bool → Area → Answer Area
table_of a b d e f x = answer (refusal ((5, a || b) ∷ (6, d) ∷ (7, e) ∷ (12, f) ∷ [])) x

module _ (a b d e f : Bool) (x : Area) where
  -- 5: the number of coordinates
  pub row_count : a ≡ true → refused 5 ≡ table_of a b d e f x
  row_count h = rw h

  -- 5: the number of nodes
  pub row_length : a ≡ false → b ≡ true → refused 5 ≡ table_of a b d e f x
  row_length h i = rw (h, i)

  -- 6
  pub row_tolerance : a ≡ false → b ≡ false → d ≡ true → refused 6 ≡ table_of a b d e f x
  row_tolerance h i j = rw (h, i, j)

  -- 7
  pub row_coordinate : a ≡ false → b ≡ false → d ≡ false → e ≡ true → refused 7 ≡ table_of a b d e f x
  row_coordinate h i j k = rw (h, i, j, k)

  -- 12
  pub row_list : a ≡ false → b ≡ false → d ≡ false → e ≡ false → f ≡ true → refused 12 ≡ table_of a b d e f x
  row_list h i j k l = rw (h, i, j, k, l)

  -- no reason
  pub row_none : a ≡ false → b ≡ false → d ≡ false → e ≡ false → f ≡ false → done x ≡ table_of a b d e f x
  row_none h i j k l = rw (h, i, j, k, l)

-- ---- the list

-- off, where the next number is m at least
abbrev pub off_from : ℕ → ℕ → List ℕ → Bool
off_from n m ks = not (ascends_from m ks) || any (λ k. leb n k) ks

-- each number is below n
below : (n : ℕ) (ks : List ℕ) (i : ℕ) → any (λ k. leb n k) ks ≡ false → i < length ks → get_or ks i 0 < n
below n [] i e h = absurd (no h)
  where
    no : i < 0 → ⊥
    no h = omega arith
below n (k ∷ ks) zero e h = leb-false n k (or_parts (leb n k) (any (λ k. leb n k) ks) e).0
below n (k ∷ ks) (suc i) e h = below n ks i (or_parts (leb n k) (any (λ k. leb n k) ks) e).1 (omega arith)

-- so a list that is not off holds nodes
pub in_nodes : (c : List Float) (ks : List ℕ) → list_off (length c / 3) ks ≡ false → InNodes c ks
in_nodes c ks e i h =
    let b : get_or ks i 0 < length c / 3 = below (length c / 3) ks i (or_parts (not (ascends_from 0 ks)) (any (λ k. leb (length c / 3) k) ks) e).1 h in
    omega arith
