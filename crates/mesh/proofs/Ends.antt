-- Ends, read one by one.
use Prim.Native.Nat.{ℕ, ◌+◌, ◌≤◌, ◌<◌}
use mathlib.Core.Path.{◌≡◌, sym, ap, ◌∙◌}
use mathlib.Core.Bool.{true, false, not}
use mathlib.Core.List.{List, [], ◌∷◌}
use native.Mathlib.Numerals.{add-one}
use native.Mathlib.Omega.{arith}
use borrow.Author.Tests.{ltb-false, lt-ltb, le-ltb, eqb-true, not-false}
use Rattle.std.proofs.lemmas.Bool.{or_parts}
use lib.Dec.{ltb, eqb}
use lib.ListN.{length, get_or, drop, drop_of_length-le}
use lib.Seq.{drop-cons}
use Rattle.mesh.specs.Acceptance.{ends_off}

-- the place that ends go on from is at most the last
pub ends_most : (at : ℕ) (es : List ℕ) (n : ℕ) → ends_off at es n ≡ false → at ≤ n
ends_most at [] n h = omega (arith, eqb-true at n (not-false (eqb at n) h))
ends_most at (e ∷ es) n h =
    let p = or_parts (ltb e at) (ends_off e es n) h in
    omega (arith, ltb-false e at p.0, ends_most e es n p.1)

-- an end below the last
pub ends_down : (at n : ℕ) (es : List ℕ) (i : ℕ) → i < length es → get_or es i 0 < at → ends_off at (drop i es) n ≡ true
ends_down at n es i h d = rw (drop-cons es i 0 h, lt-ltb (get_or es i 0) at d)

-- an end not below it
pub ends_on : (at n : ℕ) (es : List ℕ) (i : ℕ) → i < length es → at ≤ get_or es i 0 → ends_off at (drop i es) n ≡ ends_off (get_or es i 0) (drop (i + 1) es) n
ends_on at n es i h d = rw (drop-cons es i 0 h, le-ltb (get_or es i 0) at d, add-one i)

-- no end more
pub ends_over : (at n : ℕ) (es : List ℕ) (i : ℕ) → length es ≤ i → ends_off at (drop i es) n ≡ not (eqb at n)
ends_over at n es i h = ap (λ (l : List ℕ). ends_off at l n) (drop_of_length-le es h)

-- the next end lies between what stands before and the last
pub end_within : (at n e : ℕ) (es rest : List ℕ) → es ≡ e ∷ rest → ends_off at es n ≡ false → (at ≤ e) × (e ≤ n)
end_within at n e es rest is h =
    let p = or_parts (ltb e at) (ends_off e rest n) (sym (ap (λ (l : List ℕ). ends_off at l n) is) ∙ h) in
    (ltb-false e at p.0, ends_most e rest n p.1)
