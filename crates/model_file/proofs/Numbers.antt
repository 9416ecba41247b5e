-- Numbers and bytes turn into one another; runs of zero bytes.
use Prim.Native.Nat.{ℕ, zero, suc, ◌+◌, ◌*◌, ◌/◌, ◌%◌, ◌^◌, ◌≤◌, ◌<◌}
use mathlib.Core.Path.{◌≡◌, refl, ap, ap₂}
use mathlib.Core.List.{List, [], ◌∷◌, ◌++◌}
use mathlib.Core.Bool.{true}
use native.Mathlib.Nat.{pow-suc}
use native.Mathlib.Omega.{arith}
use lib.ListN.{length, get_or, take, drop, replicate}
use lib.Seq.{slice, slice_empty}
use lib.Dec.{eqb}
use borrow.Author.Tests.{eqb-true}
use Rattle.laws.specs.Bytes.{number, bytes, zeros}
use Rattle.std.proofs.lemmas.Bool.{and_parts}
use Rattle.laws.specs.Lists.{All}
use Rattle.model_file.specs.Held.{Byte}

-- bytes come back out of their number
pub bytes_number : (l : List ℕ) → All Byte l → bytes (length l) (number l) ≡ l
bytes_number [] h = refl
bytes_number (b ∷ l) h =
    let r : (b + 256 * number l) % 256 ≡ b = omega arith in
    let q : (b + 256 * number l) / 256 ≡ number l = omega arith in
    rw (r, q) (ap (λ (t : List ℕ). b ∷ t) (bytes_number l h.1))

-- so many bytes hold no larger number
pub number_lt : (l : List ℕ) → All Byte l → number l < 256 ^ length l
number_lt [] h = omega arith
number_lt (b ∷ l) h =
    let i : number l < 256 ^ length l = number_lt l h.1 in
    rw (pow-suc) (omega arith)

-- bytes that are all zero, and back
pub zeros_true : (l : List ℕ) → zeros l ≡ true → l ≡ replicate (length l) 0
zeros_true [] e = refl
zeros_true (b ∷ l) e =
    let p = and_parts (eqb b 0) (zeros l) e in
    ap₂ (λ (x : ℕ) (t : List ℕ). x ∷ t) (eqb-true b 0 p.0) (zeros_true l p.1)

-- and back
pub zeros-replicate : (n : ℕ) → zeros (replicate n 0) ≡ true
zeros-replicate zero = refl
zeros-replicate (suc n) = zeros-replicate n

-- no byte of a run
pub zeros_end : (i e : ℕ) (s : List ℕ) → e ≤ i → i ≤ e → zeros (slice i e s) ≡ true
zeros_end i e s h k = let q : i ≡ e = omega arith in rw q (ap zeros (slice_empty e s))
