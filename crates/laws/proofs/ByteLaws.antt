-- A number's bytes, the lowest first.
use Prim.Native.Nat.{ℕ, zero, suc, ◌+◌, ◌*◌, ◌/◌, ◌%◌, ◌^◌, ◌<◌}
use mathlib.Core.Path.{◌≡◌, refl, ap, ◌∙◌}
use native.Mathlib.Nat.{div-lt_iff_lt-mul, pow-suc}
use native.Mathlib.Omega.{arith}
use lib.Dec.{lit<}
use lib.ListN.{length}
use Rattle.laws.specs.Bytes.{number, bytes}

-- a number below 256^k comes back out of its k bytes
pub number_bytes : (k n : ℕ) → n < 256 ^ k → number (bytes k n) ≡ n
number_bytes zero n h = omega arith
number_bytes (suc k) n h =
    let d : n / 256 < 256 ^ k = (div-lt_iff_lt-mul {k = 256} {x = n} {y = 256 ^ k} (lit< tt)).1 (rw pow-suc at h) in
    ap (λ (m : ℕ). n % 256 + 256 * m) (number_bytes k (n / 256) d) ∙ omega arith

-- so many bytes
pub length-bytes : (k n : ℕ) → length (bytes k n) ≡ k
length-bytes zero n = refl
length-bytes (suc k) n = ap suc (length-bytes k (n / 256))
