-- Numbers as bytes, the lowest first (little-endian).
use Rattle.std.specs.Prelude.{ℕ, zero, suc, ◌+◌, ◌*◌, ◌/◌, ◌%◌, Bool, true, ◌&&◌, List, [], ◌∷◌, eqb}

-- the number that bytes stand for
abbrev pub number : List ℕ → ℕ
number [] = 0
number (b ∷ bs) = b + 256 * number bs

-- a number as k bytes
abbrev pub bytes : ℕ → ℕ → List ℕ
bytes zero n = []
bytes (suc k) n = n % 256 ∷ bytes k (n / 256)

-- each byte is zero
abbrev pub zeros : List ℕ → Bool
zeros [] = true
zeros (b ∷ bs) = eqb b 0 && zeros bs
