-- Which patterns of 64 bits are a NaN's.
use mathlib.Core.Path.{◌≡◌, sym, ap, ◌∙◌}
use mathlib.Core.Bool.{true}
use Prim.Native.Nat.{ℕ, ◌%◌, ◌<◌}
use lib.Ieee.{Float, nan, binary64, of_bits, to_bits, is_nan}
use lib.Ieee.Bits.{nan_bits_is, nan_bits_above}
use borrow.Author.Tests.{lt-ltb}
use Rattle.floats.proofs.Cases.{nan_is}

-- above an infinity's, once the sign's bit is dropped: a NaN's
pub nan_of : (n : ℕ) → 0x7ff0_0000_0000_0000 < n % 0x8000_0000_0000_0000 → of_bits binary64 n ≡ nan
nan_of n h = nan_is (of_bits binary64 n) (sym (nan_bits_is binary64 n) ∙ nan_bits_above binary64 n ∙ lt-ltb _ _ h)

-- the pattern of the NaN
pub nan_pattern : (x : Float) → is_nan x ≡ true → 0x7ff8_0000_0000_0000 ≡ to_bits binary64 x
unfolding to_bits
nan_pattern x e = sym (ap (to_bits binary64) (nan_is x e))
