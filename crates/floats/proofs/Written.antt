-- The bits that the root is written by.
use mathlib.Core.Path.{◌≡◌, refl, sym, ap, ◌∙◌, subst}
use mathlib.Core.Bool.{Bool, false, not}
use Prim.Native.Nat.{ℕ, suc, ◌+◌, ◌*◌, ◌/◌, ◌%◌, ◌-◌, ◌^◌, ◌≤◌, ◌<◌}
use native.Mathlib.Omega.{arith}
use lib.Dec.{T, leb}
use lib.Ieee.{binary64, odd, of_fields, of_bits, nan_bits}
use lib.Ieee.Bits.{nan_bits_above}
use borrow.Author.Tests.{lt-leb, le-ltb}
use Rattle.floats.specs.Root.{whole_root, root_of_units}
use Rattle.floats.proofs.Whole.{IsRoot, root_unique}
use Rattle.floats.proofs.Scaled.{root_at, radicand_root, root_low, root_high}
use Rattle.floats.proofs.Fields.{field_mid}

opened : (b : ℕ) → of_bits binary64 b ≡ of_fields binary64 (leb (2 ^ 63) b) (b % 2 ^ 63 / 2 ^ 52) (b % 2 ^ 52)
unfolding of_bits
opened b = refl

module _ (k q : ℕ) (K : k ≤ 2045) (low : 2 ^ 52 ≤ q) (high : q < 2 ^ 53) where
  -- they are no NaN's
  pub plain : T (not (nan_bits binary64 (k * 2 ^ 52 + q)))
  plain = subst (λ (b : Bool). T (not b)) (sym (nan_bits_above binary64 (k * 2 ^ 52 + q) ∙ le-ltb _ _ under)) tt
    where
      under : (k * 2 ^ 52 + q) % 2 ^ 63 ≤ 0x7ff0_0000_0000_0000
      under = omega arith

  -- and they are those of q * 2 ^ k units: the leading digit of q adds one to the exponent's field
  pub written : of_bits binary64 (k * 2 ^ 52 + q) ≡ odd 53 false q k 1074
  written =
      opened (k * 2 ^ 52 + q)
      ∙ ap (λ (s : Bool). of_fields binary64 s ((k * 2 ^ 52 + q) % 2 ^ 63 / 2 ^ 52) ((k * 2 ^ 52 + q) % 2 ^ 52)) (lt-leb _ _ positive)
      ∙ ap (λ (x : ℕ). of_fields binary64 false x ((k * 2 ^ 52 + q) % 2 ^ 52)) exponent
      ∙ ap (λ (x : ℕ). of_fields binary64 false (suc k) x) digits
      ∙ field_mid false k (q - 2 ^ 52) room
      ∙ ap (λ (x : ℕ). odd 53 false x k 1074) whole
    where
      positive : k * 2 ^ 52 + q < 2 ^ 63
      positive = omega arith

      exponent : (k * 2 ^ 52 + q) % 2 ^ 63 / 2 ^ 52 ≡ suc k
      exponent = omega arith

      digits : (k * 2 ^ 52 + q) % 2 ^ 52 ≡ q - 2 ^ 52
      digits = omega arith

      room : suc k < 2047
      room = omega arith

      whole : 2 ^ 52 + (q - 2 ^ 52) ≡ q
      whole = omega arith

-- ---- where r is the whole root of m * 2 ^ 54
module _ (m h r : ℕ) (low : 2 ^ 52 ≤ m) (high : m + 2 ≤ 2 ^ 54) (room : 511 ≤ h) (roof : h ≤ 1559) (root : IsRoot (m * 2 ^ 54) r) where
  field_in : h - 26 ≤ 2045
  field_in = omega arith

  q_low : 2 ^ 52 ≤ (r + 1) / 2
  q_low = half (root_low m low high r root)
    where
      half : 2 ^ 53 ≤ r → 2 ^ 52 ≤ (r + 1) / 2
      half a = omega arith

  q_high : (r + 1) / 2 < 2 ^ 53
  q_high = half (root_high m low high r root)
    where
      half : r + 1 < 2 ^ 54 → (r + 1) / 2 < 2 ^ 53
      half a = omega arith

  pub result_plain : T (not (nan_bits binary64 ((h - 26) * 2 ^ 52 + (r + 1) / 2)))
  result_plain = plain (h - 26) ((r + 1) / 2) field_in q_low q_high

  pub result : (n : ℕ) → n * 2 ^ 1074 ≡ m * (2 ^ h * 2 ^ h) → of_bits binary64 ((h - 26) * 2 ^ 52 + (r + 1) / 2) ≡ root_of_units n
  result n e =
      written (h - 26) ((r + 1) / 2) field_in q_low q_high
      ∙ ap (λ (k : ℕ). odd 53 false ((r + 1) / 2) k 1074) places
      ∙ ap (λ (w : ℕ). odd 53 false ((w + 1) / 2) (h - 27 + 1) 1074) (root_unique (m * 2 ^ 54) r (whole_root 54 (m * 2 ^ 54)) root (radicand_root m low high))
      ∙ sym (root_at n m h (record { whole = e; low = low; high = high; room = room; roof = roof }))
    where
      places : h - 26 ≡ h - 27 + 1
      places = omega arith
