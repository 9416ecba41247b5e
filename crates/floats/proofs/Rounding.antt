-- What is rounded from a fraction that is not below zero is not below zero, and a value's units, rounded, are the value.
use mathlib.Core.Path.{◌≡◌, ap}
use mathlib.Core.Bool.{Bool, true, false, cond, true≢false}
use Prim.Native.Nat.{ℕ, suc, ◌+◌, ◌*◌, ◌^◌, ◌≤◌}
use native.Mathlib.Nat.{lt_of_lt_of_le}
use native.Mathlib.Omega.{arith}
use lib.Dec.{T, ltb}
use lib.Pow.{pow_pos, pow_mono, shl_lt}
use lib.Ieee.{Float, nan, inf, fin, Format, binary64, prec, emax, low, odd, units, round, fits}
use lib.Ieee.Exact.{HasValue, odd_sign, round_exact}
use lib.Ieee.Fits.{round_is, round-fits}
use Rattle.floats.specs.Root.{units_in, counted}
use Rattle.floats.proofs.Fields.{units_of, grid_of}
use Rattle.floats.proofs.Nearest.{same_units}
use Rattle.floats.proofs.Monotone.{grown, counted_grown}

-- what has the value a / c is finite and without a minus sign
value_counted : (z : Float) (a c : ℕ) → HasValue z false a c → T (counted z)
value_counted nan a c v = v
value_counted (inf s) a c v = v
value_counted (fin true m e) a c v = absurd (true≢false v.0)
value_counted (fin false m e) a c v = tt

-- so many units are not below zero
units_grown : (f : Format) (q k : ℕ) → T (grown (units f false q k))
unfolding units
units_grown f q k = go (ltb (q * 2 ^ k) (2 ^ (low f + suc (emax f))))
  where
    z : Float
    z = odd (suc (prec f)) false q k (low f)

    go : (b : Bool) → T (grown (cond b z (inf false)))
    go true = counted_grown z (value_counted z (q * 2 ^ k) (2 ^ low f) (odd_sign (suc (prec f)) false q k (low f)))
    go false = tt

-- nor is a fraction, rounded
pub round_grown : (f : Format) (a c : ℕ) → T (grown (round f false a c))
round_grown f a c = rw (round_is f false a c) (units_grown f _ _)

-- the fraction of a value's units, rounded, is the value
pub round_self : (v : Float) → T (fits binary64 v) → T (counted v) → round binary64 false (units_in v) (2 ^ 1074) ≡ v
round_self v f c =
    let g = grid_of v f c in
    let e = units_of v false (g.0 * 2 ^ g.1) g.2 in
    let h = round_exact binary64 false (units_in v) (2 ^ 1074) g.0 g.1 (pow_pos 1074) g.3
    (lt_of_lt_of_le (shl_lt 53 g.1 g.3) (pow_mono (room g.1 g.4))) (ap (λ (n : ℕ). n * 2 ^ 1074) e) in
    let r = round binary64 false (units_in v) (2 ^ 1074) in
    same_units r v (round-fits binary64 false (units_in v) (2 ^ 1074)) f (value_counted r (units_in v) (2 ^ 1074) h) c (units_of r false (units_in v) h)
  where
    room : (k : ℕ) → k ≤ 2045 → 53 + k ≤ 1074 + 1024
    room k h = omega arith
