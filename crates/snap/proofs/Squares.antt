-- A sum of squares is at most a limit only where each of the squares is.
use mathlib.Core.Path.{◌≡◌, refl, sym, ap, ◌∙◌}
use mathlib.Core.Logic.{⊎_elim}
use mathlib.Core.Bool.{Bool, true, false, not, false≢true}
use Prim.Native.Nat.{ℕ, ◌+◌, ◌*◌, ◌^◌, ◌≤◌, ◌<◌}
use native.Mathlib.Nat.{le_trans, le_of_eq, mul_assoc, mul_comm, mul_left_comm, mul-le-mul_right, mul-pos}
use native.Mathlib.Omega.{arith}
use lib.IntN.{ℤ}
use lib.Dec.{T}
use lib.Pow.{pow_pos}
use lib.Ieee.{Float, nan, inf, fin, binary64, up, down, round, add, mul, lt, le, fits}
use lib.Ieee.Fits.{down_pos, round-fits, add-fits, mul-fits}
use lib.Ieee.Order.{round_mono}
use borrow.Author.Tests.{lt-ltb, le-ltb}
use Rattle.laws.proofs.Tests.{clash}
use Rattle.std.proofs.lemmas.Bool.{cases_Bool, cases_lt}
use Rattle.floats.specs.Root.{units_in, counted}
use Rattle.floats.proofs.Fields.{units_exact}
use Rattle.floats.proofs.Monotone.{units_lt, grown, no_lower, counted_grown, top}
use Rattle.floats.proofs.Rounding.{round_grown, round_self}

-- a NaN, or without a minus sign
abbrev plain : Float → Bool
plain nan = true
plain (inf s) = not s
plain (fin s m e) = not s

-- the sum of the squares, as point_dot adds them
abbrev pub squares : Float → Float → Float → Float
squares x y z = add binary64 (add binary64 (mul binary64 x x) (mul binary64 y y)) (mul binary64 z z)

-- ---- squares and their sums are plain

grown_plain : (z : Float) → T (grown z) → T (plain z)
grown_plain nan g = tt
grown_plain (inf s) g = g
grown_plain (fin s m e) g = g

round_plain : (a c : ℕ) → T (plain (round binary64 false a c))
round_plain a c = grown_plain (round binary64 false a c) (round_grown binary64 a c)

square_plain : (x : Float) → T (plain (mul binary64 x x))
unfolding mul
square_plain nan = tt
square_plain (inf true) = tt
square_plain (inf false) = tt
square_plain (fin true m e) = round_plain (m * up e * (m * up e)) (down e * down e)
square_plain (fin false m e) = round_plain (m * up e * (m * up e)) (down e * down e)

sum_plain : (p q : Float) → T (plain p) → T (plain q) → T (plain (add binary64 p q))
unfolding add
sum_plain nan q g h = tt
sum_plain (inf true) q g h = absurd g
sum_plain (inf false) nan g h = tt
sum_plain (inf false) (inf true) g h = absurd h
sum_plain (inf false) (inf false) g h = tt
sum_plain (inf false) (fin t n d) g h = tt
sum_plain (fin true m e) q g h = absurd g
sum_plain (fin false m e) nan g h = tt
sum_plain (fin false m e) (inf t) g h = h
sum_plain (fin false m e) (fin true n d) g h = absurd h
sum_plain (fin false m e) (fin false n d) g h = round_plain (m * up e * down d + n * up d * down e) (down e * down d)

-- ---- what is finite and without a minus sign, in units

-- the order of such values is that of their units
le_units : (x y : Float) → T (fits binary64 x) → T (fits binary64 y) → T (counted x) → T (counted y) → T (le x y) → units_in x ≤ units_in y
le_units x y f g c d h = ⊎_elim
    (λ (k : units_in y < units_in x). absurd (no_lower x y c (counted_grown y d) h (units_lt y x g f d c ∙ lt-ltb (units_in y) (units_in x) k)))
    (λ (k : units_in x ≤ units_in y). k)
    (cases_lt (units_in y) (units_in x))

-- a fraction of at least v's size rounds to at least v
reaches : (v : Float) (a c : ℕ) → T (fits binary64 v) → T (counted v) → 0 < c → T (counted (round binary64 false a c)) → units_in v * c ≤ a * 2 ^ 1074 → units_in v ≤ units_in (round binary64 false a c)
reaches v a c f k C r h =
    le_units v (round binary64 false a c) f (round-fits binary64 false a c) k r
    (rw (round_self v f k) at (round_mono binary64 (units_in v) (2 ^ 1074) a c (pow_pos 1074) C h))

-- ---- the parts of a finite sum are finite, and not above it

record Parts (p q t : Float) : Type 0 where
  first : T (counted p)
  second : T (counted q)
  low : units_in p ≤ units_in t
  high : units_in q ≤ units_in t

-- u / r is x / c, and x / c is at most (x * b + y * c) / (c * b), and at most (y * c + x * b) / (b * c)
share_low : (u r x c y b : ℕ) → x * r ≡ u * c → u * (c * b) ≤ (x * b + y * c) * r
share_low u r x c y b h = let k : u * (c * b) ≡ x * b * r = simp (mul_assoc, mul_comm, mul_left_comm) (simp (mul_assoc, mul_comm) at (ap (λ (n : ℕ). n * b) (sym h))) in le_trans (le_of_eq k) (mul-le-mul_right r (omega arith))

share_high : (u r x c y b : ℕ) → x * r ≡ u * c → u * (b * c) ≤ (y * c + x * b) * r
share_high u r x c y b h = let k : u * (b * c) ≡ x * b * r = simp (mul_assoc, mul_comm, mul_left_comm) (simp (mul_assoc, mul_comm) at (ap (λ (n : ℕ). n * b) (sym h))) in le_trans (le_of_eq k) (mul-le-mul_right r (omega arith))

parts : (p q : Float) → T (plain p) → T (plain q) → T (fits binary64 p) → T (fits binary64 q) → T (counted (add binary64 p q)) → Parts p q (add binary64 p q)
unfolding add
parts nan q g h f k c = absurd c
parts (inf true) q g h f k c = absurd g
parts (inf false) nan g h f k c = absurd c
parts (inf false) (inf true) g h f k c = absurd h
parts (inf false) (inf false) g h f k c = absurd c
parts (inf false) (fin t n d) g h f k c = absurd c
parts (fin true m e) q g h f k c = absurd g
parts (fin false m e) nan g h f k c = absurd c
parts (fin false m e) (inf t) g h f k c = absurd c
parts (fin false m e) (fin true n d) g h f k c = absurd h
parts (fin false m e) (fin false n d) g h f k c =
    let a = m * up e * down d + n * up d * down e in
    let C = mul-pos (down_pos e) (down_pos d) in
    record {
      first = tt;
      second = tt;
      low = reaches (fin false m e) a (down e * down d) f tt C c (share_low (units_in (fin false m e)) (2 ^ 1074) (m * up e) (down e) (n * up d) (down d) (units_exact (fin false m e) f tt).1);
      high = reaches (fin false n d) a (down e * down d) k tt C c (share_high (units_in (fin false n d)) (2 ^ 1074) (n * up d) (down d) (m * up e) (down e) (units_exact (fin false n d) k tt).1);
    }

-- what is at most a finite limit is finite
under : (t : Float) (m : ℕ) (e : ℤ) → T (plain t) → le t (fin false m e) ≡ true → T (counted t)
unfolding le
under nan m e g h = absurd (false≢true h)
under (inf true) m e g h = absurd g
under (inf false) m e g h = absurd (false≢true h)
under (fin s n d) m e g h = g

-- ---- the law

-- no number is above a NaN
none_above : (y : Float) → lt nan y ≡ false
unfolding lt
none_above y = refl

-- where the sum is at most the limit the last two squares are not above it
within : (l x y z : Float) → T (plain l) → T (fits binary64 l) → le (squares x y z) l ≡ true → (lt l (mul binary64 y y) ≡ false) × (lt l (mul binary64 z z) ≡ false)
within nan x y z g f k = (none_above (mul binary64 y y), none_above (mul binary64 z z))
within (inf true) x y z g f k = absurd g
within (inf false) x y z g f k = (top (mul binary64 y y), top (mul binary64 z z))
within (fin true m e) x y z g f k = absurd g
within (fin false m e) x y z g f k =
    let l = fin false m e in
    let p = mul binary64 x x in
    let q = mul binary64 y y in
    let r = mul binary64 z z in
    let s = add binary64 p q in
    let t = add binary64 s r in
    let s-plain = sum_plain p q (square_plain x) (square_plain y) in
    let c = under t m e (sum_plain s r s-plain (square_plain z)) k in
    let b = parts s r s-plain (square_plain z) (add-fits binary64 p q) (mul-fits binary64 z z) c in
    let a = parts p q (square_plain x) (square_plain y) (mul-fits binary64 x x) (mul-fits binary64 y y) b.first in
    let i = le_units t l (add-fits binary64 s r) f c tt (rw k tt) in (
      units_lt l q f (mul-fits binary64 y y) tt a.second ∙ le-ltb (units_in l) (units_in q) (le_trans a.high (le_trans b.low i)),
      units_lt l r f (mul-fits binary64 z z) tt b.second ∙ le-ltb (units_in l) (units_in r) (le_trans b.high i),
    )

-- where the second square is above tol * tol the sum is not at most tol * tol
pub second_above : (tol x y z : Float) → lt (mul binary64 tol tol) (mul binary64 y y) ≡ true → le (squares x y z) (mul binary64 tol tol) ≡ false
second_above tol x y z h = let l = mul binary64 tol tol in ⊎_elim (λ k. clash h (within l x y z (square_plain tol) (mul-fits binary64 tol tol) k).0) (λ k. k) (cases_Bool (le (squares x y z) l))

-- nor where the third is
pub third_above : (tol x y z : Float) → lt (mul binary64 tol tol) (mul binary64 z z) ≡ true → le (squares x y z) (mul binary64 tol tol) ≡ false
third_above tol x y z h = let l = mul binary64 tol tol in ⊎_elim (λ k. clash h (within l x y z (square_plain tol) (mul-fits binary64 tol tol) k).1) (λ k. k) (cases_Bool (le (squares x y z) l))
