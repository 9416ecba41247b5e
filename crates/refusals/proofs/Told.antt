-- What an answer that is told says of the refusal.
use Prim.Native.Nat.{ℕ, ◌<◌}
use mathlib.Core.Path.{◌≡◌, ap}
use mathlib.Core.Logic.{◌≢◌}
use native.Mathlib.Omega.{arith}
use borrow.Author.Tests.{ne_eqb}
use Rattle.std.specs.Prelude.{Result, Ok, Err, IsErrAnd}
use Rattle.laws.specs.Refusals.{refused, answer}
use Rattle.laws.proofs.Tables.{answered_refused, answered_done}
use Rattle.refusals.specs.declared.Refusal.{Refusal}
use Rattle.refusals.specs.declared.Refusal.TheVariants.{FileLength, Letter, RecordBytes, Room, Shape, Tolerance, Coordinate, NoCells, Cell, Flags, Work, Number, Root}
use Rattle.refusals.specs.Told.{number, told_by}

-- no reason has the number 0
pub number-positive : (e : Refusal) → 0 < number e
number-positive FileLength = omega arith
number-positive Letter = omega arith
number-positive RecordBytes = omega arith
number-positive Room = omega arith
number-positive Shape = omega arith
number-positive Tolerance = omega arith
number-positive Coordinate = omega arith
number-positive NoCells = omega arith
number-positive Cell = omega arith
number-positive Flags = omega arith
number-positive Work = omega arith
number-positive Number = omega arith
number-positive Root = omega arith

-- the exit of a `?`: the refusal, passed on
pub err_passed : {A : Type 0} {e : Refusal} (r : Result A Refusal) → IsErrAnd r (λ x. x ≡ e) → r ≡ Err e
err_passed (Ok a) h = absurd h
err_passed (Err x) h = ap Err h

module _ {A B : Type 0} (f : A → B) where
  -- an answer: nothing refuses, and it is what was asked for
  pub told_ok : (a : A) (n : ℕ) (v : B) → told_by f (Ok a) ≡ answer n v → (n ≡ 0) × (f a ≡ v)
  told_ok a n v e = answered_done n (f a) v e

  -- a refusal: its number is the table's
  pub told_err : (e : Refusal) (n : ℕ) (v : B) → told_by f (Err e) ≡ answer n v → number e ≡ n
  told_err e n v p = (answered_refused (number e) n v p).0

  -- and back
  pub ok_told : (a : A) (n : ℕ) (v : B) → n ≡ 0 → f a ≡ v → told_by f (Ok a) ≡ answer n v
  ok_told a n v z e = rw (z, e)

  pub err_told : (e : Refusal) (n : ℕ) (v : B) → number e ≡ n → told_by f (Err e) ≡ answer n v
  err_told e n v p =
      let k : n ≢ 0 = λ z. omega (arith, number-positive e) in
      rw (ne_eqb n 0 k) (ap refused p)
