-- The number of a reason, and what an operation answers as the papers say it.
use Rattle.std.specs.Prelude.{ℕ, Result, Ok, Err}
use Rattle.laws.specs.Refusals.{Answer, refused, done}
use Rattle.refusals.specs.declared.Refusal.{Refusal}
use Rattle.refusals.specs.declared.Refusal.TheVariants.{FileLength, Letter, RecordBytes, Room, Shape, Tolerance, Coordinate, NoCells, Cell, Flags, Work, Number, Root}

-- the number that callers are told
abbrev pub number : Refusal → ℕ
number FileLength = 1
number Letter = 2
number RecordBytes = 3
number Room = 4
number Shape = 5
number Tolerance = 6
number Coordinate = 7
number NoCells = 8
number Cell = 9
number Flags = 10
number Work = 11
number Number = 12
number Root = 13

-- the refusal's number, or what f reads of the answer
abbrev pub told_by : {A B : Type 0} → (A → B) → Result A Refusal → Answer B
told_by f (Ok a) = done (f a)
told_by f (Err e) = refused (number e)

-- the refusal's number, or the answer
abbrev pub told : {A : Type 0} → Result A Refusal → Answer A
told r = told_by (λ a. a) r
