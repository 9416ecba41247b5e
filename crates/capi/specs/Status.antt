-- For internal contracts: the number that tells an answer.
use Rattle.std.specs.Prelude.{ℕ, Result, Ok, Err}
use Rattle.refusals.specs.Told.{number}
use Rattle.refusals.specs.declared.Refusal.{Refusal}

-- 0, or the refusal's number
abbrev pub status : {A : Type 0} → Result A Refusal → ℕ
status (Ok a) = 0
status (Err e) = number e
