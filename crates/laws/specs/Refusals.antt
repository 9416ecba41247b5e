-- Why an operation refuses, what it answers, and what lent memory holds afterwards.
use Rattle.std.specs.Prelude.{ℕ, Bool, cond, List, [], ◌∷◌, ◌++◌, eqb, length, drop}

-- A table of refusals: numbers with their reasons. Walked in order, the first number whose reason holds; 0 for none.
abbrev pub refusal : List (ℕ × Bool) → ℕ
refusal [] = 0
refusal (row ∷ rows) = cond row.1 row.0 (refusal rows)

-- an operation's answer: the number of a refusal, or what it was asked for
pub data Answer (A : Type 0) : Type 0 where
  refused : ℕ → Answer A
  done : A → Answer A

-- the answer a where n, the refusal, is 0
abbrev pub answer : {A : Type 0} → ℕ → A → Answer A
answer n a = cond (eqb n 0) (done a) (refused n)

-- A lent list l after an operation: xs in its front where n, the refusal, is 0; unchanged where it is not.
abbrev pub filled : {A : Type 0} → ℕ → List A → List A → List A
filled n xs l = cond (eqb n 0) (xs ++ drop (length xs) l) l
