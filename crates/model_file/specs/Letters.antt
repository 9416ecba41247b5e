-- For internal contracts: the letters under their bytes.
use Rattle.std.specs.Prelude.{ℕ, ◌≡◌, Some, None, Result, MatchResult}
use Rattle.refusals.specs.declared.Refusal.{Refusal}
use Rattle.refusals.specs.declared.Refusal.TheVariants as Refusals
use Rattle.model_file.specs.Records.{letter_of}
use Rattle.model_file.specs.declared.Letter.{Letter}
use Rattle.model_file.specs.declared.Letter.TheVariants.{Node, Cell, More, Last}

-- what reading a first byte gives
abbrev pub LetterRead : ℕ → Result Letter Refusal → Type 0
LetterRead b r = MatchResult r (λ l. letter_of b ≡ Some l) (λ e. (e ≡ Refusals.Letter) × (letter_of b ≡ None))

-- a letter's byte
abbrev pub letter_byte : Letter → ℕ
letter_byte Node = 78
letter_byte Cell = 67
letter_byte More = 75
letter_byte Last = 84
