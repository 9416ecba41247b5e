-- The text of a report: bytes of ASCII, each line ended by a line feed.
use Rattle.std.specs.Prelude.{ℕ, zero, suc, ◌+◌, ◌/◌, ◌%◌, cond, List, [], ◌∷◌, ◌++◌, ltb, eqb}
use Rattle.laws.specs.Lists.{each}
use Rattle.findings.specs.Records.{Fields}

-- the digits of n in base ten, at most k of them, in front of a text
abbrev pub digits_to : ℕ → ℕ → List ℕ → List ℕ
digits_to zero n text = text
digits_to (suc k) n text = cond (ltb n 10) ((48 + n) ∷ text) (digits_to k (n / 10) ((48 + n % 10) ∷ text))

-- a number without leading zeros; 20 digits hold every 64-bit number
unfoldable pub decimal : ℕ → List ℕ
decimal n = digits_to 20 n []

-- a space and a number
abbrev pub spaced : ℕ → List ℕ
spaced n = 32 ∷ decimal n

-- kind, cells, a, b, count
unfoldable pub line_of : Fields → List ℕ
line_of f =
    decimal f.kind ++ (spaced f.first ++ (spaced f.second ++ (spaced f.a ++ (spaced f.b ++ (spaced f.count ++ (10 ∷ []))))))

-- `total T kept K`
unfoldable pub total_line : ℕ → ℕ → List ℕ
total_line total kept = 116 ∷ 111 ∷ 116 ∷ 97 ∷ 108 ∷ (spaced total ++ (32 ∷ 107 ∷ 101 ∷ 112 ∷ 116 ∷ (spaced kept ++ (10 ∷ []))))

-- the eight bytes `CONFORM` and line feed
abbrev pub conform : List ℕ
conform = 67 ∷ 79 ∷ 78 ∷ 70 ∷ 79 ∷ 82 ∷ 77 ∷ 10 ∷ []

-- `refused R`
unfoldable pub refused_line : ℕ → List ℕ
refused_line n = 114 ∷ 101 ∷ 102 ∷ 117 ∷ 115 ∷ 101 ∷ 100 ∷ (spaced n ++ (10 ∷ []))

-- a line a finding kept, and the totals; `CONFORM` instead where the total is 0
unfoldable pub report_text : List Fields → ℕ → ℕ → List ℕ
report_text kept total k = cond (eqb total 0) conform (each line_of kept ++ total_line total k)
