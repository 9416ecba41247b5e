-- The public operation on a root.
use Rattle.std.specs.Prelude.{ℕ, Bool, ◌||◌, List, [], ◌∷◌, Float}
use Rattle.std.specs.Float.Ieee.{lt, is_nan}
use Rattle.laws.specs.Refusals.{Answer, refusal, answer}
use Rattle.floats.specs.Floats.{zero64}
use Rattle.floats.specs.Root.{sqrt}

-- 13: a NaN, or below zero (-0 is not)
abbrev pub root_table : Float → List (ℕ × Bool)
root_table x = (13, is_nan x || lt x zero64) ∷ []

unfoldable pub root_answer : Float → Answer Float
root_answer x = answer (refusal (root_table x)) (sqrt x)
