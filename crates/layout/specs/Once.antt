-- That the tables stand in a slice has one proof at most: what the ghost fields of `Tables` and `Rings` ask.
use Rattle.std.specs.Prelude.{ℕ, List, [], ◌∷◌}
use Rattle.std.specs.Coded.{×_prop, Unit-prop}
use denote.Struct.Props as logic
use native.Mathlib.Bridge.{le_prop}
use Rattle.laws.specs.Merging.{AllBelow}
use Rattle.index.specs.Once.{Asc-prop}

pub AllBelow-prop : (n : ℕ) (l : List ℕ) → IsProp (AllBelow n l)
AllBelow-prop n [] = Unit-prop
AllBelow-prop n (k ∷ l) = ×_prop le_prop (AllBelow-prop n l)

pub ruleset once = (Asc-prop, AllBelow-prop, logic.props)
