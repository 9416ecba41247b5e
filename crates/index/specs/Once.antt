-- That an index stands in a slice has one proof at most: what the ghost field of `Index` asks.
use Rattle.std.specs.Prelude.{ℕ, List, [], ◌∷◌}
use Rattle.std.specs.Coded.{×_prop, Π_prop, →_prop, Unit-prop}
use denote.Struct.Props as logic
use native.Mathlib.Bridge.{le_prop}
use Rattle.laws.specs.Merging.{Asc}

pub Asc-prop : (l : List ℕ) → IsProp (Asc l)
Asc-prop [] = Unit-prop
Asc-prop (x ∷ l) = ×_prop (Π_prop (λ n. →_prop le_prop)) (Asc-prop l)

pub ruleset once = (Asc-prop, logic.props)
