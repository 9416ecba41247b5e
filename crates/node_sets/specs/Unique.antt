-- A sorted list without its repeats.
use Rattle.std.specs.Prelude.{Bool, cond, List, [], ◌∷◌}

module _ {ℓ} {A : Type ℓ} (le : A → A → Bool) where
  -- those of a list that are above the one before them, x before the first: in a sorted list, those that differ from it
  abbrev pub rises : A → List A → List A
  rises x [] = []
  rises x (y ∷ l) = cond (le y x) (rises y l) (y ∷ rises y l)

  -- the same of a whole list, whose first stays
  abbrev pub unique : List A → List A
  unique [] = []
  unique (x ∷ l) = x ∷ rises x l
