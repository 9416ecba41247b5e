-- A search over a range of numbers.
use mathlib.Core.Path.{◌≡◌, refl, ap, ◌∙◌}
use mathlib.Core.Bool.{Bool, ◌||◌}
use Prim.Native.Nat.{ℕ, zero, suc, ◌+◌}
use native.Mathlib.Numerals.{add-one}
use Rattle.std.specs.List.{list_any, range_with_len}
use Rattle.laws.specs.Lists.{any, up_from}

pub any_in_range : (f : ℕ → Bool) (a n : ℕ) → list_any f (range_with_len a n) ≡ any f (up_from a n)
any_in_range f a zero = refl
any_in_range f a (suc n) = ap (λ (b : Bool). f a || b) (any_in_range f (a + 1) n ∙ ap (λ (k : ℕ). any f (up_from k n)) (add-one a))
