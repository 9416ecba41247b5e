-- `overfull::same_key` meets its contract: the two keys are compared.
use mathlib.Core.Path.{ap₂, ◌∙◌}
use mathlib.Core.List.{List}
use Prim.Native.Nat.{ℕ}
use Rattle.laws.specs.Lists.{eql}
use Rattle.overfull.specs.Alike.{same_as}
use Rattle.overfull.proofs.same_key.Goals as goal

pub returns : goal.returns
unfolding same_as
returns c = c.equal.ensures ∙ ap₂ (λ (x y : List ℕ). eql x y) c.key.ensures c.key-2.ensures
