-- `ascending::equal` meets its contract. The lists are equal where what is left of them from i on is.
use Prim.Native.Nat.{ℕ}
use mathlib.Core.Path.{◌≡◌, sym, ap}
use mathlib.Core.Logic.{⊎_elim, ◌≢◌}
use mathlib.Core.Bool.{false}
use mathlib.Core.List.{List}
use lib.ListN.{length}
use Rattle.laws.specs.Lists.{eql}
use Rattle.laws.proofs.ListLaws.{eql_true}
use Rattle.std.proofs.lemmas.Bool.{cases_Bool}
use Rattle.ascending.proofs.equal.Goals as goal

-- lists of different lengths are unequal
unlike : (a b : List ℕ) → length a ≢ length b → eql a b ≡ false
unlike a b h = ⊎_elim (λ e. absurd (h (ap length (eql_true a b e)))) (λ e. e) (cases_Bool (eql a b))

pub returns-then-a-b : goal.returns-then-a-b
returns-then-a-b c = sym (unlike c.args.a.now c.args.b.now c.if-a-b.true)
