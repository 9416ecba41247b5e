-- `full_list::find_butterflies` meets its contract.
use mathlib.Core.Path.{sym, ◌∙◌}
use native.Mathlib.Omega.{arith}
use Rattle.layout.specs.Views.{faced_in}
use Rattle.full_list.proofs.Whole.{butterflies_none, butterflies_some}
use Rattle.full_list.proofs.find_butterflies.Goals as goal

pub returns-then-not-contains : goal.returns-then-not-contains
returns-then-not-contains c = let a = c.args in
    record { kept_ever = butterflies_none a.checks.0 a.t.now.layout.now (faced_in a.t.now) a.sink.now (sym c.contains.ensures ∙ c.if-not-contains.true); upper_bound = omega arith }

pub returns : goal.returns
returns c = let a = c.args in
    let y = c.keep_bows in
    record { kept_ever = butterflies_some a.checks.0 a.t.now.layout.now (faced_in a.t.now) a.sink.now y.new.sink (sym c.contains.ensures ∙ c.if-not-contains.false) y.ensures.kept_ever; upper_bound = omega (arith, y.ensures.upper_bound) }
