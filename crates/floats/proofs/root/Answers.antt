-- `floats::root` meets its contract.
use mathlib.Core.Path.{ap, ◌∙◌}
use Rattle.laws.specs.Refusals.{done}
use lib.Ieee.{of_bits}
use Rattle.floats.proofs.Cases.{only_nan, not_nan}
use Rattle.floats.proofs.Small.{refused-nan, refused-below, answered}
use Rattle.floats.proofs.root.Goals as goal

pub returns-then-x : goal.returns-then-x
returns-then-x c = refused-nan c.args.x (only_nan c.args.x c.if-x.true)

pub returns-then-x-2 : goal.returns-then-x-2
unfolding of_bits
returns-then-x-2 c = refused-below c.args.x c.if-x-2.true

pub returns : goal.returns
unfolding of_bits
returns c =
    let x = c.args.x in
    ap done c.sqrt.ensures ∙ answered x (not_nan x c.if-x.false) c.if-x-2.false
