-- `model_tables::clear_scratch` meets its contract: one run of zeros behind the other.
use Prim.Native.Nat.{ℕ, ◌+◌}
use mathlib.Core.Path.{ap, ◌∙◌}
use mathlib.Core.List.{List}
use native.Mathlib.Omega.{arith}
use lib.ListN.{length, replicate}
use lib.Seq.{sets, length-sets}
use Rattle.laws.proofs.Stores.{filled_part}
use Rattle.model_tables.proofs.clear_scratch.Goals as goal

pub returns : goal.returns
returns c =
    let l = c.args.l.now in
    let w = c.args.work.now in
    let first = filled_part w l.marks (l.marks + l.at.cell_count) l.at.cell_count 0 (omega arith) c.requires.0 (c.fill.ensures.after (λ y e. e)) in
    let long = ap length first ∙ length-sets w l.marks (replicate l.at.cell_count 0) in
    filled_part _ l.last (l.last + l.at.nodes) l.at.nodes 0 (omega arith) (omega (arith, long, c.requires.1)) (c.fill-2.ensures.after (λ y e. e))
    ∙ ap (λ (x : List ℕ). sets x l.last (replicate l.at.nodes 0)) first
