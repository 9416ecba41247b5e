-- `bow_cells::put_bows` meets its contract: the marks are put behind the tables.
use Prim.Native.Nat.{ℕ}
use mathlib.Core.Path.{ap, ap₂, ◌∙◌}
use mathlib.Core.List.{List, map, ◌++◌}
use native.Mathlib.Omega.{arith}
use lib.ListN.{take}
use lib.Seq.{sets, take-take}
use Rattle.laws.specs.Lists.{up_from}
use Rattle.layout.specs.ByCell.{cell_bow, bit}
use Rattle.layout.proofs.Split.{back_put}
use Rattle.bow_cells.proofs.put_bows.Goals as goal

pub returns : goal.returns
returns c =
    let x = c.args.ctx.now in
    let n = x.layout.at.bows in
    let w = c.args.work.now in
    let split = c.split_at_mut-tables.ensures in
    let marks : List ℕ → List ℕ = (λ (t : List ℕ). map (λ (i : ℕ). bit (cell_bow x.coords.now x.tolerance x.layout t i)) (up_from 0 x.layout.at.cell_count)) in
    let same = ap (take n) split.front ∙ take-take n n w (omega arith) in
    ap₂ (λ (a b : List ℕ). a ++ b) split.front (c.mark_cells.ensures ∙ ap₂ (λ (b t : List ℕ). sets b 0 (marks t)) split.back same)
    ∙ back_put w n (marks (take n w)) (omega (arith, c.requires.1))
