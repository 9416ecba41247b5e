-- `bow_cells::Polygons::cell_meets` meets its contract: some face of the cell passes.
use Prim.Native.Nat.{ℕ, ◌-◌}
use mathlib.Core.Path.{refl, ap₂, ◌∙◌}
use Rattle.std.proofs.Common.{rules, tests}
use Rattle.std.proofs.lemmas.Iterator.{YieldsList-from_range}
use Rattle.std.proofs.lemmas.Iterator.Search.{any_from_yields_List}
use Rattle.laws.specs.Lists.{any, up_from}
use Rattle.layout.specs.ByCell.{ring_bow, cell_bow}
use Rattle.layout.specs.Views.{ringed_in}
use Rattle.bow_tie.proofs.Sought.{any_in_range}
use Rattle.bow_cells.proofs.polygons.Polygons.cell_meets.Goals as goal

pub returns : goal.returns
unfolding cell_bow
returns c =
    let p = c.args.self.now in
    let test = ring_bow p.coords.now p.tolerance p.rings.layout.now (ringed_in p.rings) in
    any_from_yields_List test _ _ _ c.any.ensures.ran (YieldsList-from_range c.faces.result.start c.faces.result.end _ refl refl) (λ x b q k. search (rules, tests))
    ∙ any_in_range test c.faces.result.start _
    ∙ ap₂ (λ (a e : ℕ). any test (up_from a (e - a))) c.faces.ensures.0 c.faces.ensures.1
