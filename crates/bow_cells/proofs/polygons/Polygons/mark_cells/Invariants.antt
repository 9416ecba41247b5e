use mathlib.Core.Path.{◌≡◌}
use mathlib.Core.List.{map}
use lib.ListN.{take}
use lib.Seq.{sets}
use Rattle.laws.specs.Lists.{up_from}
use Rattle.layout.specs.ByCell.{cell_bow, bit}
use Rattle.layout.specs.Views.{ringed_in}
use Rattle.bow_cells.proofs.polygons.Polygons.mark_cells.Given as goal

abbrev pub invariant-loop-c : goal.invariant-loop-c
invariant-loop-c l =
    let p = l.self in
    l.mark-items ≡ sets l.initial.mark-items 0 (take l.c (map (λ i. bit (cell_bow p.coords.now p.tolerance p.rings.layout.now (ringed_in p.rings) i)) (up_from 0 p.rings.layout.now.at.cell_count)))
