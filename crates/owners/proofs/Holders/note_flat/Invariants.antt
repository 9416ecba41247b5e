use lib.ListN.{drop}
use Rattle.mesh.specs.Rings.{rings_of}
use Rattle.mesh.specs.CellsRest.{cell_raw}
use Rattle.owners.specs.Holding.{holders}
use Rattle.owners.proofs.Passing.{Noting}
use Rattle.owners.proofs.Holders.note_flat.Given as goal

abbrev pub invariant-loop-j : goal.invariant-loop-j
invariant-loop-j l =
    let key = l.initial.self.key.now in
    let rs = rings_of (cell_raw l.cell) in
    Noting l.initial.self l.self (holders key l.number rs) (holders key l.number (drop l.j rs))
