use Rattle.mesh.specs.Lent.{lent}
use Rattle.mesh.specs.Model.{cells_of}
use Rattle.mesh.specs.CellsRest.{cells_rest}
use Rattle.owners.specs.Holding.{held}
use Rattle.owners.proofs.Passing.{Noting}
use Rattle.owners.proofs.Holders.note_cells.Given as goal

abbrev pub invariant-loop-number : goal.invariant-loop-number
invariant-loop-number l =
    let key = l.initial.self.key.now in
    Noting l.initial.self l.self (held key 0 (cells_of (lent l.model.model))) (held key l.number-iterator.count (cells_rest l.number-iterator.iter))
