use Rattle.laws.specs.Lists.{each}
use Rattle.mesh.specs.Lent.{lent}
use Rattle.mesh.specs.Model.{cells_of}
use Rattle.mesh.specs.Rings.{rings_of}
use Rattle.mesh.specs.CellsRest.{cells_rest}
use Rattle.rings.proofs.Putting.{Putting, flat}
use Rattle.rings.proofs.put_cells.Given as goal

abbrev pub invariant-loop-cell : goal.invariant-loop-cell
invariant-loop-cell l = Putting l.initial.out l.out l.at l.k (flat (each rings_of (cells_of (lent l.model.model)))) (flat (each rings_of (cells_rest l.cell-iterator)))
