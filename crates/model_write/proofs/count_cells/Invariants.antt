use Prim.Native.Nat.{◌+◌}
use mathlib.Core.Path.{◌≡◌}
use lib.ListN.{length}
use Rattle.laws.specs.Lists.{each}
use Rattle.mesh.specs.Lent.{lent}
use Rattle.mesh.specs.Model.{cells_of}
use Rattle.mesh.specs.CellsRest.{cells_rest}
use Rattle.model_file.specs.File.{cell_records}
use Rattle.model_write.proofs.count_cells.Given as goal

abbrev pub invariant-loop-cell : goal.invariant-loop-cell
invariant-loop-cell l = l.sum + length (each cell_records (cells_rest l.cell-iterator)) ≡ length (each cell_records (cells_of (lent l.model.model)))
