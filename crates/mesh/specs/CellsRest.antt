-- For internal contracts: a cell of an accepted model, and those that are left.
use Rattle.std.specs.Prelude.{List}
use Rattle.mesh.specs.Model.{Raw}
use Rattle.mesh.specs.Kinds.{kind_number}
use Rattle.mesh.specs.Lent.{raw_rest}
use Rattle.mesh.specs.Steps.{cell_with}
use Rattle.mesh.specs.declared.accepted.Cell.{Cell}
use Rattle.mesh.specs.declared.accepted.Cells.{Cells}

abbrev pub cell_raw : Cell → Raw
cell_raw c = cell_with (kind_number c.kind) c.words.now

abbrev pub cells_rest : Cells → List Raw
cells_rest c = raw_rest c.left
