-- The model that lent lists hold.
use Rattle.std.specs.Prelude.{List}
use Rattle.mesh.specs.Model.{Model, Raw, model_of, cells_from}
use Rattle.mesh.specs.declared.model.Model as Declared
use Rattle.mesh.specs.declared.model.RawCell.{RawCell}
use Rattle.mesh.specs.declared.model.RawCells.{RawCells}

-- the model in lent lists
abbrev pub lent : Declared.Model → Model
lent m = model_of m.coords.now m.kinds.now m.ends.now m.words.now m.tolerance m.checks.0 m.cap

-- For internal contracts: a cell as it stands in the lists, and those that are left.
abbrev pub raw : RawCell → Raw
raw c = record { kind = c.kind; words = c.words.now }

abbrev pub raw_rest : RawCells → List Raw
raw_rest c = cells_from c.at c.kinds.now c.ends.now c.words.now
