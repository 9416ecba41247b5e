-- The words that the views of the tables show.
use Rattle.std.specs.Prelude.{ℕ, List, take}
use Rattle.index.specs.Faces.{input}
use Rattle.layout.specs.declared.tables.Tables.{Tables}
use Rattle.layout.specs.declared.rings.Rings.{Rings}

-- all words below the index
abbrev pub faced_in : Tables → List ℕ
faced_in v = input v.layout.now.at v.work.now

-- those below the marks of bow-ties
abbrev pub ringed_in : Rings → List ℕ
ringed_in v = take v.layout.now.at.bows v.work.now
