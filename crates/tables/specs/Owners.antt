-- For internal contracts: the cell of each face.
use Rattle.std.specs.Prelude.{ℕ, suc, List, [], ◌∷◌, ◌++◌, length, replicate}
use Rattle.mesh.specs.Model.{Raw}
use Rattle.mesh.specs.Rings.{rings_of}

-- the number of each cell, from i on, as often as the cell has rings
abbrev pub owners_from : ℕ → List Raw → List ℕ
owners_from i [] = []
owners_from i (c ∷ cs) = replicate (length (rings_of c)) i ++ owners_from (suc i) cs
