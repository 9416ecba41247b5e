-- For internal contracts: the cells that hold a sorted ring.
use Rattle.std.specs.Prelude.{ℕ, suc, List, [], ◌∷◌, ◌++◌, leb}
use Rattle.laws.specs.Lists.{only_if, each, sort, eql}
use Rattle.mesh.specs.Model.{Raw}
use Rattle.mesh.specs.Rings.{rings_of}

-- the cell where a ring of it has the key, else nothing
abbrev pub holder : List ℕ → ℕ → List ℕ → List ℕ
holder key cell r = only_if (eql key (sort leb r)) (cell ∷ [])

-- the cell as often as rings of it have the key
abbrev pub holders : List ℕ → ℕ → List (List ℕ) → List ℕ
holders key cell rs = each (holder key cell) rs

-- the same of the cells from number i on
abbrev pub held : List ℕ → ℕ → List Raw → List ℕ
held key i [] = []
held key i (c ∷ cs) = holders key i (rings_of c) ++ held key (suc i) cs
