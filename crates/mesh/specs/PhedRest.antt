-- For internal contracts: the rings of a PHED that are left.
use Rattle.std.specs.Prelude.{ℕ, List}
use Rattle.mesh.specs.Rings.{phed_rings}
use Rattle.mesh.specs.declared.phed.PhedRings.{PhedRings}

abbrev pub phed_rest : PhedRings → List (List ℕ)
phed_rest r = phed_rings r.words.now
