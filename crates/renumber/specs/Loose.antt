-- Loose nodes added, removed or moved, while the nodes that cells name stay.
use Rattle.std.specs.Prelude.{List, ◌++◌, Float}
use Rattle.mesh.specs.Model.{Model, model_of}
use Rattle.renumber.specs.Renumbering.{Renumbering}

-- n is m but for loose nodes: each node used keeps its number and its point, and all else is kept
abbrev pub LooseApart : Model → Model → Type 0
LooseApart m n = Renumbering (λ a. a) m n

-- m with more nodes behind its last
unfoldable pub with_behind : Model → List Float → Model
with_behind m extra = model_of (m.coords ++ extra) m.kinds m.ends m.words m.tolerance m.flags m.cap
