-- For internal contracts: the tables show a model.
use Rattle.std.specs.Prelude.{ℕ, ◌≤◌, ◌<◌, List, ◌≡◌, length, get_or, take, replicate}
use Rattle.laws.specs.Lists.{each}
use Rattle.laws.specs.Merging.{region}
use Rattle.geometry.specs.Coordinates.{node_count}
use Rattle.mesh.specs.Model.{Model, cells_of}
use Rattle.mesh.specs.Rings.{rings_of}
use Rattle.mesh.specs.Acceptance.{faces_in}
use Rattle.welding.specs.Used.{welds_of}
use Rattle.findings.specs.Rules.{rules_of}
use Rattle.findings.specs.Compared.{none}
use Rattle.index.specs.Faces.{input, bow_of, Room}
use Rattle.layout.specs.declared.Layout.{Layout}
use Rattle.layout.specs.Tables.{first_of, faces_at, Faced, Spaced}

-- the tables in t are those of m
pub record Shows (m : Model) (l : Layout) (t : List ℕ) : Type 0 where
  pub nodes : l.at.nodes ≡ node_count m.coords
  pub cells : l.at.cell_count ≡ length (cells_of m)
  pub words : l.words ≡ length m.words
  pub faces : faces_at l t ≡ faces_in m
  pub firsts : (c : ℕ) → c ≤ length (cells_of m) → first_of l t c ≡ length (each rings_of (take c (cells_of m)))
  pub bows : (c : ℕ) → c < length (cells_of m) → bow_of l.at t c ≡ (rules_of m).bow (get_or (cells_of m) c none)
  pub welds : region l.weld l.at.nodes t ≡ welds_of m

-- the tables stand in w, with room for all else; the indexes are not yet built
pub record Tabled (l : Layout) (w : List ℕ) : Type 0 where
  pub faced : Faced l (input l.at w)
  pub room : Room l.at (length w)
  pub spaced : Spaced l (length w)
  pub unmarked : region l.marks l.at.cell_count w ≡ replicate l.at.cell_count 0
  pub fresh : region l.last l.at.nodes w ≡ replicate l.at.nodes 0

-- all tables of m are built in w
pub record Built (m : Model) (l : Layout) (w : List ℕ) : Type 0 where
  pub tabled : Tabled l w
  pub shows : Shows m l (input l.at w)
