-- The tables that must stand: what they hold, by the cells.
use Prim.Native.Nat.{ℕ}
use mathlib.Core.Path.{◌≡◌}
use mathlib.Core.Bool.{Bool}
use mathlib.Core.List.{List, map}
use lib.Dec.{leb}
use lib.Ieee.{Float}
use lib.ListN.{length, replicate}
use Rattle.laws.specs.Lists.{each, sort}
use Rattle.laws.specs.Merging.{region, AllBelow, starts_of}
use Rattle.geometry.specs.Coordinates.{node_count}
use Rattle.mesh.specs.Model.{Raw}
use Rattle.mesh.specs.Rings.{rings_of, node_set}
use Rattle.mesh.specs.Steps.{ring_total, WellCells}
use Rattle.snap.specs.Weld.{welded_by}
use Rattle.welding.specs.Used.{used_nodes, welded_used}
use Rattle.findings.specs.Rules.{bow_of}
use Rattle.layout.specs.declared.Layout.{Layout}
use Rattle.layout.specs.ByCell.{bit}
use Rattle.tables.specs.Owners.{owners_from}
use Rattle.laws.proofs.Rows.{joined}
use Rattle.model_tables.specs.Planned.{Planned}
use Rattle.model_tables.proofs.Reading.{Holds}

-- some ring of one of the cells, in welded numbers, meets itself
abbrev pub meets : List Float → Float → List Raw → Raw → Bool
meets coords tol cells c = bow_of coords tol (welded_by (welded_used coords tol cells)) c

-- cells that are right, with so many nodes, M words and K words of node sets, and the places of their tables
pub record Settled (coords : List Float) (cells : List Raw) (M K : ℕ) (l : Layout) : Type 0 where
  pub well : WellCells cells
  pub below : AllBelow (node_count coords) (joined (each rings_of cells))
  pub used : AllBelow (node_count coords) (used_nodes cells)
  pub planned : Planned (ring_total (each rings_of cells)) (length (each rings_of cells)) (length cells) (node_count coords) M K l

-- the welded map, the rings, where they start, and the first face of each cell
pub record RingTables (coords : List Float) (tol : Float) (cells : List Raw) (l : Layout) (t : List ℕ) : Type 0 where
  pub welds : Holds t l.weld (welded_used coords tol cells)
  pub rings : Holds t l.rings (joined (each rings_of cells))
  pub rows : Holds t l.rows (starts_of 0 (each rings_of cells))
  pub firsts : Holds t l.firsts (starts_of 0 (map rings_of cells))

-- the marks of bow-ties, the cells of faces, the keys, the starts of node sets, and these
pub record FaceTables (coords : List Float) (tol : Float) (cells : List Raw) (l : Layout) (t : List ℕ) : Type 0 where
  pub bows : Holds t l.at.bows (map (λ c. bit (meets coords tol cells c)) cells)
  pub owners : Holds t l.at.cells (owners_from 0 cells)
  pub keys : Holds t l.keys (joined (map (sort leb) (each rings_of cells)))
  pub starts : Holds t l.at.starts (starts_of 0 (map node_set (each rings_of cells)))
  pub sets : Holds t l.at.sets (joined (map node_set (each rings_of cells)))

-- the tables of rings, the marks of bow-ties and the cells of faces
pub record Marked (coords : List Float) (tol : Float) (cells : List Raw) (l : Layout) (w : List ℕ) : Type 0 where
  pub rings : RingTables coords tol cells l w
  pub bows : Holds w l.at.bows (map (λ c. bit (meets coords tol cells c)) cells)
  pub owners : Holds w l.at.cells (owners_from 0 cells)

-- all tables
pub record Tabled (coords : List Float) (tol : Float) (cells : List Raw) (l : Layout) (w : List ℕ) : Type 0 where
  pub rings : RingTables coords tol cells l w
  pub faces : FaceTables coords tol cells l w

-- all tables, with marks and last nodes zero
pub record Cleared (coords : List Float) (tol : Float) (cells : List Raw) (l : Layout) (w : List ℕ) : Type 0 where
  pub tables : Tabled coords tol cells l w
  pub unmarked : region l.marks l.at.cell_count w ≡ replicate l.at.cell_count 0
  pub fresh : region l.last l.at.nodes w ≡ replicate l.at.nodes 0
