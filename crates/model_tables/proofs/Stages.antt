-- The tables put group by group: what stands stays.
use Prim.Native.Nat.{ℕ, ◌+◌, ◌≤◌}
use mathlib.Core.Path.{◌≡◌, refl, ap, ap₂, ◌∙◌}
use mathlib.Core.List.{List, map}
use native.Mathlib.Omega.{arith}
use lib.Dec.{leb}
use lib.Ieee.{Float}
use lib.ListN.{length, take, length-map}
use lib.Seq.{sets, length-sets, length-take-le}
use Rattle.laws.specs.Lists.{each, sort, up_from}
use Rattle.laws.specs.Merging.{region, starts_of}
use Rattle.geometry.specs.Coordinates.{node_count}
use Rattle.mesh.specs.Model.{Raw}
use Rattle.mesh.specs.Rings.{rings_of, node_set}
use Rattle.welding.specs.Used.{welded_used}
use Rattle.welding.proofs.Used.{length_welds}
use Rattle.layout.specs.declared.Layout.{Layout}
use Rattle.layout.specs.Tables.{Ringed}
use Rattle.layout.specs.ByCell.{cell_bow, bit}
use Rattle.node_sets.specs.Sets.{keys_of, sets_from}
use Rattle.tables.specs.Owners.{owners_from}
use Rattle.tables.proofs.Passing.{owners_length}
use Rattle.laws.proofs.Rows.{joined, starts_length}
use Rattle.model_tables.proofs.Sizes.{sets_total, keys_total}
use Rattle.model_tables.proofs.Reading.{Holds, holds_put, holds_before, holds_take}
use Rattle.model_tables.proofs.Contents.{meets, Settled, RingTables, FaceTables, Marked, Tabled}
use Rattle.model_tables.proofs.Ringing.{ringed, bows_are, keys_are, sets_are}

module _ (coords : List Float) (tol : Float) (cells : List Raw) (M K : ℕ) (l : Layout) (s : Settled coords cells M K l) where
  -- all rings, their node sets, and the marks of bow-ties
  abbrev rs : List (List ℕ)
  rs = each rings_of cells

  abbrev nodes : List (List ℕ)
  nodes = map node_set rs

  abbrev marks : List ℕ
  marks = map (λ c. bit (meets coords tol cells c)) cells

  -- ---- where the tables end

  -- each ends where the next starts
  record Ends : Type 0 where
    welds_end : l.weld + length (welded_used coords tol cells) ≤ l.rings
    rings_end : l.rings + length (joined rs) ≤ l.rows
    rows_end : l.rows + length (starts_of 0 rs) ≤ l.firsts
    firsts_end : l.firsts + length (starts_of 0 (map rings_of cells)) ≤ l.at.bows
    bows_end : l.at.bows + length marks ≤ l.at.cells
    owners_end : l.at.cells + length (owners_from 0 cells) ≤ l.keys
    keys_end : l.keys + length (joined (map (sort leb) rs)) ≤ l.at.starts
    starts_end : l.at.starts + length (starts_of 0 nodes) ≤ l.at.sets
    sets_end : l.at.sets + length (joined nodes) ≤ l.at.offsets

  -- they do
  ends : Ends
  ends =
      record {
        welds_end = omega (arith, s.planned.weld_at, s.planned.rings_at, length_welds coords tol cells);
        rings_end = omega (arith, s.planned.rows_at);
        rows_end = omega (arith, s.planned.firsts_at, starts_length 0 rs);
        firsts_end = omega (arith, s.planned.bows_at, starts_length 0 (map rings_of cells), length-map cells rings_of);
        bows_end = omega (arith, s.planned.cells_at, length-map cells (λ c. bit (meets coords tol cells c)));
        owners_end = omega (arith, s.planned.keys_at, owners_length 0 cells);
        keys_end = omega (arith, s.planned.starts_at, keys_total rs);
        starts_end = omega (arith, s.planned.sets_at, starts_length 0 nodes, length-map rs node_set);
        sets_end = omega (arith, s.planned.offsets_at, sets_total rs);
      }

  -- ---- a run of stores behind them, and their part of the slice

  -- the tables of rings stay
  rings_still : (w v : List ℕ) (o : ℕ) (xs : List ℕ) → l.at.bows ≤ o → v ≡ sets w o xs → RingTables coords tol cells l w → RingTables coords tol cells l v
  rings_still w v o xs h e b =
      let p = ends in
      record {
        welds = holds_before w v o xs l.weld (welded_used coords tol cells) (omega arith) e b.welds;
        rings = holds_before w v o xs l.rings (joined rs) (omega arith) e b.rings;
        rows = holds_before w v o xs l.rows (starts_of 0 rs) (omega arith) e b.rows;
        firsts = holds_before w v o xs l.firsts (starts_of 0 (map rings_of cells)) (omega arith) e b.firsts;
      }

  -- they stand in a part that holds them
  pub rings_part : (w : List ℕ) (n : ℕ) → l.at.bows ≤ n → RingTables coords tol cells l w → RingTables coords tol cells l (take n w)
  rings_part w n h b =
      let p = ends in
      record {
        welds = holds_take w n l.weld (welded_used coords tol cells) (omega arith) b.welds;
        rings = holds_take w n l.rings (joined rs) (omega arith) b.rings;
        rows = holds_take w n l.rows (starts_of 0 rs) (omega arith) b.rows;
        firsts = holds_take w n l.firsts (starts_of 0 (map rings_of cells)) (omega arith) b.firsts;
      }

  -- the tables of faces stay
  faces_still : (w v : List ℕ) (o : ℕ) (xs : List ℕ) → l.at.offsets ≤ o → v ≡ sets w o xs → FaceTables coords tol cells l w → FaceTables coords tol cells l v
  faces_still w v o xs h e f =
      let p = ends in
      record {
        bows = holds_before w v o xs l.at.bows marks (omega arith) e f.bows;
        owners = holds_before w v o xs l.at.cells (owners_from 0 cells) (omega arith) e f.owners;
        keys = holds_before w v o xs l.keys (joined (map (sort leb) rs)) (omega arith) e f.keys;
        starts = holds_before w v o xs l.at.starts (starts_of 0 nodes) (omega arith) e f.starts;
        sets = holds_before w v o xs l.at.sets (joined nodes) (omega arith) e f.sets;
      }

  -- they stand in a part that holds them
  pub faces_part : (w : List ℕ) (n : ℕ) → l.at.offsets ≤ n → FaceTables coords tol cells l w → FaceTables coords tol cells l (take n w)
  faces_part w n h f =
      let p = ends in
      record {
        bows = holds_take w n l.at.bows marks (omega arith) f.bows;
        owners = holds_take w n l.at.cells (owners_from 0 cells) (omega arith) f.owners;
        keys = holds_take w n l.keys (joined (map (sort leb) rs)) (omega arith) f.keys;
        starts = holds_take w n l.at.starts (starts_of 0 nodes) (omega arith) f.starts;
        sets = holds_take w n l.at.sets (joined nodes) (omega arith) f.sets;
      }

  -- ---- group by group

  -- the rings behind the welded map
  pub rings_put : (w v : List ℕ) → l.at.bows ≤ length w → region 0 (node_count coords) w ≡ welded_used coords tol cells
      → v ≡ sets (sets (sets w l.rings (joined rs)) l.rows (starts_of 0 rs)) l.firsts (starts_of 0 (map rings_of cells)) → RingTables coords tol cells l v
  rings_put w v h k e =
      let p = ends in
      let a = sets w l.rings (joined rs) in
      let b = sets a l.rows (starts_of 0 rs) in
      let na = length-sets w l.rings (joined rs) in
      let nb = length-sets a l.rows (starts_of 0 rs) in
      let W = welded_used coords tol cells in
      let first : Holds w l.weld W = ap₂ (λ (o n : ℕ). region o n w) s.planned.weld_at (length_welds coords tol cells) ∙ k in
      record {
        welds = holds_before b v l.firsts (starts_of 0 (map rings_of cells)) l.weld W (omega arith) e
            (holds_before a b l.rows (starts_of 0 rs) l.weld W (omega arith) refl
            (holds_before w a l.rings (joined rs) l.weld W (omega arith) refl first));
        rings = holds_before b v l.firsts (starts_of 0 (map rings_of cells)) l.rings (joined rs) (omega arith) e
            (holds_before a b l.rows (starts_of 0 rs) l.rings (joined rs) (omega arith) refl
            (holds_put w a l.rings (joined rs) (omega arith) refl));
        rows = holds_before b v l.firsts (starts_of 0 (map rings_of cells)) l.rows (starts_of 0 rs) (omega arith) e (holds_put a b l.rows (starts_of 0 rs) (omega arith) refl);
        firsts = holds_put b v l.firsts (starts_of 0 (map rings_of cells)) (omega arith) e;
      }

  -- they stand as they must
  pub rings_stand : (w : List ℕ) → l.at.bows ≤ length w → RingTables coords tol cells l w → Ringed l (take l.at.bows w)
  rings_stand w h b = ringed coords tol cells M K l (take l.at.bows w) s (rings_part w l.at.bows (omega arith) b) (length-take-le l.at.bows w h)

  -- the marks and the cells of faces
  pub marks_put : (w v : List ℕ) → l.keys ≤ length w → RingTables coords tol cells l w
      → v ≡ sets (sets w l.at.bows (map (λ c. bit (cell_bow coords tol l (take l.at.bows w) c)) (up_from 0 l.at.cell_count))) l.at.cells (owners_from 0 cells) → Marked coords tol cells l v
  marks_put w v h b e =
      let p = ends in
      let a = sets w l.at.bows marks in
      let na = length-sets w l.at.bows marks in
      let put : v ≡ sets a l.at.cells (owners_from 0 cells) =
      e ∙ ap (λ (x : List ℕ). sets (sets w l.at.bows x) l.at.cells (owners_from 0 cells)) (bows_are coords tol cells M K l (take l.at.bows w) s (rings_part w l.at.bows (omega arith) b)) in
      record {
        rings = rings_still a v l.at.cells (owners_from 0 cells) (omega arith) put (rings_still w a l.at.bows marks (omega arith) refl b);
        bows = holds_before a v l.at.cells (owners_from 0 cells) l.at.bows marks (omega arith) put (holds_put w a l.at.bows marks (omega arith) refl);
        owners = holds_put a v l.at.cells (owners_from 0 cells) (omega arith) put;
      }

  -- the keys and node sets
  pub nodes_put : (w v : List ℕ) → l.at.offsets ≤ length w → Marked coords tol cells l w
      → v ≡ sets (sets (sets w l.keys (keys_of l (take l.at.bows w) l.at.faces)) l.at.starts (starts_of 0 (sets_from l (take l.at.bows w) 0 l.at.faces))) l.at.sets (joined (sets_from l (take l.at.bows w) 0 l.at.faces)) → Tabled coords tol cells l v
  nodes_put w v h k e =
      let p = ends in
      let t = take l.at.bows w in
      let part = rings_part w l.at.bows (omega arith) k.rings in
      let keys = joined (map (sort leb) rs) in
      let a = sets w l.keys keys in
      let b = sets a l.at.starts (starts_of 0 nodes) in
      let na = length-sets w l.keys keys in
      let nb = length-sets a l.at.starts (starts_of 0 nodes) in
      let put : v ≡ sets b l.at.sets (joined nodes) =
      e
      ∙ ap (λ (x : List ℕ). sets (sets (sets w l.keys x) l.at.starts (starts_of 0 (sets_from l t 0 l.at.faces))) l.at.sets (joined (sets_from l t 0 l.at.faces))) (keys_are coords tol cells M K l t s part)
      ∙ ap (λ (x : List (List ℕ)). sets (sets a l.at.starts (starts_of 0 x)) l.at.sets (joined x)) (sets_are coords tol cells M K l t s part) in
      let past : (o : ℕ) (xs : List ℕ) → o + length xs ≤ l.keys → Holds w o xs → Holds v o xs =
      λ o xs q z.
      holds_before b v l.at.sets (joined nodes) o xs (omega arith) put
      (holds_before a b l.at.starts (starts_of 0 nodes) o xs (omega arith) refl (holds_before w a l.keys keys o xs q refl z)) in
      record {
        rings =
            rings_still b v l.at.sets (joined nodes) (omega arith) put
            (rings_still a b l.at.starts (starts_of 0 nodes) (omega arith) refl (rings_still w a l.keys keys (omega arith) refl k.rings));
        faces = record {
          bows = past l.at.bows marks (omega arith) k.bows;
          owners = past l.at.cells (owners_from 0 cells) (omega arith) k.owners;
          keys =
              holds_before b v l.at.sets (joined nodes) l.keys keys (omega arith) put
              (holds_before a b l.at.starts (starts_of 0 nodes) l.keys keys (omega arith) refl (holds_put w a l.keys keys (omega arith) refl));
          starts = holds_before b v l.at.sets (joined nodes) l.at.starts (starts_of 0 nodes) (omega arith) put (holds_put a b l.at.starts (starts_of 0 nodes) (omega arith) refl);
          sets = holds_put b v l.at.sets (joined nodes) (omega arith) put;
        };
      }

  -- a run of stores behind the tables
  pub tables_still : (w v : List ℕ) (o : ℕ) (xs : List ℕ) → l.at.offsets ≤ o → v ≡ sets w o xs → Tabled coords tol cells l w → Tabled coords tol cells l v
  tables_still w v o xs h e k =
      let p = ends in
      record { rings = rings_still w v o xs (omega arith) e k.rings; faces = faces_still w v o xs h e k.faces }
