-- What each step asks of the model, the places and the slice.
use Prim.Native.Nat.{ℕ, ◌+◌, ◌*◌, ◌≤◌, ◌<◌, ◌^◌}
use mathlib.Core.Path.{◌≡◌}
use mathlib.Core.List.{List}
use native.Mathlib.Nat.{le_trans}
use native.Mathlib.Omega.{arith}
use lib.ListN.{length, take}
use Rattle.laws.specs.Lists.{each}
use Rattle.geometry.specs.Coordinates.{node_count}
use Rattle.mesh.specs.Model.{Model, Raw}
use Rattle.mesh.specs.Rings.{rings_of}
use Rattle.mesh.specs.Acceptance.{model_refusal, work_needed}
use Rattle.mesh.specs.Steps.{ring_total, Tallied}
use Rattle.faces.specs.Spans.{rings_in}
use Rattle.layout.specs.declared.Layout.{Layout}
use Rattle.layout.specs.Tables.{Ringed}
use Rattle.node_sets.specs.Sets.{TablesFit}
use Rattle.model_tables.proofs.Contents.{Settled, RingTables, Marked}
use Rattle.model_tables.proofs.Stages.{rings_stand}
use Rattle.model_tables.proofs.Building.{cells, kinds_are_lem, few, room}

-- n words hold the tables up to each of these places
pub record Inside (l : Layout) (n : ℕ) : Type 0 where
  pub bows : l.at.bows ≤ n
  pub keys : l.keys ≤ n
  pub offsets : l.at.offsets ≤ n
  pub pairs : l.pairs ≤ n

-- what lies before the scratch lies in the slice
scratch_in : (F C N M found marks others last pairs spare n : ℕ) → marks ≡ found + F → others ≡ marks + C → last ≡ others + C → pairs ≡ last + N → spare ≡ pairs + 2 * M
    → spare + 2 * M ≤ n → (found ≤ n) × (pairs ≤ n)
scratch_in F C N M found marks others last pairs spare n a b c d e h = omega arith

-- so does what lies before the indexes
tables_in : (R N X offsets index second found n : ℕ) → index ≡ offsets + (N + 2) → second ≡ index + R → found ≡ second + X → found ≤ n → offsets ≤ n
tables_in R N X offsets index second found n a b c h = omega arith

-- and each table
each_in : (R F C rings rows firsts bows cells keys starts sets offsets n : ℕ) → rows ≡ rings + R → firsts ≡ rows + (F + 1) → bows ≡ firsts + (C + 1) → cells ≡ bows + C → keys ≡ cells + F
    → starts ≡ keys + R → sets ≡ starts + (F + 1) → offsets ≡ sets + R → offsets ≤ n
    → (rings + R ≤ n) × (rows + (F + 1) ≤ n) × (firsts + (C + 1) ≤ n) × (bows ≤ n) × (keys ≤ n)
each_in R F C rings rows firsts bows cells keys starts sets offsets n a b c d e f g i h = omega arith

module _ (m : Model) (ok : model_refusal m ≡ 0) where
  -- the places: no sum wraps
  pub asks_plan : (f r n : ℕ) → Tallied m f r → n ≡ node_count m.coords → (r < 2 ^ 32) × (f < 2 ^ 32) × (length m.kinds < 2 ^ 32) × (n < 2 ^ 32) × (length m.words < 2 ^ 32)
  asks_plan f r n t e = let k = few m ok in (t.small, t.few, omega (arith, k.kinds), omega (arith, e, k.nodes), omega (arith, k.words))

  module _ (K : ℕ) (l : Layout) (s : Settled m.coords (cells m ok) (length m.words) K l) (w : List ℕ) (h : work_needed m ≤ length w) where
    abbrev cs : List Raw
    cs = cells m ok

    abbrev rs : List (List ℕ)
    rs = each rings_of cs

    -- all places lie in the slice
    within : l.spare + 2 * length m.words ≤ length w
    within = le_trans (room m ok K l s) h

    -- what lies before the scratch
    scratch : (l.at.found ≤ length w) × (l.pairs ≤ length w)
    scratch =
        let p = s.planned in
        scratch_in (length rs) (length cs) (node_count m.coords) (length m.words) l.at.found l.marks l.others l.last l.pairs l.spare (length w) p.marks_at p.others_at p.last_at p.pairs_at p.spare_at within

    -- what lies before the indexes
    below_index : l.at.offsets ≤ length w
    below_index =
        let p = s.planned in
        tables_in (ring_total rs) (node_count m.coords) (length rs + 1 + ring_total rs + (node_count m.coords + ring_total rs + 3) + ring_total rs) l.at.offsets l.at.index l.second l.at.found (length w) p.index_at p.second_at p.found_at scratch.0

    -- each table
    tables : (l.rings + ring_total rs ≤ length w) × (l.rows + (length rs + 1) ≤ length w) × (l.firsts + (length cs + 1) ≤ length w) × (l.at.bows ≤ length w) × (l.keys ≤ length w)
    tables =
        let p = s.planned in
        each_in (ring_total rs) (length rs) (length cs) l.rings l.rows l.firsts l.at.bows l.at.cells l.keys l.at.starts l.at.sets l.at.offsets (length w) p.rows_at p.firsts_at p.bows_at p.cells_at p.keys_at p.starts_at p.sets_at p.offsets_at below_index

    -- so do these
    pub inside : Inside l (length w)
    inside = record { bows = tables.3; keys = tables.4; offsets = below_index; pairs = scratch.1 }

    -- the rings
    pub asks_rings : (l.rings + ring_total (rings_in m) ≤ length w) × (l.rows + (length (rings_in m) + 1) ≤ length w) × (l.firsts + (length m.kinds + 1) ≤ length w)
    asks_rings = (tables.0, tables.1, omega (arith, tables.2, kinds_are_lem m ok))

    -- the marks and the cells of faces
    pub asks_marks : RingTables m.coords m.tolerance (cells m ok) l w → Ringed l (take l.at.bows w) × (l.at.bows + l.at.cell_count ≤ length w) × (l.at.nodes ≡ node_count m.coords) × (l.at.cells + length (rings_in m) ≤ length w)
    asks_marks b =
        let e = within in
        (rings_stand m.coords m.tolerance (cells m ok) (length m.words) K l s w inside.bows b, omega arith, s.planned.many_nodes, omega arith)

    -- the keys and node sets
    pub asks_nodes : Marked m.coords m.tolerance (cells m ok) l w → TablesFit l w
    asks_nodes b =
        let e = within in
        record {
          ringed = rings_stand m.coords m.tolerance (cells m ok) (length m.words) K l s w inside.bows b.rings;
          keys_at = omega arith;
          starts_at = omega arith;
          sets_at = omega arith;
          ends = omega arith;
          small = omega (arith, (few m ok).total);
        }

    -- the zeros
    pub asks_zeros : (l.marks + l.at.cell_count ≤ length w) × (l.last + l.at.nodes ≤ length w)
    asks_zeros =
        let e = within in
        (omega arith, omega arith)
