-- The tables of an accepted model: cleared behind, under the final places, and built.
use Prim.Native.Nat.{ℕ, ◌+◌, ◌*◌, ◌≤◌}
use mathlib.Core.Path.{◌≡◌, refl, sym, ap, ◌∙◌, subst}
use mathlib.Core.List.{List, map}
use native.Mathlib.Nat.{le_trans}
use native.Mathlib.Omega.{arith}
use lib.Ieee.{Float}
use lib.ListN.{length, replicate, length-replicate}
use lib.Seq.{sets, length-sets, length-take-le}
use Rattle.laws.specs.Lists.{each}
use Rattle.laws.specs.Merging.{AllBelow}
use Rattle.laws.proofs.Members.{below-distinct}
use Rattle.geometry.specs.Coordinates.{node_count}
use Rattle.mesh.specs.Model.{Model, Raw, cells_of}
use Rattle.mesh.specs.Rings.{nodes_in, rings_of, node_set}
use Rattle.mesh.specs.Acceptance.{model_refusal, faces_in, work_needed}
use Rattle.mesh.specs.Steps.{ring_total, Tallied}
use Rattle.mesh.proofs.Accepts.{accepts}
use Rattle.mesh.proofs.NodeNumbers.{cells_below}
use Rattle.faces.proofs.Rings.{faces_are_lem, words_are}
use Rattle.mesh.proofs.WellCells.{well_cells, kept_model}
use Rattle.laws.specs.Limits.{cell_limit, word_limit}
use borrow.Author.Tests.{ltb-false}
use Rattle.welding.specs.Used.{welded_used}
use Rattle.welding.specs.Steps.{welded_over}
use Rattle.welding.proofs.Used.{used-words, welds_words}
use Rattle.mesh.proofs.CellWords.{cells_count, cells_words, words_low, few_nodes}
use Rattle.findings.specs.Rules.{rules_of, rules_with}
use Rattle.index.specs.Faces.{input, Room}
use Rattle.layout.specs.declared.Layout.{Layout}
use Rattle.layout.specs.Tables.{Spaced}
use Rattle.layout.specs.Shown.{Shows, Built}
use Rattle.tables.proofs.Lengths.{cells_small}
use Rattle.model_tables.specs.Planned.{Planned}
use Rattle.model_tables.proofs.Sizes.{sized_cells, sized_many, sets_total}
use Rattle.model_tables.proofs.Reading.{holds_put, holds_before, holds_long}
use Rattle.model_tables.proofs.Contents.{Settled, RingTables, FaceTables, Tabled, Cleared}
use Rattle.model_tables.proofs.Ringing.{welds_held, first_at}
use Rattle.model_tables.proofs.Facing.{bow_read, faces_are_lem as faces_shown, faced}
use Rattle.model_tables.proofs.Stages.{rings_part, faces_part, tables_still}

-- the places with N words of node sets
abbrev pub sized : Layout → ℕ → Layout
sized l N = record l { at = record l.at { words = N } }

module _ (coords : List Float) (tol : Float) (cells : List Raw) (M K : ℕ) (l : Layout) (s : Settled coords cells M K l) where
  -- where that number is another, all else is as before
  pub settled_again : (N : ℕ) → Settled coords cells M N (sized l N)
  settled_again N =
      let p = s.planned in
      record {
        well = s.well;
        below = s.below;
        used = s.used;
        planned = record {
          many_total = p.many_total;
          many_faces = p.many_faces;
          many_cells = p.many_cells;
          many_nodes = p.many_nodes;
          many_words = p.many_words;
          many_sets = refl;
          weld_at = p.weld_at;
          rings_at = p.rings_at;
          rows_at = p.rows_at;
          firsts_at = p.firsts_at;
          bows_at = p.bows_at;
          cells_at = p.cells_at;
          keys_at = p.keys_at;
          starts_at = p.starts_at;
          sets_at = p.sets_at;
          offsets_at = p.offsets_at;
          index_at = p.index_at;
          second_at = p.second_at;
          found_at = p.found_at;
          marks_at = p.marks_at;
          others_at = p.others_at;
          last_at = p.last_at;
          pairs_at = p.pairs_at;
          spare_at = p.spare_at;
        };
      }

  -- zeros put behind the tables
  pub zeros_put : (w v : List ℕ) → l.pairs ≤ length w → Tabled coords tol cells l w → v ≡ sets (sets w l.marks (replicate l.at.cell_count 0)) l.last (replicate l.at.nodes 0) → Cleared coords tol cells l v
  zeros_put w v h k e =
      let p = s.planned in
      let x : List ℕ = replicate l.at.cell_count 0 in
      let y : List ℕ = replicate l.at.nodes 0 in
      let nx : length x ≡ l.at.cell_count = length-replicate l.at.cell_count 0 in
      let ny : length y ≡ l.at.nodes = length-replicate l.at.nodes 0 in
      let a = sets w l.marks x in
      let na = length-sets w l.marks x in
      record {
        tables = tables_still coords tol cells M K l s a v l.last y (omega arith) e (tables_still coords tol cells M K l s w a l.marks x (omega arith) refl k);
        unmarked = holds_long v l.marks l.at.cell_count x (sym nx) (holds_before a v l.last y l.marks x (omega arith) e (holds_put w a l.marks x (omega arith) refl));
        fresh = holds_long v l.last l.at.nodes y (sym ny) (holds_put a v l.last y (omega arith) e);
      }

  -- the same tables, where the number of words of node sets is known
  pub placed_again : (N : ℕ) (w : List ℕ) → Cleared coords tol cells l w → Cleared coords tol cells (sized l N) w
  placed_again N w k =
      let r = k.tables.rings in
      let f = k.tables.faces in
      record {
        tables = record {
          rings = record { welds = r.welds; rings = r.rings; rows = r.rows; firsts = r.firsts };
          faces = record { bows = f.bows; owners = f.owners; keys = f.keys; starts = f.starts; sets = f.sets };
        };
        unmarked = k.unmarked;
        fresh = k.fresh;
      }

module _ (m : Model) (ok : model_refusal m ≡ 0) where
  -- the model's cells, their rings, and how many words it has
  abbrev pub cells : List Raw
  cells = cells_of m

  abbrev rs : List (List ℕ)
  rs = each rings_of cells

  abbrev M : ℕ
  M = length m.words

  -- as many cells as kinds
  pub kinds_are_lem : length cells ≡ length m.kinds
  kinds_are_lem = cells_count m (accepts m ok)

  -- at most so many cells, words, nodes, faces and ring words
  pub record Few : Type 0 where
    pub kinds : length m.kinds ≤ 16384
    pub words : length m.words ≤ 262144
    pub nodes : node_count m.coords ≤ 65535
    pub rings : 3 * length rs ≤ ring_total rs
    pub total : ring_total rs ≤ 655360

  -- an accepted model has few of all
  pub few : Few
  few =
      let a = accepts m ok in
      let k = kept_model m ok in
      let kinds : length m.kinds ≤ 16384 = ltb-false cell_limit (length m.kinds) a.cells in
      let words : length m.words ≤ 262144 = ltb-false word_limit (length m.words) a.words in
      record {
        kinds = kinds;
        words = words;
        nodes = few_nodes m a;
        rings = sized_many rs (sized_cells cells (well_cells cells k.well));
        total = omega (arith, kinds, words, kinds_are_lem, ap length (cells_words m a), cells_small cells (well_cells cells k.well));
      }

  -- the map over the nodes that the words name is that of the cells
  pub welds_are : welded_over m.coords m.tolerance m.words ≡ welded_used m.coords m.tolerance cells
  welds_are = welds_words m (accepts m ok)

  -- what the acceptance counted
  pub counts_are : (f r : ℕ) → Tallied m f r → (r ≡ ring_total rs) × (f ≡ length rs)
  counts_are f r t = (t.words ∙ words_are m, t.faces ∙ faces_are_lem m)

  -- the places are those of the model's tables
  pub settled : (f r n : ℕ) → Tallied m f r → n ≡ node_count m.coords → (K : ℕ) (l : Layout) → Planned r f (length m.kinds) n M K l → Settled m.coords cells M K l
  settled f r i t is K l placed =
      let e = counts_are f r t in
      let p = subst (λ (j : ℕ). Planned r f (length m.kinds) j M K l) is placed in
      let n = node_count m.coords in
      record {
        well = well_cells cells (kept_model m ok).well;
        below = cells_below n cells (accepts m ok).right;
        used = subst (AllBelow n) (sym (used-words m (accepts m ok))) (below-distinct n (nodes_in m.words) (words_low m (accepts m ok)));
        planned =
            subst (λ (i : ℕ). Planned (ring_total rs) (length rs) i n M K l) (sym kinds_are_lem)
            (subst (λ (i : ℕ). Planned (ring_total rs) i (length m.kinds) n M K l) e.1 (subst (λ (i : ℕ). Planned i f (length m.kinds) n M K l) e.0 p));
      }

  module _ (K : ℕ) (l : Layout) (s : Settled m.coords cells M K l) where
    -- the work has room for all
    pub room : l.spare + 2 * M ≤ work_needed m
    unfolding work_needed
    room = let p = s.planned in omega (arith, kinds_are_lem, faces_are_lem m, words_are m, few.rings)

    module _ (n : ℕ) (end : l.spare + 2 * M ≤ n) where
      -- the index ends in the slice
      index_in : l.at.found + l.at.faces ≤ n
      index_in = let p = s.planned in omega arith

      -- so do the tables
      tables_in : l.at.offsets ≤ n
      tables_in = let p = s.planned in omega arith

      module _ (size : K ≡ ring_total (map node_set rs)) where
        -- the index has its room
        roomy : Room l.at n
        roomy =
            let p = s.planned in
            let most = sets_total rs in
            record { index_at = omega arith; found_at = omega arith; ends = index_in; small = (omega (arith, few.total), omega (arith, few.total, few.rings)) }

        -- and the scratch
        spaced : Spaced l n
        spaced =
            let p = s.planned in
            let most = sets_total rs in
            record {
              few_total = omega (arith, few.total);
              few_below = omega (arith, few.total, few.rings, few.kinds, kinds_are_lem, few.nodes);
              second_at = omega arith;
              second_ends = omega arith;
              few_words = omega (arith, few.total);
              few_faces = omega (arith, few.total, few.rings);
              few_cells = omega (arith, few.kinds, kinds_are_lem);
              few_nodes = omega (arith, few.nodes);
              few = omega (arith, few.words);
              marks_at = omega arith;
              others_at = omega arith;
              last_at = omega arith;
              pairs_at = omega arith;
              spare_at = omega arith;
              ends = omega arith;
            }

    module _ (w : List ℕ) (enough : work_needed m ≤ length w) (k : Cleared m.coords m.tolerance cells l w) (size : K ≡ ring_total (map node_set rs)) where
      -- the words below the index
      abbrev t : List ℕ
      t = input l.at w

      -- the tables of rings there
      rings_in_lem : RingTables m.coords m.tolerance cells l t
      rings_in_lem = let p = s.planned in rings_part m.coords m.tolerance cells M K l s w l.at.offsets (omega arith) k.tables.rings

      -- and of faces
      faces_in_lem : FaceTables m.coords m.tolerance cells l t
      faces_in_lem = faces_part m.coords m.tolerance cells M K l s w l.at.offsets (omega arith) k.tables.faces

      -- they show the model
      shows : Shows m l t
      unfolding cells_of faces_in rules_of rules_with
      shows =
          let p = s.planned in
          record {
            nodes = p.many_nodes;
            cells = p.many_cells;
            words = p.many_words;
            faces = faces_shown m.coords m.tolerance cells M K l t s rings_in_lem faces_in_lem;
            firsts = first_at m.coords m.tolerance cells M K l t s rings_in_lem;
            bows = bow_read m.coords m.tolerance cells M K l t s rings_in_lem faces_in_lem;
            welds = welds_held m.coords m.tolerance cells M K l t s rings_in_lem;
          }

      -- all is built
      pub built : Built m l w
      built =
          let end : l.spare + 2 * M ≤ length w = le_trans room enough in
          record {
            tabled = record {
              faced = faced m.coords m.tolerance cells M K l t s rings_in_lem faces_in_lem (length-take-le l.at.offsets w (tables_in (length w) end)) size;
              room = roomy (length w) end size;
              spaced = spaced (length w) end size;
              unmarked = k.unmarked;
              fresh = k.fresh;
            };
            shows = shows;
          }
