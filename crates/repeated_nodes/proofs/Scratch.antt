-- What the listing of repeated pairs finds and leaves in the scratch of the layout.
use Prim.Native.Nat.{ℕ, ◌+◌, ◌-◌, ◌*◌, ◌≤◌}
use mathlib.Core.Path.{◌≡◌, sym, ap, ◌∙◌, subst}
use mathlib.Core.List.{List, map}
use native.Mathlib.Omega.{arith}
use lib.ListN.{length, take}
use lib.Seq.{take-take}
use Rattle.laws.specs.Merging.{region, AllBelow}
use Rattle.laws.proofs.Stores.{region-take}
use Rattle.snap.specs.Weld.{welded_by}
use Rattle.findings.specs.Rules.{repeats_of}
use Rattle.pair_sort.specs.Pairs.{flat, pairs_in}
use Rattle.pair_sort.proofs.PairLaws.{pairs_flat}
use Rattle.repeats.specs.declared.Regions.{Regions}
use Rattle.mesh.specs.Rings.{nodes_in}
use Rattle.repeats.specs.Repeats.{Ready, repeats_in, Listed}
use Rattle.index.specs.Faces.{input}
use Rattle.layout.specs.declared.Layout.{Layout}
use Rattle.layout.specs.Tables.{Standing, Still}
use Rattle.layout.specs.ByCell.{repeat_cell}
use Rattle.layout.proofs.Again.{still}
use Rattle.repeated_nodes.specs.OfCell.{of_cell}
use Rattle.repeated_nodes.proofs.Nodes.{repeats_below}

-- the regions of the layout that the listing uses
abbrev pub scratch_of : Layout → Regions
scratch_of l = record { nodes = l.at.nodes; weld = l.weld; last = l.last; pairs = l.pairs; spare = l.spare }

module _ (l : Layout) (w words : List ℕ) (s : Standing l w) (few : length words ≤ l.words) (known : AllBelow l.at.nodes (nodes_in words)) where
  -- the welded numbers stand below the index
  weld_same : region l.weld l.at.nodes (input l.at w) ≡ region l.weld l.at.nodes w
  weld_same = region-take l.weld l.at.nodes l.at.offsets w s.faced.weld_at

  -- the marks of cells and what stands before them lie before `last`
  found_first : l.at.found ≤ l.last
  found_first = omega (arith, s.spaced.marks_at, s.spaced.others_at, s.spaced.last_at)

  -- the listing can begin
  pub ready : Ready words w (scratch_of l)
  ready = record {
    first = omega (arith, s.faced.weld_at, s.below, found_first);
    second = s.spaced.pairs_at;
    third = omega (arith, s.spaced.spare_at, few);
    fourth = omega (arith, s.spaced.ends, few);
    small = omega (arith, s.spaced.few_nodes);
    clean = s.fresh;
    inside = known;
    welded = subst (AllBelow l.at.nodes) weld_same s.faced.welds;
  }

  module _ (v : List ℕ) (r : ℕ) (d : Listed words w v (scratch_of l) r) where
    -- the pairs listed stand behind one another
    pub listed : region l.pairs (l.pairs + 2 * r - l.pairs) v ≡ flat (repeats_in (scratch_of l) w words)
    listed = let n : l.pairs + 2 * r - l.pairs ≡ 2 * r = omega arith in ap (λ (k : ℕ). region l.pairs k v) n ∙ d.stored

    -- they are of nodes
    pub pairs_below : AllBelow l.at.nodes (region l.pairs (l.pairs + 2 * r - l.pairs) v)
    pairs_below = subst (AllBelow l.at.nodes) (sym listed) (repeats_below l.at.nodes (welded_by (region l.weld l.at.nodes w)) words known)

    -- and the cell's
    repeats_are : pairs_in (region l.pairs (l.pairs + 2 * r - l.pairs) v) ≡ repeats_in (scratch_of l) w words
    repeats_are = ap pairs_in listed ∙ pairs_flat (repeats_in (scratch_of l) w words)

    -- as many as said
    pub pairs_many : length (pairs_in (region l.pairs (l.pairs + 2 * r - l.pairs) v)) ≡ r
    pairs_many = ap length repeats_are ∙ sym d.count

    -- so they are the cell's findings
    pub pairs_found : (c : ℕ) → map (of_cell c) (pairs_in (region l.pairs (l.pairs + 2 * r - l.pairs) v)) ≡ repeat_cell l (input l.at w) c words
    unfolding repeat_cell
    pairs_found c = ap (map (of_cell c)) (repeats_are ∙ ap (λ (t : List ℕ). repeats_of (welded_by t) words) (sym weld_same))

    -- and all else stands as before
    pub still_listed : Still l w v
    still_listed =
        still l w v s
        (sym (take-take l.at.found l.last v found_first) ∙ ap (take l.at.found) d.front ∙ take-take l.at.found l.last w found_first)
        d.size
        (sym (region-take l.marks l.at.cell_count l.last v marks_first)
        ∙ ap (region l.marks l.at.cell_count) d.front
        ∙ region-take l.marks l.at.cell_count l.last w marks_first
        ∙ s.unmarked)
        d.clean
      where
        marks_first : l.marks + l.at.cell_count ≤ l.last
        marks_first = omega (arith, s.spaced.others_at, s.spaced.last_at)
