-- What `list_repeats` asks and gives.
use Rattle.std.specs.Prelude.{ℕ, ◌+◌, ◌*◌, ◌≤◌, ◌<◌, ◌^◌, ◌≡◌, List, length, take, drop, replicate}
use Rattle.laws.specs.Merging.{region, AllBelow}
use Rattle.snap.specs.Weld.{welded_by}
use Rattle.findings.specs.Rules.{repeats_of}
use Rattle.pair_sort.specs.Pairs.{flat}
use Rattle.repeats.specs.declared.Regions.{Regions}
use Rattle.mesh.specs.Rings.{nodes_in}

-- the regions lie one behind the other; marks are zero; words other than separators, and welded numbers, are nodes
pub record Ready (words w : List ℕ) (at : Regions) : Type 0 where
  pub first : at.weld + at.nodes ≤ at.last
  pub second : at.last + at.nodes ≤ at.pairs
  pub third : at.pairs + 2 * length words ≤ at.spare
  pub fourth : at.spare + 2 * length words ≤ length w
  pub small : at.nodes < 2 ^ 32
  pub clean : region at.last at.nodes w ≡ replicate at.nodes 0
  pub inside : AllBelow at.nodes (nodes_in words)
  pub welded : AllBelow at.nodes (region at.weld at.nodes w)

-- the repeated pairs of a cell, under the welded numbers of the region
abbrev pub repeats_in : Regions → List ℕ → List ℕ → List (ℕ × ℕ)
repeats_in at w words = repeats_of (welded_by (region at.weld at.nodes w)) words

-- they stand in their region, the marks are zero again, and what lies before the marks and behind the spare room is as it was
pub record Listed (words w v : List ℕ) (at : Regions) (r : ℕ) : Type 0 where
  pub count : r ≡ length (repeats_in at w words)
  pub stored : region at.pairs (2 * r) v ≡ flat (repeats_in at w words)
  pub front : take at.last v ≡ take at.last w
  pub clean : region at.last at.nodes v ≡ replicate at.nodes 0
  pub behind : drop (at.spare + 2 * length words) v ≡ drop (at.spare + 2 * length words) w
  pub size : length v ≡ length w
  pub few : r ≤ length words
