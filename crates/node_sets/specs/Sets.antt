-- For internal contracts: the keys and node sets of all faces, and where they stand.
use Rattle.std.specs.Prelude.{ℕ, ◌+◌, ◌≤◌, ◌<◌, ◌^◌, List, map, ◌≡◌, leb, length, take}
use Rattle.laws.specs.Lists.{each, sort, up_from}
use Rattle.laws.specs.Merging.{region}
use Rattle.mesh.specs.Rings.{node_set}
use Rattle.layout.specs.declared.Layout.{Layout}
use Rattle.layout.specs.Tables.{ring_row, Ringed}

-- the keys of n faces, one after the other
abbrev pub keys_of : Layout → List ℕ → ℕ → List ℕ
keys_of l t n = each (λ g. sort leb (ring_row l t g)) (up_from 0 n)

-- the node sets of n faces from g on
abbrev pub sets_from : Layout → List ℕ → ℕ → ℕ → List (List ℕ)
sets_from l t g n = map (λ i. node_set (ring_row l t i)) (up_from g n)

-- the rings stand in w, and the keys, the starts and the node sets have their room
pub record TablesFit (l : Layout) (w : List ℕ) : Type 0 where
  pub ringed : Ringed l (take l.at.bows w)
  pub keys_at : l.at.bows ≤ l.keys
  pub starts_at : l.keys + l.total ≤ l.at.starts
  pub sets_at : l.at.starts + (l.at.faces + 1) ≤ l.at.sets
  pub ends : l.at.sets + l.total ≤ length w
  pub small : l.total < 2 ^ 32

-- the keys stand too
pub record Keyed (l : Layout) (w : List ℕ) : Type 0 where
  pub fit : TablesFit l w
  pub keyed : region l.keys l.total w ≡ each (λ g. sort leb (ring_row l (take l.at.bows w) g)) (up_from 0 l.at.faces)
