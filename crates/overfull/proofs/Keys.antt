-- The key of a face.
use Prim.Native.Nat.{ℕ, ◌≤◌, ◌<◌}
use mathlib.Core.Path.{◌≡◌, ap, ◌∙◌}
use mathlib.Core.List.{List}
use native.Mathlib.Omega.{arith}
use lib.Dec.{leb}
use lib.ListN.{length}
use lib.Ieee.{Float}
use Rattle.laws.proofs.Bounds.{below_at}
use Rattle.laws.proofs.Sorting.{length-sort}
use Rattle.geometry.specs.Steps.{InNodes}
use Rattle.geometry.specs.Coordinates.{node_count}
use Rattle.index.specs.Faces.{input}
use Rattle.layout.specs.declared.Layout.{Layout}
use Rattle.layout.specs.Tables.{ring_row, key_row, Faced}

module _ (l : Layout) (w : List ℕ) (f : Faced l (input l.at w)) (g : ℕ) (h : g < l.at.faces) where
  -- the tables
  abbrev t : List ℕ
  t = input l.at w

  -- a key has at most 64 words
  pub key_short : length (key_row l t g) ≤ 64
  key_short = omega (arith, ap length (f.keyed g h) ∙ length-sort leb (ring_row l t g), f.short g h)

  -- which are nodes
  pub key_nodes : (c : List Float) → l.at.nodes ≡ node_count c → InNodes c (key_row l t g)
  key_nodes c e i k = omega (arith, e, below_at l.at.nodes (key_row l t g) i (f.known g h) k)
