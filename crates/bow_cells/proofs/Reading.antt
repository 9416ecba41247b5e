-- A ring in welded numbers, in front of 64 words.
use Prim.Native.Nat.{ℕ, ◌+◌, ◌-◌, ◌≤◌, ◌<◌}
use mathlib.Core.Path.{◌≡◌, sym, ap, ap₂, ◌∙◌, subst}
use mathlib.Core.List.{List, map}
use native.Mathlib.Omega.{arith}
use lib.Ieee.{Float}
use lib.ListN.{length, take, drop, length-map}
use lib.Seq.{sets}
use Rattle.laws.specs.Merging.{region, AllBelow}
use Rattle.laws.proofs.Stores.{region-take, region_same, length-region}
use Rattle.geometry.specs.Coordinates.{node_count}
use Rattle.geometry.specs.Points.{points_of}
use Rattle.geometry.specs.Steps.{InNodes}
use Rattle.bow_tie.specs.BowTie.{bow_tie_of}
use Rattle.snap.specs.Weld.{welded_by}
use Rattle.welding.proofs.Through.{slice_region}
use Rattle.layout.specs.declared.Layout.{Layout}
use Rattle.layout.specs.Tables.{ring_row, Ringed}
use Rattle.layout.specs.ByCell.{ring_bow}
use Rattle.bow_cells.proofs.Welded.{below_welded, in_nodes}

-- a ring in welded numbers
abbrev welded_ring : Layout → List ℕ → ℕ → List ℕ
welded_ring l t g = map (welded_by (region l.weld l.at.nodes t)) (ring_row l t g)

module _ (l : Layout) (w : List ℕ) (f : Ringed l (take l.at.bows w)) (g : ℕ) (h : g < l.at.faces) (ring : List ℕ) (is : ring ≡ ring_row l (take l.at.bows w) g) where
  -- there are at most 64, each a node
  pub ring_short : length ring ≤ 64
  ring_short = omega (arith, ap length is, f.short g h)

  pub ring_known : AllBelow l.at.nodes ring
  ring_known = subst (AllBelow l.at.nodes) (sym is) (f.known g h)

  welded_long : length (welded_ring l (take l.at.bows w) g) ≡ length ring
  welded_long = length-map (ring_row l (take l.at.bows w) g) (welded_by (region l.weld l.at.nodes (take l.at.bows w))) ∙ ap length (sym is)

  -- put in front of 64 words it is their first part
  pub loaded : (own own' : List ℕ) → length own ≡ 64 → own' ≡ sets own 0 (map (welded_by (take (l.weld + l.at.nodes - l.weld) (drop l.weld w))) ring)
      → take (length ring) own' ≡ welded_ring l (take l.at.bows w) g
  loaded own own' long put =
      let welds_are : region l.weld l.at.nodes w ≡ region l.weld l.at.nodes (take l.at.bows w) = sym (region-take l.weld l.at.nodes l.at.bows w f.weld_at) in
      let part = slice_region w l.weld l.at.nodes ∙ welds_are in
      ap₂ (λ (m : ℕ) (x : List ℕ). take m x) (sym welded_long) (put ∙ ap₂ (λ (a b : List ℕ). sets own 0 (map (welded_by a) b)) part is)
      ∙ region_same own 0 (welded_ring l (take l.at.bows w) g) (omega (arith, welded_long, ring_short, long))

  -- it is short, and its words are nodes
  pub asked : (c : List Float) → l.at.nodes ≡ node_count c → (part : List ℕ) → part ≡ welded_ring l (take l.at.bows w) g → InNodes c part × (length part ≤ 64)
  asked c n part at =
      let welds = region l.weld l.at.nodes (take l.at.bows w) in
      let long : l.at.nodes ≤ length welds = omega (arith, length-region l.weld l.at.nodes (take l.at.bows w) (omega (arith, f.weld_at, f.whole))) in
      let below = below_welded l.at.nodes welds (ring_row l (take l.at.bows w) g) f.welds long (f.known g h) in
      (in_nodes c part (subst (λ (k : ℕ). AllBelow k part) n (subst (AllBelow l.at.nodes) (sym at) below)), omega (arith, ap length at, welded_long, ring_short))

  -- whether it meets itself is the answer
  pub answered : (c : List Float) (tol : Float) (part : List ℕ) → part ≡ welded_ring l (take l.at.bows w) g → bow_tie_of tol (points_of c part) ≡ ring_bow c tol l (take l.at.bows w) g
  unfolding ring_bow
  answered c tol part at = ap (λ (r : List ℕ). bow_tie_of tol (points_of c r)) at
