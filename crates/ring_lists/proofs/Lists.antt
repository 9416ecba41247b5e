-- The lists of an accepted model: what their makers ask, and what they leave.
use Prim.Native.Nat.{ℕ, ◌+◌, ◌≤◌}
use mathlib.Core.Path.{◌≡◌, sym, ap, ap₂, ◌∙◌, subst}
use mathlib.Core.List.{List, map}
use native.Mathlib.Omega.{arith}
use lib.ListN.{length, take}
use lib.Seq.{sets}
use Rattle.laws.specs.Lists.{each}
use Rattle.laws.specs.Limits.{node_limit}
use Rattle.laws.specs.Merging.{region, AllBelow}
use Rattle.laws.proofs.Stores.{region_same}
use Rattle.geometry.specs.Coordinates.{node_count}
use Rattle.mesh.specs.Model.{Model, Raw, cells_of}
use Rattle.mesh.specs.Rings.{rings_of}
use Rattle.mesh.specs.Acceptance.{model_refusal}
use Rattle.mesh.specs.Steps.{ring_total}
use Rattle.mesh.proofs.ModelTable.{ring_words_lem}
use Rattle.mesh.proofs.Accepts.{Accepts, accepts}
use Rattle.mesh.proofs.CellWords.{few_nodes}
use Rattle.mesh.proofs.NodeNumbers.{cells_below}
use Rattle.snap.specs.Weld.{welded_by}
use Rattle.welding.specs.Steps.{welded_over}
use Rattle.welding.proofs.Used.{welds_words}
use Rattle.ring_lists.specs.Filling.{raw_rings, welded_rings}

module _ (m : Model) (ok : model_refusal m ≡ 0) where
  abbrev A : Accepts m
  A = accepts m ok

  abbrev cells : List Raw
  cells = cells_of m

  abbrev n : ℕ
  n = node_count m.coords

  -- the raw list is the rings of the cells
  pub raw_is_lem : raw_rings m ≡ each (λ r. r) (each rings_of cells)
  unfolding raw_rings
  raw_is_lem = ring_words_lem m

  pub raw_total : length (raw_rings m) ≡ ring_total (each rings_of cells)
  raw_total = ap length raw_is_lem

  -- the nodes are few
  pub few : (k : ℕ) → k ≡ n → k ≤ node_limit
  few k e = omega (arith, e, few_nodes m A)

  -- the words of the raw list are nodes
  pub raw_below : AllBelow n (raw_rings m)
  raw_below = subst (AllBelow n) (sym raw_is_lem) (cells_below n cells A.right)

  module _ (raw raw' : List ℕ) (room : length (raw_rings m) ≤ length raw) (put : raw' ≡ sets raw 0 (each (λ r. r) (each rings_of cells))) where
    -- the first R words of the list
    pub front : (r : ℕ) → r ≡ 0 + ring_total (each rings_of cells) → take r raw' ≡ raw_rings m
    front r e =
        let k : r ≡ length (raw_rings m) = omega (arith, raw_total) in
        ap (take r) (put ∙ ap (sets raw 0) (sym raw_is_lem))
        ∙ ap (λ (k : ℕ). take k (sets raw 0 (raw_rings m))) k
        ∙ region_same raw 0 (raw_rings m) (omega arith)

    pub raw_stored : raw' ≡ sets raw 0 (raw_rings m)
    raw_stored = put ∙ ap (sets raw 0) (sym raw_is_lem)

  -- the welded list: the map stands in w
  pub welded_stored : (welded welded' w l : List ℕ) → region (n + n) n w ≡ welded_over m.coords m.tolerance m.words → l ≡ raw_rings m
      → welded' ≡ sets welded 0 (map (welded_by (region (n + n) n w)) l) → welded' ≡ sets welded 0 (welded_rings m)
  unfolding welded_rings
  welded_stored welded welded' w l e q p =
      p ∙ ap₂ (λ (welds x : List ℕ). sets welded 0 (map (welded_by welds) x)) (e ∙ welds_words m A) q
