-- The definitions, tried by computing: a loose node that would lead a group, loose nodes dropped, and nodes added behind.
use Prim.Native.Nat.{ℕ}
use mathlib.Core.Path.{◌≡◌, refl}
use mathlib.Core.List.{List, [], ◌∷◌, map}
use lib.Ieee.{binary64, of_bits, of_int, neg, add, sub, mul, div, lt, le, eq, is_nan}
use lib.IntN.{pos}
use Rattle.laws.specs.Lists.{up_from}
use Rattle.floats.specs.Floats.{zero64, absolute_of, larger_of}
use Rattle.floats.specs.Root.{sqrt}
use Rattle.geometry.specs.Points.{point_sub, point_add, point_scale, point_dot, point_cross, length_of, point_at}
use Rattle.geometry.specs.Scale.{largest_of, eps_of}
use Rattle.area.specs.AreaTest.{spread_of, area_of}
use Rattle.bow_tie.specs.Edges.{place_of, parallel_of, crossing_of, meeting_of, slack_of, on_edge, near, edges_meet}
use Rattle.bow_tie.specs.BowTie.{pair_meets, later_meets, bow_tie_of}
use Rattle.mesh.specs.Model.{Model, model_of, TET4, HEX8, PHED, cells_of}
use Rattle.mesh.specs.Rings.{rings_of, faces_from, number_from, numbered, faces_of, faces, same_key}
use Rattle.mesh.specs.Acceptance.{shape_off, cell_table, model_refusal}
use Rattle.snap.specs.Weld.{before_of, far_of, near_of, welded}
use Rattle.welding.specs.Used.{used_nodes, welded_used, welds_of}
use Rattle.findings.specs.Findings.{partly, repeated, over_of, over_at, common, sharing, meets, meeting, partly_of, pair_at, kind1, kind2, kind3, kind4, full}
use Rattle.findings.specs.Rules.{repeats_of, bow_of, rules_with, rules_of, cells_in, full_of}
use Rattle.renumber.specs.Dropped.{dropped}
use Rattle.renumber.specs.Loose.{with_behind}

-- whole coordinates, tolerance 10, the topology check
abbrev model_with : List ℕ → List ℕ → List ℕ → List ℕ → Model
model_with coords kinds ends words = model_of (map (λ n. of_int binary64 (pos n)) coords) kinds ends words (of_int binary64 (pos 10)) 1 9

-- node 0 is near nodes 1 and 2, which are 16 apart
abbrev places : List ℕ
places = 0 ∷ 10 ∷ 0 ∷ 5 ∷ 18 ∷ 0 ∷ 5 ∷ 2 ∷ 0 ∷ 100 ∷ 0 ∷ 0 ∷ 100 ∷ 100 ∷ 100 ∷ []

-- a tetrahedron on nodes 1 to 4: node 0 is loose
abbrev led : Model
led = model_with places (TET4 ∷ []) (4 ∷ []) (1 ∷ 2 ∷ 3 ∷ 4 ∷ [])

-- the same with node 0 in a run of a second cell, which is dropped: it is used all the same
abbrev named : Model
named = model_with places (TET4 ∷ PHED ∷ []) (4 ∷ 5 ∷ []) (1 ∷ 2 ∷ 3 ∷ 4 ∷ 0 ∷ [])

-- nodes 1 and 2 are near each other, a loose node 0 is near none
abbrev close : Model
close = model_with (50 ∷ 50 ∷ 50 ∷ 5 ∷ 8 ∷ 0 ∷ 5 ∷ 2 ∷ 0 ∷ 100 ∷ 0 ∷ 0 ∷ 100 ∷ 100 ∷ 100 ∷ []) (TET4 ∷ []) (4 ∷ []) (1 ∷ 2 ∷ 3 ∷ 4 ∷ [])

-- a cube of side 100 on nodes 1 to 8 with a tetrahedron on it, whose top is node 10; nodes 0 and 9 are loose
abbrev on_cube : Model
on_cube =
    model_with
    (7 ∷ 7 ∷ 7 ∷ 0 ∷ 0 ∷ 0 ∷ 100 ∷ 0 ∷ 0 ∷ 100 ∷ 100 ∷ 0 ∷ 0 ∷ 100 ∷ 0
    ∷ 0 ∷ 0 ∷ 100 ∷ 100 ∷ 0 ∷ 100 ∷ 100 ∷ 100 ∷ 100 ∷ 0 ∷ 100 ∷ 100 ∷ 9 ∷ 9 ∷ 9 ∷ 0 ∷ 0 ∷ 200 ∷ [])
    (TET4 ∷ HEX8 ∷ []) (4 ∷ 12 ∷ []) (5 ∷ 6 ∷ 7 ∷ 10 ∷ 1 ∷ 2 ∷ 3 ∷ 4 ∷ 5 ∷ 6 ∷ 7 ∷ 8 ∷ [])

pub record Tried : Type 0 where
  -- the loose node does not draw 1 and 2 together
  led_accepted : model_refusal led ≡ 0
  led_welds : welds_of led ≡ 0 ∷ 1 ∷ 2 ∷ 3 ∷ 4 ∷ []
  led_listed : full_of led ≡ []
  led_dropped : full_of (dropped led) ≡ []
  -- with all nodes welded it would, and dropping it would change the list
  led_all_welded : full (rules_with led.coords led.tolerance (welded led.coords led.tolerance 5 (up_from 0 5))) 1 (cells_in led) ≡ repeated 0 1 2 ∷ []
  -- as a used node it does
  named_accepted : model_refusal named ≡ 0
  named_welds : welds_of named ≡ 0 ∷ 0 ∷ 0 ∷ 3 ∷ 4 ∷ []
  named_listed : full_of named ≡ repeated 0 1 2 ∷ []
  -- nodes that are near: named by their own numbers, and by the new ones
  close_accepted : model_refusal close ≡ 0
  close_listed : full_of close ≡ repeated 0 1 2 ∷ []
  close_dropped : full_of (dropped close) ≡ repeated 0 0 1 ∷ []
  -- a node added at the origin, near node 2 (5, 2, 0): it is loose
  close_behind : welds_of (with_behind close (zero64 ∷ zero64 ∷ zero64 ∷ [])) ≡ 0 ∷ 1 ∷ 1 ∷ 3 ∷ 4 ∷ 5 ∷ []
  -- common nodes renamed, cells and face numbers not
  cube_accepted : model_refusal on_cube ≡ 0
  cube_listed : full_of on_cube ≡ partly 0 1 3 5 (5 ∷ 6 ∷ 7 ∷ []) ∷ []
  cube_dropped : full_of (dropped on_cube) ≡ partly 0 1 3 5 (4 ∷ 5 ∷ 6 ∷ []) ∷ []

pub tried : Tried
unfolding of_bits of_int neg add sub mul div lt le eq is_nan absolute_of larger_of sqrt point_sub point_add point_scale point_dot point_cross length_of point_at largest_of eps_of spread_of area_of place_of parallel_of crossing_of meeting_of slack_of on_edge near edges_meet pair_meets later_meets bow_tie_of cells_of rings_of faces_from number_from numbered faces_of faces same_key shape_off cell_table model_refusal before_of far_of near_of welded used_nodes welded_used over_of over_at common sharing meets meeting partly_of pair_at kind1 kind2 kind3 kind4 full repeats_of bow_of rules_with rules_of cells_in full_of dropped with_behind
tried =
    record {
      led_accepted = refl;
      led_welds = refl;
      led_listed = refl;
      led_dropped = refl;
      led_all_welded = refl;
      named_accepted = refl;
      named_welds = refl;
      named_listed = refl;
      close_accepted = refl;
      close_listed = refl;
      close_dropped = refl;
      close_behind = refl;
      cube_accepted = refl;
      cube_listed = refl;
      cube_dropped = refl;
    }
