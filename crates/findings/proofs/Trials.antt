-- The definitions, tried by computing: document 01's program line, a key held twice and thrice, the node limit.
use Prim.Native.Nat.{ℕ, ◌*◌}
use mathlib.Core.Path.{◌≡◌, refl}
use mathlib.Core.Bool.{true, false}
use mathlib.Core.List.{List, [], ◌∷◌, ◌++◌, map}
use lib.Ieee.{Float, binary64, of_bits, to_bits, of_int, neg, add, sub, mul, div, lt, le, eq, is_nan}
use lib.IntN.{pos}
use Rattle.laws.specs.Bytes.{bytes}
use Rattle.floats.specs.Floats.{absolute_of, larger_of}
use Rattle.floats.specs.Root.{sqrt}
use Rattle.geometry.specs.Coordinates.{count_off}
use Rattle.geometry.specs.Points.{point_sub, point_add, point_scale, point_dot, point_cross, length_of, point_at, share, centre_of}
use Rattle.geometry.specs.Scale.{largest_of, eps_of}
use Rattle.area.specs.AreaTest.{spread_of, area_of}
use Rattle.bow_tie.specs.Edges.{place_of, parallel_of, crossing_of, meeting_of, slack_of, on_edge, near, edges_meet}
use Rattle.bow_tie.specs.BowTie.{pair_meets, later_meets, bow_tie_of}
use Rattle.mesh.specs.Model.{Model, cells_of}
use Rattle.mesh.specs.Rings.{separator, rings_of, faces_from, number_from, numbered, faces_of, faces, same_key}
use Rattle.mesh.specs.Acceptance.{shape_off, cell_table, model_refusal}
use Rattle.snap.specs.Weld.{before_of, far_of, near_of, welded}
use Rattle.welding.specs.Used.{used_nodes, welded_used}
use Rattle.findings.specs.Findings.{overfull, partly, over_of, over_at, common, sharing, meets, meeting, partly_of, pair_at, kind1, kind2, kind3, kind4, full}
use Rattle.findings.specs.Rules.{repeats_of, bow_of, rules_with, rules_of, cells_in, full_of}
use Rattle.findings.specs.Records.{fields_of, centre_in, record_bytes, record_of, kept_of, kept_bytes}
use Rattle.findings.specs.Check.{totals_of}

-- ---- models

-- whole coordinates
abbrev whole : List ℕ → List Float
whole ns = map (λ n. of_int binary64 (pos n)) ns

-- the unit cube, nodes 0 to 7, and node 8 above node 0
abbrev cube : List ℕ
cube =
    0 ∷ 0 ∷ 0 ∷ 1 ∷ 0 ∷ 0 ∷ 1 ∷ 1 ∷ 0 ∷ 0 ∷ 1 ∷ 0 ∷
    0 ∷ 0 ∷ 1 ∷ 1 ∷ 0 ∷ 1 ∷ 1 ∷ 1 ∷ 1 ∷ 0 ∷ 1 ∷ 1 ∷
    0 ∷ 0 ∷ 2 ∷ []

-- flags 3, cap 9, tolerance 0.001
abbrev model_with : List ℕ → List ℕ → List ℕ → List ℕ → Model
model_with coords kinds ends words =
    record {
      coords = whole coords;
      kinds = kinds;
      ends = ends;
      words = words;
      tolerance = of_bits binary64 0x3f50_624d_d2f1_a9fc;
      flags = 3;
      cap = 9;
    }

abbrev hexahedron : List ℕ
hexahedron = 0 ∷ 1 ∷ 2 ∷ 3 ∷ 4 ∷ 5 ∷ 6 ∷ 7 ∷ []

-- the program line's: a tetrahedron on the cube
abbrev on_cube : Model
on_cube = model_with cube (1 ∷ 2 ∷ []) (4 ∷ 12 ∷ []) (4 ∷ 5 ∷ 6 ∷ 8 ∷ hexahedron)

-- the same with nodes of its own, which are welded to the cube's
abbrev beside : Model
beside =
    model_with (cube ++ (0 ∷ 0 ∷ 1 ∷ 1 ∷ 0 ∷ 1 ∷ 1 ∷ 1 ∷ 1 ∷ [])) (1 ∷ 2 ∷ []) (4 ∷ 12 ∷ [])
    (9 ∷ 10 ∷ 11 ∷ 8 ∷ hexahedron)

-- a tetrahedron twice
abbrev twice : Model
twice = model_with cube (1 ∷ 1 ∷ []) (4 ∷ 8 ∷ []) (4 ∷ 5 ∷ 6 ∷ 8 ∷ 4 ∷ 5 ∷ 6 ∷ 8 ∷ [])

-- a tetrahedron, and a PHED that holds one of its faces twice
abbrev thrice : Model
thrice = model_with cube (1 ∷ 4 ∷ []) (4 ∷ 11 ∷ []) (4 ∷ 5 ∷ 6 ∷ 8 ∷ 4 ∷ 5 ∷ 6 ∷ separator ∷ 6 ∷ 5 ∷ 4 ∷ [])

-- ---- what is computed of them

-- the records that are kept where so many bytes are lent
abbrev records : Model → ℕ → List ℕ
records m lent = kept_bytes (rules_of m) (totals_of m lent).kept (full_of m)

pub record Tried : Type 0 where
  -- the program line: its full list, its record's fields, and the record, with its centre (2/3, 1/3, 1)
  cube_accepted : model_refusal on_cube ≡ 0
  cube_listed : full_of on_cube ≡ partly 0 1 3 5 (4 ∷ 5 ∷ 6 ∷ []) ∷ []
  cube_fields : map fields_of (full_of on_cube) ≡ record { kind = 3; first = 0; second = 1; a = 3; b = 5; count = 3 } ∷ []
  cube_record : records on_cube 64
      ≡ bytes 32 0x0000_0003_0000_0005_0000_0003_0000_0001_0000_0000_0000_0003
      ++ bytes 32 0x3ff0_0000_0000_0000_3fd5_5555_5555_5555_3fe5_5555_5555_5555
  -- raw nodes decide a pair, not welded ones
  welded_apart : full_of beside ≡ []
  -- a key held twice, and thrice, by two cells
  key_twice : full_of twice ≡ []
  key_thrice : full_of thrice ≡ overfull 0 1 3 3 (4 ∷ 5 ∷ 6 ∷ []) (0 ∷ 1 ∷ 1 ∷ []) ∷ []
  -- 65,535 nodes pass, 65,536 are refused with 5
  nodes_most : count_off (3 * 65535) ≡ false
  nodes_over : count_off (3 * 65536) ≡ true

pub tried : Tried
unfolding of_bits to_bits of_int neg add sub mul div lt le eq is_nan absolute_of larger_of sqrt point_sub point_add point_scale point_dot point_cross length_of point_at share centre_of largest_of eps_of spread_of area_of place_of parallel_of crossing_of meeting_of slack_of on_edge near edges_meet pair_meets later_meets bow_tie_of cells_of rings_of faces_from number_from numbered faces_of faces same_key shape_off cell_table model_refusal before_of far_of near_of welded used_nodes welded_used over_of over_at common sharing meets meeting partly_of pair_at kind1 kind2 kind3 kind4 full repeats_of bow_of rules_with rules_of cells_in full_of fields_of centre_in record_bytes record_of kept_of kept_bytes totals_of
tried =
    record {
      cube_accepted = refl;
      cube_listed = refl;
      cube_fields = refl;
      cube_record = refl;
      welded_apart = refl;
      key_twice = refl;
      key_thrice = refl;
      nodes_most = refl;
      nodes_over = refl;
    }
