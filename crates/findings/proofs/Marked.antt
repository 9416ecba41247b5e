-- The lines that document 01 marks P, as one table, proved once by computing.
use Prim.Native.Nat.{ℕ}
use mathlib.Core.Path.{◌≡◌, refl}
use mathlib.Core.Bool.{true, false}
use mathlib.Core.List.{List, [], ◌∷◌}
use lib.Ieee.{Float, binary64, of_bits, of_int, neg, add, sub, mul, div, lt, le, eq, is_nan}
use lib.IntN.{pos}
use lib.ListN.{length}
use Rattle.laws.specs.Refusals.{done}
use Rattle.laws.specs.Lists.{each, up_from}
use Rattle.floats.specs.Floats.{zero64, one64, two64, absolute_of, larger_of}
use Rattle.floats.specs.Root.{sqrt}
use Rattle.floats.specs.RootAnswer.{root_answer}
use Rattle.geometry.specs.Points.{point_sub, point_add, point_scale, point_dot, point_cross, length_of, point_at, points_of}
use Rattle.geometry.specs.Scale.{largest_of, eps_of}
use Rattle.area.specs.AreaTest.{spread_of, area_of}
use Rattle.area.specs.declared.Area.TheVariants.{Thin, Spans}
use Rattle.bow_tie.specs.Edges.{place_of, parallel_of, crossing_of, meeting_of, slack_of, on_edge, near, edges_meet}
use Rattle.bow_tie.specs.BowTie.{pair_meets, later_meets, bow_tie_of}
use Rattle.mesh.specs.Model.{Model, model_of, PHED, cells_of}
use Rattle.snap.specs.Weld.{before_of, far_of, near_of, welded}
use Rattle.welding.specs.Used.{used_nodes, welded_used, welds_of}
use Rattle.findings.specs.Rules.{repeats_of}

abbrev quarter : Float
quarter = of_bits binary64 0x3fd0_0000_0000_0000

abbrev half : Float
half = of_bits binary64 0x3fe0_0000_0000_0000

abbrev three_quarters : Float
three_quarters = of_bits binary64 0x3fe8_0000_0000_0000

abbrev three_halves : Float
three_halves = of_bits binary64 0x3ff8_0000_0000_0000

abbrev four : Float
four = of_int binary64 (pos 4)

-- nodes that differ in x only
abbrev along_x : List Float → List Float
along_x xs = each (λ x. x ∷ zero64 ∷ zero64 ∷ []) xs

-- a model of such nodes, all in one cell (order 1 of document 02)
abbrev in_one_cell : List Float → Float → Model
in_one_cell xs t = model_of (along_x xs) (PHED ∷ []) (length xs ∷ []) (up_from 0 (length xs)) t 3 65535

-- (0,0,0), (1,0,0), (0,0.5,0)
abbrev corner : List Float
corner =
    zero64 ∷ zero64 ∷ zero64 ∷
    one64 ∷ zero64 ∷ zero64 ∷
    zero64 ∷ half ∷ zero64 ∷ []

-- (0,0,0), (1,1,0), (1,0,0), (0,1,0)
abbrev crossed : List Float
crossed =
    zero64 ∷ zero64 ∷ zero64 ∷
    one64 ∷ one64 ∷ zero64 ∷
    one64 ∷ zero64 ∷ zero64 ∷
    zero64 ∷ one64 ∷ zero64 ∷ []

-- the unit square
abbrev square : List Float
square =
    zero64 ∷ zero64 ∷ zero64 ∷
    one64 ∷ zero64 ∷ zero64 ∷
    one64 ∷ one64 ∷ zero64 ∷
    zero64 ∷ one64 ∷ zero64 ∷ []

abbrev ring : List ℕ
ring = 0 ∷ 1 ∷ 2 ∷ 3 ∷ []

-- The lines marked P, in document 01's order: roots, welded, repeated, area, ring.
pub record MarkedLines : Type 0 where
  root_of_zero : root_answer zero64 ≡ done zero64
  root_of_four : root_answer four ≡ done two64
  root_of_minus_zero : root_answer (neg zero64) ≡ done (neg zero64)
  root_of_two : root_answer two64 ≡ done (of_bits binary64 0x3ff6_a09e_667f_3bcd)
  welded_chain : welds_of (in_one_cell (zero64 ∷ three_quarters ∷ three_halves ∷ []) one64) ≡ 0 ∷ 0 ∷ 2 ∷ []
  welded_two : welds_of (in_one_cell (one64 ∷ zero64 ∷ []) one64) ≡ 0 ∷ 0 ∷ []
  welded_equal : welds_of (in_one_cell (one64 ∷ one64 ∷ []) zero64) ≡ 0 ∷ 1 ∷ []
  repeated_three : repeats_of (λ n. 0) (5 ∷ 7 ∷ 9 ∷ []) ≡ (5, 7) ∷ (7, 9) ∷ []
  repeated_back : repeats_of (λ n. 0) (5 ∷ 7 ∷ 5 ∷ []) ≡ (5, 7) ∷ []
  area_thin : area_of half (points_of corner (0 ∷ 1 ∷ 2 ∷ [])) ≡ Thin
  area_spans : area_of quarter (points_of corner (0 ∷ 1 ∷ 2 ∷ [])) ≡ Spans
  ring_crossed : bow_tie_of zero64 (points_of crossed ring) ≡ true
  ring_square : bow_tie_of zero64 (points_of square ring) ≡ false

pub marked : MarkedLines
unfolding root_answer sqrt absolute_of larger_of point_sub point_add point_scale point_dot point_cross length_of point_at largest_of eps_of spread_of area_of place_of parallel_of crossing_of meeting_of slack_of on_edge near edges_meet pair_meets later_meets bow_tie_of before_of far_of near_of cells_of welded used_nodes welded_used repeats_of of_bits of_int neg add sub mul div lt le eq is_nan
marked =
    record {
      root_of_zero = refl;
      root_of_four = refl;
      root_of_minus_zero = refl;
      root_of_two = refl;
      welded_chain = refl;
      welded_two = refl;
      welded_equal = refl;
      repeated_three = refl;
      repeated_back = refl;
      area_thin = refl;
      area_spans = refl;
      ring_crossed = refl;
      ring_square = refl;
    }
