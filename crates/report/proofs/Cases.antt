-- A published case, and what it is for the definitions to agree with it. The table, Published, is written by tools/cases.py.
use Prim.Native.Nat.{ℕ, ◌*◌}
use mathlib.Core.Bool.{Bool, true, ◌&&◌}
use mathlib.Core.List.{List, [], ◌∷◌}
use lib.Dec.{eqb}
use lib.ListN.{take}
use lib.Ieee.{add, sub, mul, div, neg, lt, le, eq, is_nan, of_bits, to_bits, of_int}
use Rattle.laws.specs.Bytes.{bytes}
use Rattle.laws.specs.Limits.{program_records}
use Rattle.laws.specs.Lists.{only_if, each, eql}
use Rattle.laws.specs.Refusals.{refusal}
use Rattle.floats.specs.Floats.{absolute_of, larger_of}
use Rattle.floats.specs.Root.{sqrt}
use Rattle.geometry.specs.Points.{point_sub, point_add, point_scale, point_dot, point_cross, length_of, midpoint_of, point_at, share, centre_of}
use Rattle.geometry.specs.Scale.{largest_of, eps_of}
use Rattle.area.specs.AreaTest.{spread_of, area_of}
use Rattle.bow_tie.specs.BowTie.{pair_meets, later_meets, bow_tie_of}
use Rattle.bow_tie.specs.Edges.{place_of, parallel_of, crossing_of, meeting_of, slack_of, on_edge, near, edges_meet}
use Rattle.mesh.specs.Acceptance.{shape_off, cell_table, model_refusal, faces_in, work_needed}
use Rattle.mesh.specs.Model.{Model, cells_of}
use Rattle.mesh.specs.Rings.{rings_of, faces_from, number_from, numbered, faces_of, faces, same_key}
use Rattle.snap.specs.Weld.{before_of, far_of, near_of, welded}
use Rattle.welding.specs.Used.{used_nodes, welded_used}
use Rattle.model_file.specs.File.{decode}
use Rattle.findings.specs.Check.{totals_of}
use Rattle.findings.specs.Findings.{over_of, over_at, common, sharing, meets, meeting, partly_of, pair_at, kind1, kind2, kind3, kind4, full}
use Rattle.findings.specs.Records.{fields_of, centre_in, record_bytes, record_of, kept_of, kept_bytes}
use Rattle.findings.specs.Rules.{repeats_of, bow_of, rules_with, rules_of, cells_in, full_of}
use Rattle.report.specs.Text.{decimal, line_of, total_line, refused_line, report_text}
use Rattle.report.specs.Program.{program_table, report_of, output}

-- the bytes of standard input, those of standard output, and the finding records kept
pub record Case : Type 0 where
  pub input : List ℕ
  pub output : List ℕ
  pub records : List ℕ

-- from numbers: records of 32 bytes, the output as one, finding records of 64 bytes
abbrev pub case_of : ℕ → List ℕ → ℕ → ℕ → List ℕ → Case
case_of size ins length out recs =
    record { input = take size (each (bytes 32) ins); output = bytes length out; records = each (bytes 64) recs }

-- the records of an accepted model that the program keeps
abbrev pub kept_in : Model → List ℕ
kept_in m = kept_bytes (rules_of m) (totals_of m (64 * program_records)).kept (full_of m)

-- the output and the records are the definitions', which compute under these names
unfoldable pub agrees : Case → Bool
unfolding spread_of area_of pair_meets later_meets bow_tie_of place_of parallel_of crossing_of meeting_of slack_of on_edge near edges_meet totals_of over_of over_at common sharing meets meeting partly_of pair_at kind1 kind2 kind3 kind4 full fields_of centre_in record_bytes record_of kept_of kept_bytes repeats_of bow_of rules_with rules_of cells_in full_of absolute_of larger_of sqrt point_sub point_add point_scale point_dot point_cross length_of midpoint_of point_at share centre_of largest_of eps_of shape_off cell_table model_refusal faces_in work_needed cells_of rings_of faces_from number_from numbered faces_of faces same_key decode report_of output decimal line_of total_line refused_line report_text before_of far_of near_of welded used_nodes welded_used add sub mul div neg lt le eq is_nan of_bits to_bits of_int
agrees c =
    eql (output c.input) c.output
    && eql (only_if (eqb (refusal (program_table c.input)) 0) (kept_in (decode c.input))) c.records

abbrev pub all_agree : List Case → Bool
all_agree [] = true
all_agree (c ∷ cs) = agrees c && all_agree cs
