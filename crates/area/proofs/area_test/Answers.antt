-- `area::area_test` meets its contract: each return has the tests that led there.
use Prim.Native.Nat.{◌/◌}
use mathlib.Core.Path.{sym, ap, ◌∙◌}
use lib.Dec.{ltb}
use lib.ListN.{length}
use borrow.Author.Tests.{lt-ltb, le-ltb}
use Rattle.laws.specs.Refusals.{done}
use Rattle.geometry.specs.Points.{points_of}
use Rattle.geometry.specs.Coordinates.{count_off, tolerance_off, coordinates_off}
use Rattle.area.specs.AreaTest.{area_of, list_off, area_answer}
use Rattle.area.proofs.Refused.{row_count, row_length, row_tolerance, row_coordinate, row_list, row_none, in_nodes}
use Rattle.area.proofs.area_test.Goals as goal

pub returns-then-count_off : goal.returns-then-count_off
unfolding area_answer
returns-then-count_off c =
    let a = c.args in
    row_count (count_off (length a.coords.now)) (ltb 64 (length a.nodes.now)) (tolerance_off a.tol) (coordinates_off a.coords.now) (list_off (length a.coords.now / 3) a.nodes.now) (area_of a.tol (points_of a.coords.now a.nodes.now))
    (sym c.count_off.ensures ∙ c.if-count_off.true)

pub returns-then-nodes-gt64 : goal.returns-then-nodes-gt64
unfolding area_answer
returns-then-nodes-gt64 c =
    let a = c.args in
    row_length (count_off (length a.coords.now)) (ltb 64 (length a.nodes.now)) (tolerance_off a.tol) (coordinates_off a.coords.now) (list_off (length a.coords.now / 3) a.nodes.now) (area_of a.tol (points_of a.coords.now a.nodes.now))
    (sym c.count_off.ensures ∙ c.if-count_off.false) (lt-ltb 64 (length a.nodes.now) c.if-nodes-gt64.true)

pub returns-then-tolerance_off : goal.returns-then-tolerance_off
unfolding area_answer
returns-then-tolerance_off c =
    let a = c.args in
    row_tolerance (count_off (length a.coords.now)) (ltb 64 (length a.nodes.now)) (tolerance_off a.tol) (coordinates_off a.coords.now) (list_off (length a.coords.now / 3) a.nodes.now) (area_of a.tol (points_of a.coords.now a.nodes.now))
    (sym c.count_off.ensures ∙ c.if-count_off.false) (le-ltb 64 (length a.nodes.now) c.if-nodes-gt64.false)
    (sym c.tolerance_off.ensures ∙ c.if-tolerance_off.true)

pub returns-then-coordinates_off : goal.returns-then-coordinates_off
unfolding area_answer
returns-then-coordinates_off c =
    let a = c.args in
    row_coordinate (count_off (length a.coords.now)) (ltb 64 (length a.nodes.now)) (tolerance_off a.tol) (coordinates_off a.coords.now) (list_off (length a.coords.now / 3) a.nodes.now) (area_of a.tol (points_of a.coords.now a.nodes.now))
    (sym c.count_off.ensures ∙ c.if-count_off.false) (le-ltb 64 (length a.nodes.now) c.if-nodes-gt64.false)
    (sym c.tolerance_off.ensures ∙ c.if-tolerance_off.false)
    (sym c.coordinates_off.ensures ∙ c.if-coordinates_off.true)

pub returns-then-list_off : goal.returns-then-list_off
unfolding area_answer
returns-then-list_off c =
    let a = c.args in
    row_list (count_off (length a.coords.now)) (ltb 64 (length a.nodes.now)) (tolerance_off a.tol) (coordinates_off a.coords.now) (list_off (length a.coords.now / 3) a.nodes.now) (area_of a.tol (points_of a.coords.now a.nodes.now))
    (sym c.count_off.ensures ∙ c.if-count_off.false) (le-ltb 64 (length a.nodes.now) c.if-nodes-gt64.false)
    (sym c.tolerance_off.ensures ∙ c.if-tolerance_off.false)
    (sym c.coordinates_off.ensures ∙ c.if-coordinates_off.false)
    (sym c.list_off.ensures ∙ c.if-list_off.true)

pub area_of-requires : goal.area_of-requires
area_of-requires c =
    let a = c.args in in_nodes a.coords.now a.nodes.now (sym c.list_off.ensures ∙ c.if-list_off.false)

pub returns : goal.returns
unfolding area_answer
returns c =
    let a = c.args in
    ap done c.area_of.ensures
    ∙ row_none (count_off (length a.coords.now)) (ltb 64 (length a.nodes.now)) (tolerance_off a.tol) (coordinates_off a.coords.now) (list_off (length a.coords.now / 3) a.nodes.now) (area_of a.tol (points_of a.coords.now a.nodes.now))
    (sym c.count_off.ensures ∙ c.if-count_off.false) (le-ltb 64 (length a.nodes.now) c.if-nodes-gt64.false)
    (sym c.tolerance_off.ensures ∙ c.if-tolerance_off.false)
    (sym c.coordinates_off.ensures ∙ c.if-coordinates_off.false)
    (sym c.list_off.ensures ∙ c.if-list_off.false)
