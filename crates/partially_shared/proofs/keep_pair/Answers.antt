-- `partially_shared::keep_pair` meets its contract.
use Prim.Native.Nat.{◌+◌, ◌-◌}
use mathlib.Core.Path.{◌≡◌}
use lib.ListN.{length, get_or}
use Rattle.geometry.specs.Points.{points_of, centre_of}
use Rattle.index.specs.Faces.{input, nodes_of}
use Rattle.index.proofs.Read.{of_index}
use Rattle.seek.specs.Candidates.{common}
use Rattle.layout.specs.ByCell.{plain_rules}
use Rattle.partially_shared.specs.Hits.{told_by}
use Rattle.partially_shared.proofs.Told.{told_fields, told_centre}
use Rattle.partially_shared.proofs.keep_pair.Goals as goal

pub returns : goal.returns
returns c tol =
    let a = c.args in
    let w = a.work.now in
    let m = get_or w (a.cx.now.layout.marks + a.b) 0 in
    let o = get_or w (a.cx.now.layout.others + a.b) 0 in
    let s = c.shared_of-s in
    let count = of_index c.new.result (λ q b. s.result.count ≡ length (common (nodes_of q (input q b) (m - 1)) (nodes_of q (input q b) o))) c.new.ensures s.ensures.count_value.0 in
    let centre =
    of_index c.new.result (λ q b. s.result.centre ≡ centre_of (points_of a.cx.now.coords.now (common (nodes_of q (input q b) (m - 1)) (nodes_of q (input q b) o))))
    c.new.ensures s.ensures.centre_value in
    c.keep.ensures (plain_rules a.cx.now.coords.now tol) (told_by a.cx.now.layout (input a.cx.now.layout.at w) a.c a.b m o)
    (told_fields a.cx.now.layout w a.c a.b m o _ c.requires.searching.below count)
    (told_centre a.cx.now.layout w a.cx.now.coords.now tol a.c a.b m o _ c.requires.searching.below centre)
