-- `bow_cells::Polygons::mark_cells` meets its contract: as many marks as turns are there.
use Prim.Native.Nat.{ℕ, ◌≤◌, ◌<◌}
use mathlib.Core.Path.{◌≡◌, refl, ap, ◌∙◌}
use mathlib.Core.Bool.{Bool, true, false}
use mir.Val.{bool_byte}
use mathlib.Core.List.{List, map, ◌++◌}
use native.Mathlib.Omega.{arith}
use lib.ListN.{length, take, drop, length-map}
use lib.Seq.{sets, take_all, length-take-le}
use Rattle.laws.specs.Lists.{up_from}
use Rattle.laws.proofs.ListLaws.{length-up_from}
use Rattle.layout.specs.ByCell.{cell_bow, bit}
use Rattle.layout.specs.Views.{ringed_in}
use Rattle.layout.proofs.Split.{front_put}
use Rattle.bow_cells.proofs.Cells.{mark_more}
use Rattle.bow_cells.proofs.polygons.Polygons.mark_cells.Goals as goal

-- a bit as the library makes it
bit_is : (b : Bool) → bool_byte b ≡ bit b
bit_is true = refl
bit_is false = refl

pub loop-c-preserved : goal.loop-c-preserved
loop-c-preserved c =
    let p = c.args.self.now in
    let n = p.rings.layout.now.at.cell_count in
    let f : ℕ → ℕ = (λ (i : ℕ). bit (cell_bow p.coords.now p.tolerance p.rings.layout.now (ringed_in p.rings) i)) in
    let h : c.loop-c.c < n = omega (arith, c.loop-c-test.true, length-take-le n c.args.marks.now c.requires) in
    mark_more f (take n c.args.marks.now) c.loop-c.mark-items n c.loop-c.c c.from.result c.loop-c.invariant h (c.from.ensures ∙ bit_is c.cell_meets.result ∙ ap bit c.cell_meets.ensures)

pub returns : goal.returns
returns c =
    let p = c.args.self.now in
    let n = p.rings.layout.now.at.cell_count in
    let f : ℕ → ℕ = (λ (i : ℕ). bit (cell_bow p.coords.now p.tolerance p.rings.layout.now (ringed_in p.rings) i)) in
    let marks = map f (up_from 0 n) in
    let long = length-map (up_from 0 n) f ∙ length-up_from 0 n in
    let h : length marks ≤ c.loop-c.c = omega (arith, c.loop-c-test.false, long, length-take-le n c.args.marks.now c.requires) in
    ap (λ (x : List ℕ). x ++ drop n c.args.marks.now) (c.loop-c.invariant ∙ ap (sets (take n c.args.marks.now) 0) (take_all c.loop-c.c marks h))
    ∙ front_put c.args.marks.now n marks c.requires (omega (arith, long))
