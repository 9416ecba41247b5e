-- `layout::Tables::first_face` meets its contract: no first face is past all faces.
use Prim.Native.Nat.{◌+◌}
use mathlib.Core.Path.{◌∙◌}
use native.Mathlib.Omega.{arith}
use Rattle.layout.proofs.Reading.{word_is, first_most}
use Rattle.layout.proofs.tables.Tables.first_face.Goals as goal

pub returns : goal.returns
returns c =
    let v = c.args.self.now in
    let e = c.number_at.ensures ∙ word_is v.layout.now v.work.now v.faced (v.layout.now.firsts + c.args.c) (omega (arith, c.requires, v.faced.firsts_at)) in
    (e, omega (arith, e, first_most v.layout.now v.work.now v.faced c.args.c c.requires))
