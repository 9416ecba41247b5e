use mathlib.Core.Path.{sym, ap, subst}
use mathlib.Core.List.{List}
use Prim.Native.Nat.{ℕ}
use native.Mathlib.Omega.{arith}
use lib.ListN.{length}
use Rattle.mesh.specs.Kinds.{kind_number}
use Rattle.mesh.proofs.ByKind.{phed_is}
use Rattle.faces.proofs.Bounds.{fixed_total}
use Rattle.owners.specs.Holding.{holders}
use Rattle.owners.specs.Noted.{Noted}
use Rattle.owners.proofs.Loading.{no_phed}
use Rattle.owners.proofs.Holders.note_cell.Goals as goal

pub note_phed-requires : goal.note_phed-requires
note_phed-requires c = omega (arith, c.requires, ap length (phed_is _ c.args.cell.now.words.now (ap kind_number c.in-Phed.is)))

pub returns-in-Phed : goal.returns-in-Phed
returns-in-Phed c =
    let a = c.args in
    subst (λ (rs : List (List ℕ)). Noted (holders a.self.now.key.now a.number rs) a.self.now c.note_phed.new.self) (sym (phed_is _ a.cell.now.words.now (ap kind_number c.in-Phed.is))) c.note_phed.ensures

pub note_flat-requires : goal.note_flat-requires
note_flat-requires c =
    let x = c.args.cell.now in
    (fixed_total (kind_number x.kind) x.words.now x.well (no_phed x.kind c.in_default.not-Phed), c.requires)
