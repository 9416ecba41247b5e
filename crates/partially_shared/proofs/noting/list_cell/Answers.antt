-- `partially_shared::noting::list_cell` meets its contract.
use Prim.Native.Nat.{ℕ, ◌+◌, ◌*◌}
use mathlib.Core.Path.{◌≡◌, sym, subst}
use lib.ListN.{set}
use Rattle.std.specs.Prelude.{Option, Some, None}
use Rattle.partially_shared.specs.Listing.{list_count, list_with}
use Rattle.partially_shared.proofs.Listing.{list_none, list_room, list_full}
use Rattle.partially_shared.proofs.noting.list_cell.Goals as goal

pub returns-in_default : goal.returns-in_default
returns-in_default c =
    let a = c.args in
    let l = a.l.now in
    subst (λ (n : Option ℕ). (None ≡ list_count l n) × (a.work.now ≡ list_with l a.b n a.work.now)) (sym c.in_default.is) (list_none l a.b a.work.now)

pub returns-then-n-l : goal.returns-then-n-l
returns-then-n-l c =
    let a = c.args in
    let l = a.l.now in
    subst (λ (n : Option ℕ). (None ≡ list_count l n) × (a.work.now ≡ list_with l a.b n a.work.now)) (sym c.in-Some.is) (list_full l a.b c.in-Some.n a.work.now c.if-n-l.true)

pub returns : goal.returns
returns c =
    let a = c.args in
    let l = a.l.now in
    let i = c.in-Some.n in
    subst (λ (n : Option ℕ). (Some (i + 1) ≡ list_count l n) × (set a.work.now (l.pairs + 2 * i) a.b ≡ list_with l a.b n a.work.now)) (sym c.in-Some.is) (list_room l a.b i a.work.now c.if-n-l.false)
