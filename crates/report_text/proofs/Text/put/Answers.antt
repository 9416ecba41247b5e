-- `report_text::Text::put` meets its contract: a part lent out and come back.
use mathlib.Core.Path.{refl, ap, ◌∙◌}
use mathlib.Core.List.{List, ◌++◌}
use Prim.Native.Nat.{ℕ, ◌+◌, ◌-◌}
use native.Mathlib.Omega.{arith}
use lib.ListN.{length, take, drop}
use lib.Seq.{length-sets}
use Rattle.laws.proofs.Stores.{lent_sets}
use Rattle.report_text.proofs.Text.put.Goals as goal

pub returns : goal.returns
returns c =
    let t = c.args.self.now in
    let o = t.out.now in
    let text = c.args.text.now in
    let n = length text in
    let stored = ap (λ (x : List ℕ). take t.at o ++ (x ++ drop (t.at + n - t.at) (drop t.at o))) c.copy_from_slice.ensures.after ∙ lent_sets n o text t.at refl c.requires in
    record { same_reference = refl; stored = (stored, refl); few = omega arith; room = ap length stored ∙ length-sets o t.at text }
