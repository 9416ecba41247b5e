-- What stood behind the scratch stands in front.
use Prim.Native.Nat.{ℕ, ◌+◌, ◌≤◌}
use mathlib.Core.Path.{◌≡◌, ◌∙◌, subst}
use native.Mathlib.Omega.{arith}
use lib.ListN.{length}
use Rattle.laws.specs.Limits.{node_limit}
use Rattle.laws.specs.Merging.{region}
use Rattle.geometry.specs.Coordinates.{node_count}
use Rattle.sorting.proofs.Copied as Slice
use Rattle.mesh.specs.Lent.{lent}
use Rattle.mesh.proofs.Accepts.{accepts}
use Rattle.mesh.proofs.CellWords.{words_low, few_nodes}
use Rattle.welding.proofs.Used.{welds_words}
use Rattle.model_tables.proofs.Reading.{copied}
use Rattle.model_tables.proofs.put_weld.Goals as goal

pub weld_named-requires : goal.weld_named-requires
weld_named-requires c =
    let s = c.args.model.now in
    let m = lent s.model in
    let h = accepts m s.accepted in
    let few : node_count m.coords ≤ node_limit = few_nodes m h in
    (c.requires, omega arith, h.places, words_low m h)

pub returns : goal.returns
returns c =
    let s = c.args.model.now in
    let m = lent s.model in
    let h = accepts m s.accepted in
    let w = c.weld_named.new.work in
    let n = c.node_count-n.result in
    let e = c.node_count-n.ensures in
    let fits : n + n + n ≤ length w = omega (arith, c.requires, e, c.weld_named.auto.work) in
    let fitting : 0 + n ≤ length w = omega (arith, fits) in
    let front = copied w c.copy_within.new.self (n + n) n fits (c.copy_within.ensures.after ∙ Slice.copied w (n + n) n 0 fits fitting) in
    subst (λ (k : ℕ). region 0 k c.copy_within.new.self ≡ region (k + k) k w) e front ∙ c.weld_named.ensures.0 ∙ welds_words m h
