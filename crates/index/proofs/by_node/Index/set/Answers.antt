-- `index::Index::set` meets its contract. The words are those of the node set, which lies within the slice.
use Prim.Native.Nat.{ℕ, ◌+◌, ◌-◌}
use mathlib.Core.Path.{◌≡◌, ap₂, ◌∙◌}
use native.Mathlib.Omega.{arith}
use Rattle.laws.specs.Merging.{region}
use Rattle.index.proofs.Read.{set-fits, set_there}
use Rattle.index.proofs.by_node.Index.set.Goals as goal

pub overflow_add-result : goal.overflow_add-result
overflow_add-result c =
    let i = c.args.self.now in
    omega (arith, c.set_start-s.ensures, c.set_size.ensures, set-fits i.at i.base.now i.indexed c.args.g c.requires, c.well_formed)

pub offset_bounds-self-s : goal.offset_bounds-self-s
offset_bounds-self-s c =
    let i = c.args.self.now in
    omega (arith, c.set_start-s.ensures, set-fits i.at i.base.now i.indexed c.args.g c.requires, c.well_formed)

pub slice_bounds-result-end : goal.slice_bounds-result-end
slice_bounds-result-end c =
    let i = c.args.self.now in
    omega (arith, c.set_start-s.ensures, c.set_size.ensures, set-fits i.at i.base.now i.indexed c.args.g c.requires)

pub returns : goal.returns
returns c =
    let i = c.args.self.now in
    let e : c.set_start-s.result + c.set_size.result - c.set_start-s.result ≡ c.set_size.result = omega arith in
    ap₂ (λ (s k : ℕ). region s k i.base.now) c.set_start-s.ensures (e ∙ c.set_size.ensures) ∙ set_there i.at i.base.now i.indexed c.args.g c.requires
