-- `pairs::less_work` meets its contract. The two works are compared.
use Prim.Native.Nat.{ℕ, ◌*◌}
use mathlib.Core.Path.{sym, ap₂, ◌∙◌}
use borrow.Author.Tests.{le-leb, lt-leb}
use lib.Dec.{leb}
use Rattle.pairs.specs.Work.{is_by_nodes}
use Rattle.pairs.proofs.less_work.Goals as goal

pub returns-then-node_work-triple_work : goal.returns-then-node_work-triple_work
unfolding is_by_nodes
returns-then-node_work-triple_work c =
    sym (ap₂ (λ (x y : ℕ). leb x (4 * y)) (sym c.node_work.ensures) (sym c.triple_work.ensures.0) ∙ le-leb _ _ c.if-node_work-triple_work.true)

pub returns-else-node_work-triple_work : goal.returns-else-node_work-triple_work
unfolding is_by_nodes
returns-else-node_work-triple_work c =
    sym (ap₂ (λ (x y : ℕ). leb x (4 * y)) (sym c.node_work.ensures) (sym c.triple_work.ensures.0) ∙ lt-leb _ _ c.if-node_work-triple_work.false)
