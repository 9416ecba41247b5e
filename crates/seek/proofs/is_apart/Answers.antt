-- `seek::is_apart` meets its contract. One test after the other.
use Prim.Native.Nat.{ℕ, ◌+◌, ◌<◌}
use mathlib.Core.Bool.{false, not}
use mathlib.Core.Logic.{◌≢◌}
use mathlib.Core.Path.{◌≡◌, sym, ap, ◌∙◌}
use borrow.Author.Tests.{le-ltb, lt-ltb, eq-eqb, ne_eqb}
use lib.Dec.{eqb}
use lib.ListN.{get_or}
use Rattle.index.specs.declared.by_node.Index.{Index}
use Rattle.index.specs.Faces.{cell_of}
use Rattle.index.specs.Read.{input_of}
use Rattle.index.proofs.Read.{read_cell}
use Rattle.seek.specs.Steps.{apart}
use Rattle.seek.proofs.is_apart.Goals as goal

-- two faces whose words differ have other cells
others : (i : Index) (lo g : ℕ) → lo < i.at.faces → g < i.at.faces → get_or i.base.now (i.at.cells + lo) 0 ≢ get_or i.base.now (i.at.cells + g) 0
    → eqb (cell_of i.at (input_of i) lo) (cell_of i.at (input_of i) g) ≡ false
others i lo g h k d =
    ne_eqb (cell_of i.at (input_of i) lo) (cell_of i.at (input_of i) g) (λ e. d (read_cell i.at i.base.now i.indexed lo h ∙ e ∙ sym (read_cell i.at i.base.now i.indexed g k)))

pub returns-then-g-lo : goal.returns-then-g-lo
unfolding apart
returns-then-g-lo c = rw (le-ltb c.args.lo c.args.g c.if-g-lo.true)

pub returns-then-ix-cells : goal.returns-then-ix-cells
unfolding apart
returns-then-ix-cells c =
    let a = c.args in
    let i = a.ix.now in
    let e : cell_of i.at (input_of i) a.lo ≡ cell_of i.at (input_of i) a.g =
    sym (read_cell i.at i.base.now i.indexed a.lo c.requires.0) ∙ c.if-ix-cells.true ∙ read_cell i.at i.base.now i.indexed a.g c.requires.1 in
    sym (rw (lt-ltb a.lo a.g c.if-g-lo.false, eq-eqb (cell_of i.at (input_of i) a.lo) (cell_of i.at (input_of i) a.g) e))

pub returns-then-bow_at : goal.returns-then-bow_at
unfolding apart
returns-then-bow_at c =
    let a = c.args in
    sym (rw (lt-ltb a.lo a.g c.if-g-lo.false, others a.ix.now a.lo a.g c.requires.0 c.requires.1 c.if-ix-cells.false, sym c.bow_at.ensures ∙ c.if-bow_at.true))

pub returns : goal.returns
unfolding apart
returns c =
    let a = c.args in
    ap not c.bow_at-2.ensures
    ∙ sym (rw (lt-ltb a.lo a.g c.if-g-lo.false, others a.ix.now a.lo a.g c.requires.0 c.requires.1 c.if-ix-cells.false, sym c.bow_at.ensures ∙ c.if-bow_at.false))
