use Prim.Native.Nat.{ℕ, ◌≤◌}
use mathlib.Core.Bool.{false}
use mathlib.Core.List.{List}
use Rattle.laws.specs.Limits.{cell_limit, word_limit}
use mathlib.Core.Path.{◌≡◌, refl, sym, ap, ◌∙◌}
use lib.ListN.{length}
use native.Mathlib.Omega.{arith}
use borrow.Author.Tests.{not-true}
use Rattle.laws.specs.Lists.{any}
use Rattle.refusals.proofs.Told.{number-positive, told_ok, told_err, err_passed}
use Rattle.refusals.specs.declared.Refusal.TheVariants.{Cell}
use Rattle.mesh.specs.Model.{cells_from}
use Rattle.mesh.specs.Lent.{raw, raw_rest}
use Rattle.mesh.specs.Acceptance.{node_off, ends_off}
use Rattle.mesh.specs.Kinds.{kind_number}
use Rattle.mesh.proofs.CellKinds.{any_kind, good_words, judged_kind}
use Rattle.mesh.proofs.KindNumbers.{kind_phed}
use Rattle.mesh.proofs.CellTallies.{Few, next_bound, counting_start, next_words, next_length, refused_here, counting_next, counting_bound, counting_end}
use Rattle.mesh.proofs.CellWords.{all_words, count_cells}
use Rattle.mesh.proofs.Counts.{cells_refused, cells_passed, counted_after}
use Rattle.mesh.specs.declared.CellTally.{CellTally}
use Rattle.mesh.proofs.tally_cells.Goals as goal

pub nodes_off_unless-sound-requires : goal.nodes_off_unless-sound-requires
nodes_off_unless-sound-requires c =
    let a = c.args in
    λ g. any_kind a.nodes 4 a.model.now.words.now (sym c.nodes_off-below.ensures ∙ not-true c.nodes_off-below.result g)

pub loop-cell-init : goal.loop-cell-init
loop-cell-init c =
    let e = c.raw_cells-cell-items.ensures in
    counting_start c.args.nodes _ _ _ (ap raw_rest c.into_iter-cell-iterator.ensures.into_iter_gives ∙ rw (e.at, e.kinds, e.ends, e.words)) refl refl

-- the cells of lists that fit together
few : (ks es ws : List ℕ) → (length ks ≡ length es) × (ends_off 0 es (length ws) ≡ false) × (length ks ≤ cell_limit) × (length ws ≤ word_limit) → Few (cells_from 0 ks es ws)
few ks es ws h = record {
  cells = omega (arith, count_cells 0 ks es ws h.0, h.2);
  words = omega (arith, ap length (all_words ks es ws h.0 h.1), h.3);
}

pub returns-in_err-kind : goal.returns-in_err-kind
returns-in_err-kind c =
    let a = c.args in
    let x = raw c.in-Some.cell in
    let e = c.in_err-kind.ensures in
    let n = judged_kind a.nodes _ x e.1 in
    rw (err_passed _ c.from_residual.ensures.1, e.0) (cells_refused a.nodes _ Cell (sym n ∙ refused_here c.loop-cell.invariant x c.in-Some.ensures.steps (λ z. omega (arith, n, z))))

pub tally_cell-requires : goal.tally_cell-requires
tally_cell-requires c =
    let a = c.args in
    let m = a.model.now in
    let k = kind_number c.in_ok-kind.kind in
    let x = raw c.in-Some.cell in
    let f = few m.kinds.now m.ends.now m.words.now c.requires in
    let w = all_words m.kinds.now m.ends.now m.words.now c.requires.0 c.requires.1 in (
      omega (arith, next_length c.loop-cell.invariant x c.in-Some.ensures.steps, f.words),
      λ g. next_words c.loop-cell.invariant x c.in-Some.ensures.steps (node_off a.nodes k)
          (ap (any (node_off a.nodes k)) w
          ∙ good_words a.nodes k m.words.now _ _ _ c.nodes_off-below.ensures c.nodes_off_unless-sound.ensures (c.eq.ensures ∙ kind_phed c.in_ok-kind.kind) g),
    )

pub returns-in_err-t : goal.returns-in_err-t
returns-in_err-t c =
    let a = c.args in
    let x = raw c.in-Some.cell in
    let e = c.in_err-t.field-0.0 in
    let h = counted_after {n = a.nodes} c.in_ok-kind.kind {c = x} c.in_ok-kind.ensures c.in_err-t.ensures in
    let n = told_err {A = CellTally} {B = Unit {0}} _ e _ _ h.answered in
    rw (err_passed _ c.from_residual-in_err-t.ensures.1) (cells_refused a.nodes _ e (n ∙ refused_here c.loop-cell.invariant x c.in-Some.ensures.steps (λ z. omega (arith, number-positive e, n, z))))

pub overflow_add-all : goal.overflow_add-all
overflow_add-all c =
    let m = c.args.model.now in
    let x = raw c.in-Some.cell in
    let h = counted_after {n = c.args.nodes} c.in_ok-kind.kind {c = x} c.in_ok-kind.ensures c.in_ok-t.ensures in
    omega (arith, (next_bound c.loop-cell.invariant x c.in-Some.ensures.steps c.in_ok-t.t h.tallied (few m.kinds.now m.ends.now m.words.now c.requires)).0)

pub overflow_add-all-in-loop-cell : goal.overflow_add-all-in-loop-cell
overflow_add-all-in-loop-cell c =
    let m = c.args.model.now in
    let x = raw c.in-Some.cell in
    let h = counted_after {n = c.args.nodes} c.in_ok-kind.kind {c = x} c.in_ok-kind.ensures c.in_ok-t.ensures in
    omega (arith, (next_bound c.loop-cell.invariant x c.in-Some.ensures.steps c.in_ok-t.t h.tallied (few m.kinds.now m.ends.now m.words.now c.requires)).1)

pub loop-cell-preserved : goal.loop-cell-preserved
loop-cell-preserved c =
    let x = raw c.in-Some.cell in
    let h = counted_after {n = c.args.nodes} c.in_ok-kind.kind {c = x} c.in_ok-kind.ensures c.in_ok-t.ensures in
    let z = told_ok {A = CellTally} {B = Unit {0}} _ c.in_ok-t.t _ _ h.answered in
    counting_next c.loop-cell.invariant x c.in-Some.ensures.steps c.in_ok-t.t _ z.0 h.tallied refl refl

pub returns : goal.returns
returns c =
    let m = c.args.model.now in
    let e = counting_end c.loop-cell.invariant c.in-None.ensures.steps.0 in
    let b = counting_bound c.loop-cell.invariant (few m.kinds.now m.ends.now m.words.now c.requires) in
    cells_passed c.args.nodes _ c.loop-cell.all e.0 (record { faces = e.1; words = e.2; few = omega (arith, b.0); small = omega (arith, b.1) })
