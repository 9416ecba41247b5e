-- `all_cells::keep_repeats` meets its contract.
use Prim.Native.Nat.{ℕ, ◌+◌, ◌<◌}
use mathlib.Core.List.{List}
use mathlib.Core.Logic.{inl}
use mathlib.Core.Path.{◌≡◌, sym, ap, ap₂, ◌∙◌, subst}
use native.Mathlib.Omega.{arith}
use lib.ListN.{length}
use Rattle.laws.specs.Merging.{AllBelow}
use Rattle.findings.specs.Findings.{Finding}
use Rattle.index.specs.Faces.{input}
use Rattle.mesh.specs.Model.{Raw, cells_from}
use Rattle.mesh.specs.Rings.{nodes_in}
use Rattle.mesh.specs.Lent.{raw, raw_rest}
use Rattle.mesh.proofs.CellWords.{all_words, count_cells}
use Rattle.layout.specs.ByCell.{plain_rules, repeat_cell}
use Rattle.layout.specs.Kept.{KeptAny}
use Rattle.layout.proofs.Again.{still_then}
use Rattle.records.specs.Keeping.{Kept}
use Rattle.records.proofs.Keeping.{kept_none}
use Rattle.all_cells.specs.Cells.{words_of_cell, repeat_in}
use Rattle.all_cells.proofs.Passing.{pass_next, pass_end, still_self, still_input}
use Rattle.all_cells.proofs.Words.{LeftAt, all_left, next_left, none_left, words_most}
use Rattle.all_cells.proofs.keep_repeats.Goals as goal

pub loop-c-init : goal.loop-c-init
loop-c-init c =
    let a = c.args in
    let m = a.model.now in
    let r = c.raw_cells.ensures in
    let e = c.into_iter-c-iterator.ensures.into_iter_gives in
    let f = c.enumerate-c-items.ensures in
    let n : c.into_iter-c-iterator.result.count ≡ 0 = ap (λ i. i.count) e ∙ f.count in
    let all : raw_rest c.raw_cells.result ≡ cells_from 0 m.kinds.now m.ends.now m.words.now = rw (r.at, r.kinds, r.ends, r.words) in
    record {
      kept =
          λ tol. pass_end (plain_rules a.cx.now.coords.now tol) (repeat_in a.cx.now.layout (input a.cx.now.layout.at a.work.now) m.kinds.now m.ends.now m.words.now) 0 _ a.sink.now a.sink.now (sym n)
          (kept_none (plain_rules a.cx.now.coords.now tol) a.sink.now);
      few = omega arith;
      still = still_self a.cx.now.layout a.work.now c.requires.standing;
      left = all_left (cells_from 0 m.kinds.now m.ends.now m.words.now) _ _ n (ap (λ i. raw_rest i.iter) e ∙ ap raw_rest f.source ∙ all);
    }

-- no more cells than a number counts
pub loop-c-init-derived : goal.loop-c-init-derived
loop-c-init-derived c =
    let m = c.args.model.now in
    let q = c.requires.cells in
    let r = c.raw_cells.ensures in
    let e = c.into_iter-c-iterator.ensures.into_iter_gives in
    let f = c.enumerate-c-items.ensures in
    let n : c.into_iter-c-iterator.result.count ≡ 0 = ap (λ i. i.count) e ∙ f.count in
    let all : raw_rest c.into_iter-c-iterator.result.iter ≡ cells_from 0 m.kinds.now m.ends.now m.words.now = ap (λ i. raw_rest i.iter) e ∙ ap raw_rest f.source ∙ rw (r.at, r.kinds, r.ends, r.words) in
    ((tt, tt, inl (omega (arith, n, ap length all, count_cells 0 m.kinds.now m.ends.now m.words.now q.paired, q.counted, c.requires.standing.spaced.few_cells))), tt)

pub keep_repeated-requires : goal.keep_repeated-requires
keep_repeated-requires c =
    let a = c.args in
    let m = a.model.now in
    let l = a.cx.now.layout in
    let q = c.requires.cells in
    let v = c.loop-c.invariant in
    let s = c.in-Some.ensures.steps in
    let cs = cells_from 0 m.kinds.now m.ends.now m.words.now in
    let n = next_left cs _ _ v.left (raw c.in-Some.cell) _ s.0 in
    let more : c.in-Some.c < length m.kinds.now = omega (arith, n.2, s.1, count_cells 0 m.kinds.now m.ends.now m.words.now q.paired) in
    let is : c.in-Some.cell.words.now ≡ words_of_cell m.kinds.now m.ends.now m.words.now c.in-Some.c =
    ap (λ (x : Raw). x.words) n.0 ∙ ap (words_of_cell m.kinds.now m.ends.now m.words.now) (sym s.1) in
    record {
      standing = v.still.standing;
      c_bound = (omega (arith, more, q.counted), omega (arith, ap (λ (x : Raw). length x.words) n.0, words_most cs c.loop-c.c-iterator.count n.2, ap length (all_words m.kinds.now m.ends.now m.words.now q.paired q.order), q.words), subst (λ (ws : List ℕ). AllBelow l.at.nodes (nodes_in ws)) (sym is) (q.known c.in-Some.c more));
      few = omega (arith, v.few, n.2, more, q.counted, s.1, c.requires.standing.spaced.few_cells);
    }

pub loop-c-preserved : goal.loop-c-preserved
loop-c-preserved c =
    let a = c.args in
    let m = a.model.now in
    let l = a.cx.now.layout in
    let t = input l.at a.work.now in
    let h = repeat_in l t m.kinds.now m.ends.now m.words.now in
    let i = c.loop-c.c-iterator.count in
    let v = c.loop-c.invariant in
    let s = c.in-Some.ensures.steps in
    let n = next_left (cells_from 0 m.kinds.now m.ends.now m.words.now) _ _ v.left (raw c.in-Some.cell) _ s.0 in
    let z = c.keep_repeated in
    let is : repeat_cell l (input l.at c.loop-c.work) c.in-Some.c c.in-Some.cell.words.now ≡ h i =
    ap (λ (u : List ℕ). repeat_cell l u c.in-Some.c c.in-Some.cell.words.now) (still_input l a.work.now c.loop-c.work c.requires.standing v.still)
    ∙ ap₂ (λ (j : ℕ) (ws : List ℕ). repeat_cell l t j ws) s.1 (ap (λ (x : Raw). x.words) n.0) in
    let next : KeptAny a.cx.now.coords.now (h i) c.loop-c.sink z.new.sink =
    λ tol. subst (λ (xs : List Finding). Kept (plain_rules a.cx.now.coords.now tol) xs c.loop-c.sink z.new.sink) is (z.ensures.kept_any tol) in
    record {
      kept =
          λ tol. pass_end (plain_rules a.cx.now.coords.now tol) h (i + 1) _ a.sink.now z.new.sink (sym s.2)
          (pass_next (plain_rules a.cx.now.coords.now tol) h i a.sink.now c.loop-c.sink z.new.sink (v.kept tol) (next tol));
      few = omega (arith, v.few, z.ensures.upper_bound.0, s.2);
      still = still_then l a.work.now c.loop-c.work z.new.work v.still z.ensures.upper_bound.1;
      left = subst (LeftAt (cells_from 0 m.kinds.now m.ends.now m.words.now) _) (sym s.2) n.1;
    }

pub returns : goal.returns
returns c =
    let a = c.args in
    let m = a.model.now in
    let l = a.cx.now.layout in
    let q = c.requires.cells in
    let v = c.loop-c.invariant in
    let i = c.loop-c.c-iterator.count in
    let none = none_left (cells_from 0 m.kinds.now m.ends.now m.words.now) _ _ v.left c.in-None.ensures.steps.0.0 in
    let done : i ≡ l.at.cell_count = omega (arith, none, count_cells 0 m.kinds.now m.ends.now m.words.now q.paired, q.counted) in
    record {
      kept_any =
          λ tol. pass_end (plain_rules a.cx.now.coords.now tol) (repeat_in l (input l.at a.work.now) m.kinds.now m.ends.now m.words.now) i l.at.cell_count a.sink.now c.loop-c.sink done (v.kept tol);
      upper_bound = (omega (arith, v.few, done, c.requires.standing.spaced.few_cells), v.still);
    }
