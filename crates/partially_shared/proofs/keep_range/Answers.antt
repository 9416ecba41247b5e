-- `partially_shared::keep_range` meets its contract.
use Prim.Native.Nat.{ℕ, ◌-◌, ◌<◌}
use mathlib.Core.Path.{◌≡◌, ◌∙◌, subst}
use native.Mathlib.Omega.{arith}
use Rattle.laws.specs.Lists.{each, up_from}
use Rattle.index.specs.Faces.{input}
use Rattle.layout.specs.ByCell.{plain_rules}
use Rattle.records.specs.Keeping.{Kept}
use Rattle.partially_shared.specs.Hits.{mark_tells, MarkFits}
use Rattle.partially_shared.proofs.Cleared.{telling_start, telling_next}
use Rattle.partially_shared.proofs.keep_range.Goals as goal

pub loop-b-init : goal.loop-b-init
loop-b-init c =
    let a = c.args in
    record { telling = telling_start a.cx.now.coords.now a.cx.now.layout a.work.now a.c a.r.lo a.sink.now c.requires.searching; within = omega arith }

pub keep_marked-requires : goal.keep_marked-requires
keep_marked-requires c =
    let a = c.args in
    let q = c.requires.c_bound in
    let o = c.loop-b in
    let p = o.invariant.telling in
    let low : o.b < a.cx.now.layout.at.cell_count = omega (arith, q.1) in
    let same = p.clearing.same o.b low (omega arith) in
    let fits : MarkFits a.cx.now.layout o.work o.b = λ z. let y = q.2 o.b low (λ e. z (same.0 ∙ e)) in (omega (arith, y.0, same.0), omega (arith, y.1, same.1)) in
    record { searching = p.search; c_bound = (q.0, low, fits); few = omega (arith, p.few, low, c.requires.searching.spaced.few_cells) }

pub loop-b-preserved : goal.loop-b-preserved
loop-b-preserved c =
    let a = c.args in
    let o = c.loop-b in
    let low : o.b < a.cx.now.layout.at.cell_count = omega (arith, c.requires.c_bound.1) in
    let y = c.keep_marked in
    record {
      telling = telling_next a.cx.now.coords.now a.cx.now.layout a.work.now a.c a.r.lo a.sink.now o.work o.sink o.b y.new.work y.new.sink c.requires.searching low o.invariant.telling y.ensures.kept_any y.ensures.work_after.0 y.ensures.work_after.1;
      within = omega arith;
    }

pub returns : goal.returns
returns c =
    let a = c.args in
    let o = c.loop-b in
    let w = a.work.now in
    let p = o.invariant.telling in
    let done : o.b - a.r.lo ≡ a.r.hi - a.r.lo = omega (arith, o.invariant.within) in record {
      kept_any = λ tol. subst (λ (k : ℕ). Kept (plain_rules a.cx.now.coords.now tol) (each (mark_tells a.cx.now.layout (input a.cx.now.layout.at w) w a.c) (up_from a.r.lo k)) a.sink.now o.sink) done (p.kept tol);
      cleared = (
        record { beside = p.clearing.beside; cleared = λ i h k j. p.clearing.cleared i h k (omega arith); still = p.clearing.still },
        omega (arith, p.few, done, c.requires.c_bound.1, c.requires.searching.spaced.few_cells),
      );
    }
