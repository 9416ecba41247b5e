-- `partially_shared::keep_listed` meets its contract.
use mathlib.Core.List.{List}
use mathlib.Core.Path.{subst}
use Rattle.findings.specs.Findings.{Finding}
use Rattle.layout.specs.ByCell.{plain_rules}
use Rattle.records.specs.Keeping.{Kept}
use Rattle.partially_shared.proofs.Sorted.{sorted_search, sorted_rising, sorted_listed, sorted_fit, sorted_tells, sorted_cleared}
use Rattle.partially_shared.proofs.keep_listed.Goals as goal

pub keep_sorted-requires : goal.keep_sorted-requires
keep_sorted-requires c =
    let a = c.args in
    let w = a.work.now in
    let q = c.requires.c_bound in
    let y = c.sort_pairs in
    let u = y.new.work in
    record {
      searching = sorted_search a.cx.now.layout w a.count c.requires.searching q.1 u y.ensures;
      c_bound = (q.0, q.1, sorted_fit a.cx.now.layout w a.count c.requires.searching q.1 u y.ensures q.2, sorted_listed a.cx.now.layout w a.count c.requires.searching q.1 u y.ensures q.3, sorted_rising a.cx.now.layout w a.count c.requires.searching q.1 u y.ensures);
      few = c.requires.few;
    }

pub returns : goal.returns
returns c =
    let a = c.args in
    let w = a.work.now in
    let h = c.requires.c_bound.1 in
    let y = c.sort_pairs in
    let z = c.keep_sorted in
    let u = y.new.work in
    record {
      kept_any = λ tol. subst (λ (xs : List Finding). Kept (plain_rules a.cx.now.coords.now tol) xs a.sink.now z.new.sink) (sorted_tells a.cx.now.layout w a.count c.requires.searching h u y.ensures a.c) (z.ensures.kept_any tol);
      cleared = (sorted_cleared a.cx.now.layout w a.count c.requires.searching h u y.ensures z.new.work z.ensures.cleared.0, z.ensures.cleared.1);
    }
