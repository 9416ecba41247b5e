-- `partially_shared::keep_partly` meets its contract.
use Prim.Native.Nat.{ℕ, ◌-◌}
use mathlib.Core.List.{List}
use mathlib.Core.Path.{◌≡◌, ap, ◌∙◌, subst}
use native.Mathlib.Omega.{arith}
use Rattle.laws.specs.Lists.{each, up_from}
use Rattle.findings.specs.Findings.{Finding}
use Rattle.index.specs.Faces.{input}
use Rattle.layout.specs.ByCell.{plain_rules, partly_cell}
use Rattle.records.specs.Keeping.{Kept}
use Rattle.partially_shared.specs.Hits.{mark_tells}
use Rattle.partially_shared.proofs.Searched.{searches, searching_on, input_on}
use Rattle.partially_shared.proofs.Whole.{all_told, whole_told, marks_fit}
use Rattle.partially_shared.proofs.Left.{left_still}
use Rattle.partially_shared.proofs.Listing.{list_there}
use Rattle.partially_shared.proofs.keep_partly.Goals as goal

pub keep_listed-requires : goal.keep_listed-requires
keep_listed-requires c =
    let a = c.args in
    let R = plain_rules a.cx.now.coords.now a.cx.now.tolerance in
    let y = c.note_cell-s in
    let s = searches a.cx.now.layout a.work.now c.requires.standing in
    let there = list_there a.cx.now.layout y.new.work y.result.range.listed c.in-Some.count (c.by_list.ensures c.in-Some.count c.in-Some.is) y.ensures.marked.listed in
    record {
      searching = searching_on a.cx.now.layout a.work.now y.new.work s y.ensures.beside.0;
      c_bound = (c.requires.c_bound.0, there.0, marks_fit R a.cx.now.layout (input a.cx.now.layout.at a.work.now) c.requires.standing.faced a.c c.requires.c_bound.0 y.new.work y.result.range y.ensures.marked, there.1);
      few = c.requires.few.0;
    }

pub returns-in-Some : goal.returns-in-Some
returns-in-Some c =
    let a = c.args in
    let w = a.work.now in
    let R = plain_rules a.cx.now.coords.now a.cx.now.tolerance in
    let y = c.note_cell-s in
    let z = c.keep_listed in
    let v = y.new.work in
    let s = searches a.cx.now.layout w c.requires.standing in
    let same = input_on a.cx.now.layout w v s y.ensures.beside.0 in
    let told : each (mark_tells a.cx.now.layout (input a.cx.now.layout.at v) v a.c) (up_from 0 a.cx.now.layout.at.cell_count) ≡ partly_cell R a.cx.now.layout (input a.cx.now.layout.at w) a.c =
    ap (λ (t : List ℕ). each (mark_tells a.cx.now.layout t v a.c) (up_from 0 a.cx.now.layout.at.cell_count)) same
    ∙ all_told R a.cx.now.layout (input a.cx.now.layout.at w) c.requires.standing.faced a.c c.requires.c_bound.0 v y.result.range y.ensures.marked in
    let q = z.ensures.cleared.0 in record {
      kept = subst (λ (xs : List Finding). Kept R xs a.sink.now z.new.sink) told (z.ensures.kept_any a.cx.now.tolerance);
      findings_bound = (
        z.ensures.cleared.1,
        left_still a.cx.now.layout w v z.new.work _ y.result.range c.requires.standing y.ensures.beside.0 y.ensures.marked record { beside = q.beside; cleared = λ i h k j. q.cleared i h (omega arith) h; still = q.still },
      );
      tallied_more = y.ensures.tallied_more;
    }

pub keep_range-requires : goal.keep_range-requires
keep_range-requires c =
    let a = c.args in
    let R = plain_rules a.cx.now.coords.now a.cx.now.tolerance in
    let y = c.note_cell-s in
    let s = searches a.cx.now.layout a.work.now c.requires.standing in
    record {
      searching = searching_on a.cx.now.layout a.work.now y.new.work s y.ensures.beside.0;
      c_bound = (c.requires.c_bound.0, y.ensures.beside.1, marks_fit R a.cx.now.layout (input a.cx.now.layout.at a.work.now) c.requires.standing.faced a.c c.requires.c_bound.0 y.new.work y.result.range y.ensures.marked);
      few = c.requires.few.0;
    }

pub returns : goal.returns
returns c =
    let a = c.args in
    let w = a.work.now in
    let R = plain_rules a.cx.now.coords.now a.cx.now.tolerance in
    let y = c.note_cell-s in
    let z = c.keep_range in
    let v = y.new.work in
    let s = searches a.cx.now.layout w c.requires.standing in
    let same = input_on a.cx.now.layout w v s y.ensures.beside.0 in
    let told : each (mark_tells a.cx.now.layout (input a.cx.now.layout.at v) v a.c) (up_from y.result.range.lo (y.result.range.hi - y.result.range.lo)) ≡ partly_cell R a.cx.now.layout (input a.cx.now.layout.at w) a.c =
    ap (λ (t : List ℕ). each (mark_tells a.cx.now.layout t v a.c) (up_from y.result.range.lo (y.result.range.hi - y.result.range.lo))) same
    ∙ whole_told R a.cx.now.layout (input a.cx.now.layout.at w) c.requires.standing.faced a.c c.requires.c_bound.0 v y.result.range y.ensures.marked y.ensures.beside.1 in record {
      kept = subst (λ (xs : List Finding). Kept R xs a.sink.now z.new.sink) told (z.ensures.kept_any a.cx.now.tolerance);
      findings_bound = (z.ensures.cleared.1, left_still a.cx.now.layout w v z.new.work _ y.result.range c.requires.standing y.ensures.beside.0 y.ensures.marked z.ensures.cleared.0);
      tallied_more = y.ensures.tallied_more;
    }
