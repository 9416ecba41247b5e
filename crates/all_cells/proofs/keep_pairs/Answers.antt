-- `all_cells::keep_pairs` meets its contract.
use Prim.Native.Nat.{ℕ, ◌+◌, ◌<◌}
use mathlib.Core.List.{List}
use mathlib.Core.Path.{◌≡◌, sym, ap, ◌∙◌, subst}
use native.Mathlib.Omega.{arith}
use Rattle.index.specs.Faces.{input}
use Rattle.seek.specs.Candidates.{by_nodes, TalliedMore, Tallied}
use Rattle.seek.proofs.Tallies.{tallied_zero, tallied_then, tallied_most}
use Rattle.triple_keys.specs.Keys.{Keyed}
use Rattle.layout.specs.Tables.{first_of, face_count}
use Rattle.layout.specs.ByCell.{plain_rules, partly_cell}
use Rattle.layout.proofs.Again.{still_then}
use Rattle.layout.proofs.Reading.{first_most}
use Rattle.records.specs.Keeping.{Kept}
use Rattle.records.proofs.Keeping.{kept_none}
use Rattle.all_cells.proofs.Passing.{pass_next, pass_end, still_self, still_input}
use Rattle.all_cells.proofs.keep_pairs.Goals as goal

pub loop-c-init : goal.loop-c-init
loop-c-init c =
    let a = c.args in
    let none = c.default-tally in record {
      kept = kept_none (plain_rules a.cx.now.coords.now a.cx.now.tolerance) a.sink.now;
      few = omega arith;
      still = still_self a.cx.now.layout a.work.now c.requires.standing;
      tallied = tallied_zero (by_nodes a.way) c.requires.standing.faced.first_zero none.result none.ensures.0 none.ensures.1;
    }

pub keep_partly-tally-requires : goal.keep_partly-tally-requires
keep_partly-tally-requires c =
    let o = c.loop-c in
    let more : o.c < c.args.cx.now.layout.at.cell_count = omega arith in
    let most = tallied_most (by_nodes c.args.way) _ _ o.tally o.invariant.tallied in
    let few = first_most c.args.cx.now.layout c.args.work.now c.requires.standing.faced o.c (omega (arith, more)) in record {
      standing = o.invariant.still.standing;
      c_bound = (omega (arith, more), subst (Keyed c.args.cx.now.layout.at c.args.by) (sym o.invariant.still.same) c.requires.keyed);
      few = (
        omega (arith, o.invariant.few, more, c.requires.standing.spaced.few_cells),
        omega (arith, most.0, few, c.requires.standing.spaced.few_faces),
        omega (arith, most.1, few, c.requires.standing.spaced.few_faces),
      );
    }

pub loop-c-preserved : goal.loop-c-preserved
loop-c-preserved c =
    let a = c.args in
    let o = c.loop-c in
    let more : o.c < a.cx.now.layout.at.cell_count = omega arith in
    let y = c.keep_partly-tally in
    let R = plain_rules a.cx.now.coords.now a.cx.now.tolerance in
    let g = y.new.sink in
    let t = input a.cx.now.layout.at a.work.now in
    let same = still_input a.cx.now.layout a.work.now o.work c.requires.standing o.invariant.still in
    let counted = subst (λ (u : List ℕ). TalliedMore (by_nodes a.way) (face_count a.cx.now.layout u o.c) o.tally y.result) same y.ensures.tallied_more in
    let next = subst (λ (t : List ℕ). Kept R (partly_cell R a.cx.now.layout t o.c) o.sink g) same y.ensures.kept in
    record {
      kept = pass_next R (partly_cell R a.cx.now.layout t) o.c a.sink.now o.sink g o.invariant.kept next;
      few = omega (arith, o.invariant.few, y.ensures.findings_bound.0);
      still = still_then a.cx.now.layout a.work.now o.work y.new.work o.invariant.still y.ensures.findings_bound.1;
      tallied = tallied_then (by_nodes a.way) (first_of a.cx.now.layout t o.c) (face_count a.cx.now.layout t o.c) (first_of a.cx.now.layout t (o.c + 1)) _ o.tally y.result
          (omega (arith, c.requires.standing.faced.first_rising o.c more)) o.invariant.tallied counted;
    }

pub returns : goal.returns
returns c =
    let a = c.args in
    let o = c.loop-c in
    let R = plain_rules a.cx.now.coords.now a.cx.now.tolerance in
    let done : o.c ≡ a.cx.now.layout.at.cell_count = omega arith in
    let all : first_of a.cx.now.layout (input a.cx.now.layout.at a.work.now) o.c ≡ a.cx.now.layout.at.faces = ap (first_of a.cx.now.layout (input a.cx.now.layout.at a.work.now)) done ∙ c.requires.standing.faced.first_last in
    record {
      kept = pass_end R (partly_cell R a.cx.now.layout (input a.cx.now.layout.at a.work.now)) o.c a.cx.now.layout.at.cell_count a.sink.now o.sink done o.invariant.kept;
      findings_bound = (omega (arith, o.invariant.few, done, c.requires.standing.spaced.few_cells), o.invariant.still);
      tallied = subst (λ (i : ℕ). Tallied (by_nodes a.way) i o.tally) all o.invariant.tallied;
    }
