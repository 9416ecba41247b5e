-- `partially_shared::noting::note_cell` meets its contract.
use Prim.Native.Nat.{ℕ, ◌+◌, ◌-◌, ◌≤◌}
use mathlib.Core.Path.{◌≡◌, refl, sym, subst}
use mathlib.Core.List.{List}
use native.Mathlib.Omega.{arith}
use Rattle.index.specs.Faces.{input}
use Rattle.seek.specs.Candidates.{by_nodes, TalliedMore}
use Rattle.seek.specs.Steps.{Hidden}
use Rattle.seek.proofs.Tallies.{tallied_none, tallied_then, tallied_most}
use Rattle.triple_keys.specs.Keys.{Keyed}
use Rattle.layout.specs.Tables.{first_of, face_count}
use Rattle.layout.specs.ByCell.{plain_rules}
use Rattle.partially_shared.proofs.Searched.{input_on, searches}
use Rattle.partially_shared.proofs.CellSearch.{facing_start, facing_next, facing_end, hidden_cell}
use Rattle.partially_shared.proofs.noting.note_cell.Goals as goal

pub loop-f-init : goal.loop-f-init
loop-f-init c =
    let a = c.args in
    let none : 0 ≡ c.faces-faces.result.start - c.faces-faces.result.start = omega arith in record {
      facing = facing_start (plain_rules a.cx.now.coords.now a.cx.now.tolerance) a.cx.now.layout a.work.now _ c.faces-faces.result.start c.requires.standing refl refl;
      tallied = subst (λ (n : ℕ). TalliedMore (by_nodes a.way) n a.tally a.tally) none (tallied_none (by_nodes a.way) a.tally);
    }

pub note_face-s-requires : goal.note_face-s-requires
note_face-s-requires c =
    let a = c.args in
    let o = c.loop-f in
    let y = c.faces-faces in
    let v = o.invariant.facing in
    let most = tallied_most (by_nodes a.way) _ a.tally o.s.tally o.invariant.tallied in record {
      searching = v.search;
      f_lt_faces = (omega (arith, y.ensures.2), v.high, subst (Keyed a.cx.now.layout.at a.by) (sym v.beside.before) c.requires.c_bound.1);
      end_le_faces = (
        y.ensures.2,
        subst (λ (t : List ℕ). Hidden a.cx.now.layout.at t o.f y.result.end) (sym (input_on a.cx.now.layout a.work.now o.work (searches a.cx.now.layout a.work.now c.requires.standing) v.beside))
            (hidden_cell a.cx.now.layout (input a.cx.now.layout.at a.work.now) a.c o.f y.result.end c.requires.standing.faced c.requires.c_bound.0 (omega (arith, c.faces-faces.ensures.0)) (omega arith) y.ensures.1),
      );
      nodes_bound = (omega (arith, most.0, y.ensures.2, c.requires.nodes_bound.0, c.requires.standing.spaced.few_faces), omega (arith, most.1, y.ensures.2, c.requires.nodes_bound.1, c.requires.standing.spaced.few_faces));
    }

pub loop-f-preserved : goal.loop-f-preserved
loop-f-preserved c =
    let a = c.args in
    let o = c.loop-f in
    let y = c.note_face-s in record {
      facing = facing_next (plain_rules a.cx.now.coords.now a.cx.now.tolerance) a.cx.now.layout _ a.work.now o.work _ o.s.range y.result.range o.f (searches a.cx.now.layout a.work.now c.requires.standing) (omega arith) o.invariant.facing y.ensures.marked_more y.ensures.beside.0 y.ensures.beside.1;
      tallied = tallied_then (by_nodes a.way) _ 1 _ a.tally o.s.tally y.result.tally (omega arith) o.invariant.tallied y.ensures.tallied_more;
    }

pub returns : goal.returns
returns c =
    let a = c.args in
    let o = c.loop-f in
    let v = o.invariant.facing in
    let t = input a.cx.now.layout.at a.work.now in
    let first = c.faces-faces.ensures.0 in
    let last = c.faces-faces.ensures.1 in
    let end : o.f ≤ c.faces-faces.result.end = o.auto.f-end (omega (arith, first, last, c.requires.standing.faced.first_rising a.c c.requires.c_bound.0)) in
    let done : o.f ≡ first_of a.cx.now.layout t (a.c + 1) = omega (arith, end, last) in
    let all : o.f - c.faces-faces.result.start ≡ face_count a.cx.now.layout t a.c = omega (arith, done, first) in
    record {
      marked = facing_end (plain_rules a.cx.now.coords.now a.cx.now.tolerance) a.cx.now.layout a.work.now o.work o.s.range a.c _ o.f first done v;
      beside = (v.beside, v.high);
      tallied_more = subst (λ (n : ℕ). TalliedMore (by_nodes a.way) n a.tally o.s.tally) all o.invariant.tallied;
    }
