-- `model_tables::build_tables` meets its contract: group by group the tables stand, and all are built.
use Prim.Native.Nat.{ℕ, ◌≤◌}
use mathlib.Core.Path.{◌≡◌, ap, ◌∙◌}
use native.Mathlib.Nat.{le_trans}
use native.Mathlib.Omega.{arith}
use lib.ListN.{length, take}
use Rattle.mesh.specs.Lent.{lent}
use Rattle.mesh.specs.Steps.{ring_total}
use Rattle.mesh.proofs.ModelTable.{work_room}
use Rattle.model_tables.proofs.Ringing.{sets_are}
use Rattle.model_tables.proofs.Stages.{rings_part, rings_put, marks_put, nodes_put}
use Rattle.model_tables.proofs.Building.{cells, settled, sized, settled_again, zeros_put, placed_again, built}
use Rattle.model_tables.proofs.Asking.{asks_plan, inside, asks_rings, asks_marks, asks_nodes, asks_zeros}
use Rattle.model_tables.proofs.build_tables.Goals as goal

-- a slice of another one's length has as much room
kept : {n a b : ℕ} → b ≡ a → n ≤ a → n ≤ b
kept e h = omega arith

-- ---- what is asked

pub plan-l-requires : goal.plan-l-requires
plan-l-requires c =
    let s = c.args.model.now in
    let m = lent s.model in
    let ok = s.accepted in
    asks_plan m ok s.faces s.ring_words c.node_count.result s.tallied c.node_count.ensures

pub put_weld-requires : goal.put_weld-requires
put_weld-requires c =
    let s = c.args.model.now in
    le_trans (work_room (lent s.model)) c.requires

pub put_rings-requires : goal.put_rings-requires
put_rings-requires c =
    let s = c.args.model.now in
    let m = lent s.model in
    let ok = s.accepted in
    let l = c.plan-l.result in
    let z = settled m ok s.faces s.ring_words c.node_count.result s.tallied c.node_count.ensures 0 l c.plan-l.ensures in
    let a = c.put_weld.new.work in
    let in_a = kept c.put_weld.auto.work c.requires in
    let asked = asks_rings m ok 0 l z a in_a in
    record { rings_in_bounds = asked.0; rows_in_bounds = asked.1; firsts_in_bounds = asked.2 }

pub put_marks-requires : goal.put_marks-requires
put_marks-requires c =
    let s = c.args.model.now in
    let m = lent s.model in
    let ok = s.accepted in
    let l = c.plan-l.result in
    let z = settled m ok s.faces s.ring_words c.node_count.result s.tallied c.node_count.ensures 0 l c.plan-l.ensures in
    let a = c.put_weld.new.work in
    let in_a = kept c.put_weld.auto.work c.requires in
    let b = c.put_rings.new.work in
    let in_b = kept c.put_rings.auto.work in_a in
    let rings =
    rings_put m.coords m.tolerance (cells m ok) (length m.words) 0 l z a b (inside m ok 0 l z a in_a).bows c.put_weld.ensures
    c.put_rings.ensures in
    let asked = asks_marks m ok 0 l z b in_b rings in
    record { ringed = asked.0; bows_in_bounds = (asked.1, asked.2); cells_in_bounds = asked.3 }

pub put_nodes-l-requires : goal.put_nodes-l-requires
put_nodes-l-requires c =
    let s = c.args.model.now in
    let m = lent s.model in
    let ok = s.accepted in
    let l = c.plan-l.result in
    let z = settled m ok s.faces s.ring_words c.node_count.result s.tallied c.node_count.ensures 0 l c.plan-l.ensures in
    let a = c.put_weld.new.work in
    let in_a = kept c.put_weld.auto.work c.requires in
    let b = c.put_rings.new.work in
    let in_b = kept c.put_rings.auto.work in_a in
    let d = c.put_marks.new.work in
    let in_d = kept c.put_marks.auto.work in_b in
    let rings =
    rings_put m.coords m.tolerance (cells m ok) (length m.words) 0 l z a b (inside m ok 0 l z a in_a).bows c.put_weld.ensures
    c.put_rings.ensures in
    let marked = marks_put m.coords m.tolerance (cells m ok) (length m.words) 0 l z b d (inside m ok 0 l z b in_b).keys rings c.put_marks.ensures in
    asks_nodes m ok 0 l z d in_d marked

pub clear_scratch-requires : goal.clear_scratch-requires
clear_scratch-requires c =
    let s = c.args.model.now in
    let m = lent s.model in
    let ok = s.accepted in
    let l = c.plan-l.result in
    let z = settled m ok s.faces s.ring_words c.node_count.result s.tallied c.node_count.ensures 0 l c.plan-l.ensures in
    let in_a = kept c.put_weld.auto.work c.requires in
    let in_b = kept c.put_rings.auto.work in_a in
    let in_d = kept c.put_marks.auto.work in_b in
    let e = c.put_nodes-l.new.work in
    let in_e = kept c.put_nodes-l.auto.work in_d in
    asks_zeros m ok 0 l z e in_e

-- ---- what is built

pub returns : goal.returns
returns c =
    let s = c.args.model.now in
    let m = lent s.model in
    let ok = s.accepted in
    let l = c.plan-l.result in
    let z = settled m ok s.faces s.ring_words c.node_count.result s.tallied c.node_count.ensures 0 l c.plan-l.ensures in
    let a = c.put_weld.new.work in
    let in_a = kept c.put_weld.auto.work c.requires in
    let b = c.put_rings.new.work in
    let in_b = kept c.put_rings.auto.work in_a in
    let d = c.put_marks.new.work in
    let in_d = kept c.put_marks.auto.work in_b in
    let e = c.put_nodes-l.new.work in
    let in_e = kept c.put_nodes-l.auto.work in_d in
    let f = c.clear_scratch.new.work in
    let in_f = kept c.clear_scratch.auto.work in_e in
    let rings =
    rings_put m.coords m.tolerance (cells m ok) (length m.words) 0 l z a b (inside m ok 0 l z a in_a).bows c.put_weld.ensures
    c.put_rings.ensures in
    let marked = marks_put m.coords m.tolerance (cells m ok) (length m.words) 0 l z b d (inside m ok 0 l z b in_b).keys rings c.put_marks.ensures in
    let tabled = nodes_put m.coords m.tolerance (cells m ok) (length m.words) 0 l z d e (inside m ok 0 l z d in_d).offsets marked c.put_nodes-l.ensures.1 in
    let cleared = zeros_put m.coords m.tolerance (cells m ok) (length m.words) 0 l z e f (inside m ok 0 l z e in_e).pairs tabled c.clear_scratch.ensures in
    let K = c.put_nodes-l.result in
    let q = settled_again m.coords m.tolerance (cells m ok) (length m.words) 0 l z K in
    let part = rings_part m.coords m.tolerance (cells m ok) (length m.words) 0 l z d l.at.bows (omega arith) marked.rings in
    let size = c.put_nodes-l.ensures.0 ∙ ap ring_total (sets_are m.coords m.tolerance (cells m ok) (length m.words) 0 l (take l.at.bows d) z part) in
    built m ok K (sized l K) q f in_f (placed_again m.coords m.tolerance (cells m ok) (length m.words) 0 l z K f cleared) size
