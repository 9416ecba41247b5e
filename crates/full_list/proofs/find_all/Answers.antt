-- `full_list::find_all` meets its contract.
use mathlib.Core.Path.{◌≡◌, refl, sym, ap, ◌∙◌}
use mathlib.Core.Bool.{true, false}
use Rattle.mesh.specs.Lent.{lent}
use Rattle.mesh.specs.Model.{contains, intersects, TOPOLOGY}
use Rattle.index.specs.Faces.{input}
use Rattle.full_list.specs.Ways.{goes_by_nodes}
use Rattle.seek.proofs.Tallies.{tallied_as, tallied_zero}
use Rattle.full_list.proofs.Ways.{nothing_asked, asks_no_pairs, asks_pairs}
use Rattle.full_list.proofs.Whole.{none_kept, all_first, all_both}
use Rattle.full_list.proofs.find_all.Goals as goal

-- no bit is asked for
pub returns-then-not-intersects : goal.returns-then-not-intersects
returns-then-not-intersects c =
    let a = c.args in
    let m = lent a.model.now.model in
    let off : intersects m.flags 3 ≡ false = sym c.intersects.ensures ∙ c.if-not-intersects.true in
    let none = nothing_asked m a.model.now.accepted off in
    let u = c.default in record {
      kept_by = none_kept m a.sink.now none;
      tallied = tallied_zero (goes_by_nodes a.choice m) (asks_no_pairs m (ap (λ n. contains n TOPOLOGY) none)) u.result u.ensures.0 u.ensures.1;
    }

-- no pairs are asked for
pub returns-then-not-contains : goal.returns-then-not-contains
returns-then-not-contains c =
    let a = c.args in
    let m = lent a.model.now.model in
    let t = c.build_tables-layout in
    let y = c.find_butterflies in
    let v = input t.result.at t.new.work in
    let off : contains m.flags TOPOLOGY ≡ false = sym c.contains.ensures ∙ c.if-not-contains.true in
    let u = c.default-then-not-contains in record {
      kept_by = all_first m t.result v t.ensures.shows a.sink.now y.new.sink y.ensures.kept_ever off;
      tallied = tallied_zero (goes_by_nodes a.choice m) (asks_no_pairs m off) u.result u.ensures.0 u.ensures.1;
    }

pub returns : goal.returns
returns c =
    let a = c.args in
    let m = lent a.model.now.model in
    let t = c.build_tables-layout in
    let y = c.find_butterflies in
    let z = c.find_topology in
    let v = input t.result.at t.new.work in
    let on : contains m.flags TOPOLOGY ≡ true = sym c.contains.ensures ∙ c.if-not-contains.false in record {
      kept_by = all_both m t.result v t.ensures.shows a.sink.now y.new.sink y.ensures.kept_ever z.new.sink on z.ensures.kept_by;
      tallied = tallied_as refl (sym (asks_pairs m on)) z.ensures.tallied;
    }
