-- `full_list::find_topology` meets its contract.
use mathlib.Core.Path.{sym, ◌∙◌, subst}
use Rattle.mesh.specs.Lent.{lent}
use Rattle.index.specs.Faces.{input}
use Rattle.seek.specs.Candidates.{by_nodes}
use Rattle.seek.proofs.Tallies.{tallied_as}
use Rattle.layout.specs.Shown.{Shows}
use Rattle.shown.proofs.Candidates.{faces_shown}
use Rattle.all_cells.proofs.Passing.{still_input}
use Rattle.full_list.proofs.Shown.{overs_kept, pairs_kept, repeats_kept}
use Rattle.full_list.proofs.Cells.{cells_in}
use Rattle.full_list.proofs.Ways.{way_is}
use Rattle.full_list.proofs.Whole.{three_kept}
use Rattle.full_list.proofs.find_topology.Goals as goal

pub keep_repeats-requires-clause-cells : goal.keep_repeats-requires-clause-cells
keep_repeats-requires-clause-cells c =
    let a = c.args in
    let r = c.requires.ready in
    cells_in (lent a.model.now.model) a.layout (input a.layout.at a.work.now) r.accepted r.built.shows

pub returns : goal.returns
returns c =
    let a = c.args in
    let l = a.layout in
    let m = lent a.model.now.model in
    let built = c.requires.ready.built in
    let x = c.index_faces-s in
    let v = x.new.work in
    let y = c.keep_overs in
    let z = c.keep_pairs-tally in
    let r = c.keep_repeats in
    let S1 : Shows m l (input l.at v) = subst (Shows m l) (sym x.ensures.work_unchanged) built.shows in
    let S2 : Shows m l (input l.at z.new.work) = subst (Shows m l) (sym (still_input l v z.new.work x.ensures.standing.0 z.ensures.findings_bound.1)) S1 in
    let f = a.sink.now in
    let h = y.new.sink in
    let i = z.new.sink in
    let e = r.new.sink in
    let way = c.way-way.ensures ∙ way_is m l (input l.at a.work.now) built.tabled.faced built.shows a.choice (by_nodes x.result.way) x.ensures.way_value in record {
      kept_by =
          three_kept m f h i e
          (overs_kept m l (input l.at v) S1 f h y.ensures.kept_any)
          (pairs_kept m l (input l.at v) S1 h i z.ensures.kept)
          (repeats_kept m l (input l.at z.new.work) S2 i e r.ensures.kept_any);
      tallied = tallied_as way (faces_shown m l (input l.at a.work.now) built.shows) z.ensures.tallied;
    }
