use Prim.Native.Nat.{ℕ, ◌+◌, ◌≤◌}
use mathlib.Core.Path.{◌≡◌, sym, ap, ◌∙◌, subst}
use native.Mathlib.Omega.{arith}
use mathlib.Core.List.{List, map, ◌++◌}
use lib.ListN.{length, take, drop, replicate}
use lib.Seq.{sets, length-take-le}
use Rattle.snap.specs.Weld.{welded_by}
use Rattle.laws.specs.Limits.{node_limit}
use Rattle.laws.specs.Merging.{AllBelow, region}
use Rattle.laws.proofs.Stores.{cleared, filled_front, length-region}
use Rattle.geometry.specs.Coordinates.{node_count}
use Rattle.mesh.specs.Lent.{lent}
use Rattle.mesh.proofs.Accepts.{accepts}
use Rattle.mesh.proofs.CellWords.{words_low, few_nodes}
use Rattle.mesh.proofs.ModelTable.{work_room}
use Rattle.welding.proofs.Through.{slice_region}
use Rattle.ring_lists.proofs.Lists.{few, raw_total, raw_below, front, raw_stored, welded_stored}
use Rattle.ring_lists.proofs.store.Goals as goal

pub put_cells-r-requires : goal.put_cells-r-requires
put_cells-r-requires c =
    let s = c.args.accepted.now in
    omega (arith, raw_total (lent s.model) s.accepted, c.requires.raw_in_bounds)

pub weld_named-requires : goal.weld_named-requires
weld_named-requires c =
    let s = c.args.accepted.now in
    let m = lent s.model in
    let h = accepts m s.accepted in
    let few : node_count m.coords ≤ node_limit = few_nodes m h in
    (omega (arith, work_room m, c.requires.work_in_bounds), omega arith, h.places, words_low m h)

pub overflow_add-n : goal.overflow_add-n
overflow_add-n c = omega (arith, few (lent c.args.accepted.now.model) c.args.accepted.now.accepted _ c.node_count-n.ensures)

pub overflow_add-n-2 : goal.overflow_add-n-2
overflow_add-n-2 c = omega (arith, few (lent c.args.accepted.now.model) c.args.accepted.now.accepted _ c.node_count-n.ensures)

pub overflow_add-n-3 : goal.overflow_add-n-3
overflow_add-n-3 c = omega (arith, few (lent c.args.accepted.now.model) c.args.accepted.now.accepted _ c.node_count-n.ensures)

pub offset_bounds-work-n : goal.offset_bounds-work-n
offset_bounds-work-n c = omega (arith, few (lent c.args.accepted.now.model) c.args.accepted.now.accepted _ c.node_count-n.ensures)

pub slice_bounds-put_welded-end : goal.slice_bounds-put_welded-end
slice_bounds-put_welded-end c =
    let s = c.args.accepted.now in
    let p = c.put_cells-r in
    omega (arith, p.ensures.0, raw_total (lent s.model) s.accepted, c.requires.raw_in_bounds, p.auto.out)

pub slice_bounds-put_welded-end-2 : goal.slice_bounds-put_welded-end-2
slice_bounds-put_welded-end-2 c =
    let s = c.args.accepted.now in
    let p = c.put_cells-r in
    sym (length-take-le p.result p.new.out (omega (arith, p.ensures.0, raw_total (lent s.model) s.accepted, c.requires.raw_in_bounds, p.auto.out)))

pub slice_bounds-put_welded-end-3 : goal.slice_bounds-put_welded-end-3
slice_bounds-put_welded-end-3 c =
    let s = c.args.accepted.now in
    omega (arith, c.node_count-n.ensures, c.weld_named.auto.work, work_room (lent s.model), c.requires.work_in_bounds)

pub put_welded-requires : goal.put_welded-requires
put_welded-requires c =
    let s = c.args.accepted.now in
    let m = lent s.model in
    let p = c.put_cells-r in
    let w = c.weld_named.new.work in
    let n = c.node_count-n.result in
    let e = c.node_count-n.ensures in
    let f = front m s.accepted c.args.raw.now _ c.requires.raw_in_bounds p.ensures.1 _ p.ensures.0 in
    let room = λ (o : ℕ) (h : o ≤ n + n). length-region o n w (omega (arith, h, e, c.weld_named.auto.work, work_room m, c.requires.work_in_bounds)) in (
      omega (arith, ap length f, c.requires.welded_in_bounds),
      subst (λ (k : ℕ). AllBelow k (take p.result p.new.out)) (sym (ap length (slice_region w _ n) ∙ room _ (omega arith) ∙ e)) (subst (AllBelow (node_count m.coords)) (sym f) (raw_below m s.accepted)),
    )

pub returns : goal.returns
returns c =
    let s = c.args.accepted.now in
    let m = lent s.model in
    let p = c.put_cells-r in
    let q = c.weld_named in
    let n = c.node_count-n.ensures in
    let f = front m s.accepted c.args.raw.now _ c.requires.raw_in_bounds p.ensures.1 _ p.ensures.0 in
    let N = node_count m.coords in
    let left = c.fill.new.self ++ drop c.work_needed.result q.new.work in
    record {
      raw_is = raw_stored m s.accepted c.args.raw.now _ c.requires.raw_in_bounds p.ensures.1;
      welded_is = welded_stored m s.accepted c.args.welded.now _ _ _ q.ensures.0 f
          (subst (λ (l : List ℕ). c.put_welded.new.out ≡ sets c.args.welded.now 0 (map (welded_by l) (take p.result p.new.out)))
          (slice_region q.new.work (c.node_count-n.result + c.node_count-n.result) c.node_count-n.result ∙ ap (λ (k : ℕ). region (k + k) k q.new.work) n) c.put_welded.ensures);
      work_is = subst (λ (k : ℕ). left ≡ sets c.args.work.now 0 (replicate k 0)) c.work_needed.ensures
          (filled_front q.new.work c.work_needed.result 0 (omega (arith, q.auto.work, c.requires.work_in_bounds, c.work_needed.ensures)) (c.fill.ensures.after (λ y e. e))
          ∙ cleared c.args.work.now _ (N + N + N) c.work_needed.result q.ensures.1.1 (omega (arith, work_room m, c.work_needed.ensures)) (omega (arith, c.work_needed.ensures, c.requires.work_in_bounds)) q.auto.work);
    }
