-- `seek::seek` meets its contract. The runs are opened at face 0 (`opened_in`), `skip_runs` leaves them at `end` (`runs_from`), where `merge_runs` begins.
use Prim.Native.Nat.{ℕ, ◌+◌, ◌≤◌, ◌<◌, ◌^◌}
use mathlib.Core.List.{List, map}
use mathlib.Core.Path.{◌≡◌, refl, sym, ap, ◌∙◌, subst}
use mathlib.Core.Bool.{true}
use native.Mathlib.Omega.{arith}
use lib.Seq.{sets}
use lib.ListN.{length, get_or, replicate}
use Rattle.counting.specs.Counts.{below}
use Rattle.index.specs.declared.Places.{Places}
use Rattle.index.specs.declared.by_node.Index.{Index}
use Rattle.index.specs.Faces.{input, bow_of, cell_of, words_of}
use Rattle.index.specs.Read.{input_of, set_of}
use Rattle.index.proofs.Read.{of_index, to_index}
use Rattle.merge.specs.declared.Runs.{Runs as Merged}
use Rattle.seek.specs.Steps.{Runs, Forward}
use Rattle.seek.proofs.Searching.{none_sought}
use Rattle.seek.proofs.Merging.{opened, forward}
use Rattle.seek.proofs.Read.{slot_low, starts, ends}
use Rattle.seek.proofs.Skipping.{all_rising, runs_from}
use Rattle.seek.proofs.seek.Goals as goal

module _ (i : Index) (lo : ℕ) (h : lo < i.at.faces) (list : List ℕ) (is : list ≡ set_of i lo) (m : Merged) where
  abbrev zs : List ℕ
  zs = replicate 64 0

  -- the runs as they were opened
  opened_in : m.count ≡ length list → m.from ≡ sets zs 0 (map (λ n. i.at.index + get_or i.base.now (i.at.offsets + n) 0) list)
      → m.to ≡ sets zs 0 (map (λ n. i.at.index + get_or i.base.now (i.at.offsets + n + 1) 0) list) → Runs i.at i.base.now lo m.count 0 m.from m.to × Forward m.count m.from m.to
  opened_in k from to =
      let S = words_of i.at (input_of i) in
      let ns = set_of i lo in
      let F = sets zs 0 (map (λ n. i.at.index + below n S) ns) in
      let is-from : m.from ≡ F = from ∙ ap (λ (l : List ℕ). sets zs 0 (map (λ n. i.at.index + get_or i.base.now (i.at.offsets + n) 0) l)) is
      ∙ ap (sets zs 0) (starts i.at i.base.now i.indexed lo h) in
      let is-to : m.to ≡ sets zs 0 (map (λ n. i.at.index + below (n + 1) S) ns) = to ∙ ap (λ (l : List ℕ). sets zs 0 (map (λ n. i.at.index + get_or i.base.now (i.at.offsets + n + 1) 0) l)) is
      ∙ ap (sets zs 0) (ends i.at i.base.now i.indexed lo h) in
      subst (λ (j : ℕ). Runs i.at i.base.now lo j 0 m.from m.to × Forward j m.from m.to) (sym (k ∙ ap length is))
      (subst (λ (l : List ℕ). Runs i.at i.base.now lo (length ns) 0 l m.to × Forward (length ns) l m.to) (sym is-from)
      (subst (λ (l : List ℕ). Runs i.at i.base.now lo (length ns) 0 F l × Forward (length ns) F l) (sym is-to)
      (opened i.at i.base.now lo i.indexed h zs zs refl refl, forward i.at i.base.now lo i.indexed h zs zs refl refl)))

-- lo is a face of the index
face_in : {p : Places} {b : List ℕ} (i : Index) (lo : ℕ) → (i.base.now ≡ b) × (i.at ≡ p) → lo < p.faces → lo < i.at.faces
face_in i lo e h = to_index i (λ q l. lo < q.faces) e h

pub returns-then-bow_at : goal.returns-then-bow_at
returns-then-bow_at c =
    let a = c.args in
    none_sought a.at a.lo a.work.now c.requires.ready
    (of_index c.new-ix.result (λ q l. bow_of q (input q l) (cell_of q (input q l) a.lo) ≡ true) c.new-ix.ensures (sym c.bow_at.ensures ∙ c.if-bow_at.true))

pub open-runs-requires : goal.open-runs-requires
open-runs-requires c =
    let i = c.new-ix.result in
    let lo = c.args.lo in
    let h = face_in i lo c.new-ix.ensures c.requires.ready.face in
    subst (λ (l : List ℕ). (length l ≤ 64) × (i.at.index < 2 ^ 63) × ((k : ℕ) → k < length l → i.at.offsets + get_or l k 0 + 1 < length i.base.now)) (sym c.set.ensures) (
      i.indexed.laid.few lo h,
      omega (arith, i.indexed.whole, c.well_formed),
      slot_low i.at i.base.now i.indexed lo h,
    )

pub skip_runs-requires-clause-ends : goal.skip_runs-requires-clause-ends
skip_runs-requires-clause-ends c =
    let i = c.new-ix.result in
    let e = c.open-runs.ensures in
    let o = opened_in i c.args.lo (face_in i c.args.lo c.new-ix.ensures c.requires.ready.face) c.set.result.now c.set.ensures c.open-runs.result e.count e.from e.to in
    (o.0.ends, o.1)

pub skip_runs-requires-clause-rising : goal.skip_runs-requires-clause-rising
skip_runs-requires-clause-rising c =
    let i = c.new-ix.result in
    let m = c.open-runs.result in
    let e = c.open-runs.ensures in
    all_rising i.at i.base.now c.args.lo m.count m.from m.to 0
    (opened_in i c.args.lo (face_in i c.args.lo c.new-ix.ensures c.requires.ready.face) c.set.result.now c.set.ensures m e.count e.from e.to).0

pub merge_runs-requires-clause-begun : goal.merge_runs-requires-clause-begun
merge_runs-requires-clause-begun c =
    let a = c.args in
    let q = c.requires in
    let i = c.new-ix.result in
    let m = c.open-runs.result in
    let e = c.open-runs.ensures in
    let r = c.skip_runs.new.runs in
    let s = c.skip_runs.ensures in
    let open_at = opened_in i a.lo (face_in i a.lo c.new-ix.ensures q.ready.face) c.set.result.now c.set.ensures m e.count e.from e.to in
    record {
      first = a.end;
      top = q.end_le_faces.0;
      hidden = q.end_le_faces.1;
      runs = of_index i (λ p l. Runs p l a.lo r.count a.end r.from r.to) c.new-ix.ensures
          (subst (λ (k : ℕ). Runs i.at i.base.now a.lo k a.end r.from r.to) (sym s.others.0)
          (subst (λ (l : List ℕ). Runs i.at i.base.now a.lo m.count a.end r.from l) (sym s.others.1)
          (runs_from i.at i.base.now a.lo m.count m.from m.to a.end r.from open_at.0 s.passed)));
    }
