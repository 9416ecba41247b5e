use Prim.Native.Nat.{ℕ, ◌+◌, ◌≤◌}
use mathlib.Core.Path.{◌≡◌, refl, sym, ap, ◌∙◌}
use mathlib.Core.List.{List, [], ◌∷◌, map}
use native.Mathlib.Omega.{arith}
use lib.ListN.{length, set, length-map}
use lib.Seq.{sets}
use Rattle.laws.specs.Merging.{starts_of}
use Rattle.mesh.specs.Lent.{lent}
use Rattle.mesh.specs.Model.{Raw, cells_of}
use Rattle.mesh.specs.Rings.{rings_of}
use Rattle.mesh.specs.CellsRest.{cell_raw, cells_rest}
use Rattle.mesh.proofs.Accepts.{accepts}
use Rattle.mesh.proofs.CellWords.{cells_count}
use Rattle.faces.proofs.Rings.{few_faces}
use Rattle.rings.proofs.Putting.{putting_room, putting_next}
use Rattle.tables.proofs.Passing.{firsts_next, faces_left}
use Rattle.laws.proofs.Rows.{starts_length}
use Rattle.tables.proofs.put_firsts.Goals as goal

pub overflow_cast-work : goal.overflow_cast-work
overflow_cast-work c =
    let m = c.args.model.now in
    omega (arith, c.loop-i.invariant.1, few_faces (lent m.model) m.faces m.ring_words m.tallied)

pub bounds-work-at : goal.bounds-work-at
bounds-work-at c =
    let m = c.args.model.now in
    let s = c.in-Some.ensures.steps in
    let l = c.loop-i in
    let cells = cells_of (lent m.model) in
    let is = firsts_next l.n _ (cell_raw c.in-Some.cell) (cells_rest c.next.new.self.iter) _ s.0 refl in
    let h : c.args.at + l.i-iterator.count + 1 ≤ length l.work = putting_room l.invariant.0 (l.n ∷ []) (starts_of _ (map rings_of (cells_rest c.next.new.self.iter))) is (omega (arith, starts_length 0 (map rings_of cells), length-map cells rings_of, cells_count (lent m.model) (accepts (lent m.model) m.accepted), c.requires)) l.auto.work in
    omega (arith, h, s.1)

pub overflow_add-n : goal.overflow_add-n
overflow_add-n c =
    let m = c.args.model.now in
    let s = c.in-Some.ensures.steps in
    let t = c.tally-n.ensures.faces.0 in
    let e = faces_left c.loop-i.n _ (cell_raw c.in-Some.cell) (cells_rest c.next.new.self.iter) _ s.0 refl in
    omega (arith, e, t, c.loop-i.invariant.1, few_faces (lent m.model) m.faces m.ring_words m.tallied)

pub loop-i-preserved : goal.loop-i-preserved
loop-i-preserved c =
    let s = c.in-Some.ensures.steps in
    let l = c.loop-i in
    let e = ap (λ (j : ℕ). l.n + j) c.tally-n.ensures.faces.0 in
    let is = firsts_next l.n _ (cell_raw c.in-Some.cell) (cells_rest c.next.new.self.iter) _ s.0 e in (
      putting_next l.invariant.0 (l.n ∷ []) (starts_of (l.n + c.tally-n.result.faces) (map rings_of (cells_rest c.next.new.self.iter))) is _ _ (omega (arith, s.2), ap (λ (j : ℕ). set l.work (c.args.at + j) l.n) s.1),
      faces_left l.n _ (cell_raw c.in-Some.cell) (cells_rest c.next.new.self.iter) _ s.0 e ∙ l.invariant.1,
    )

pub overflow_cast-work-2 : goal.overflow_cast-work-2
overflow_cast-work-2 c =
    let m = c.args.model.now in
    omega (arith, c.loop-i.invariant.1, few_faces (lent m.model) m.faces m.ring_words m.tallied)

pub returns : goal.returns
returns c =
    let m = c.args.model.now in
    let l = c.loop-i in
    let cells = cells_of (lent m.model) in
    let none = ap (λ (r : List Raw). starts_of l.n (map rings_of r)) c.in-None.ensures.steps.0.0 in
    let last : c.args.at + length m.model.kinds.now ≡ c.args.at + l.i-iterator.count =
    omega (arith, l.invariant.0.place, ap length none, starts_length 0 (map rings_of cells), length-map cells rings_of, cells_count (lent m.model) (accepts (lent m.model) m.accepted)) in
    ap (λ (j : ℕ). set l.work j l.n) last ∙ ap (sets l.work (c.args.at + l.i-iterator.count)) (sym none) ∙ l.invariant.0.put
