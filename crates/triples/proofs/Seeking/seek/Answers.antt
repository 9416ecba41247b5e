-- `triples::Seeking::seek` meets its contract, case by case of the number of lo's nodes.
use Prim.Native.Nat.{◌+◌}
use mathlib.Core.Bool.{true}
use mathlib.Core.Path.{◌≡◌, sym, ◌∙◌}
use native.Mathlib.Omega.{arith}
use lib.ListN.{length}
use lib.Seq.{length-take-le}
use Rattle.index.specs.Faces.{input, base, cell_of, bow_of, nodes_of}
use Rattle.index.proofs.Read.{of_index}
use Rattle.seek.proofs.Searching.{none_sought}
use Rattle.triples.proofs.Found.{self_beside, nodes_at, nodes_fit, nodes_known, few_sought, rare_sought}
use Rattle.triples.proofs.Seeking.seek.Goals as goal

pub returns-then-bow_at : goal.returns-then-bow_at
returns-then-bow_at c =
    let s = c.args.self.now in
    none_sought s.at s.lo c.args.work.now c.requires.0
    (of_index c.new-ix.result (λ p b. bow_of p (input p b) (cell_of p (input p b) s.lo) ≡ true) c.new-ix.ensures (sym c.bow_at.ensures ∙ c.if-bow_at.true))

pub returns-then-k-lt3 : goal.returns-then-k-lt3
returns-then-k-lt3 c =
    let s = c.args.self.now in
    few_sought s.at s.lo c.args.work.now c.requires.0
    (omega (arith, c.if-k-lt3.true, of_index c.new-ix.result (λ p b. c.set_size-k.result ≡ length (nodes_of p (input p b) s.lo)) c.new-ix.ensures c.set_size-k.ensures))

pub overflow_add-e : goal.overflow_add-e
overflow_add-e c =
    let long : length (base c.args.self.now.at c.args.work.now) ≡ c.args.self.now.at.found = length-take-le c.args.self.now.at.found c.args.work.now (omega (arith, c.requires.0.room)) in
    let a = c.args in
    let w = a.work.now in
    let x = c.set_start-s in
    let n = c.set_size-k in
    let r = c.requires.0 in
    let at = nodes_at c.new-ix.result c.new-ix.ensures a.self.now.lo x.result n.result x.ensures n.ensures in
    omega (arith, nodes_fit a.self.now.at (base a.self.now.at w) r.indexed a.self.now.lo x.result (x.result + n.result) r.face at, long, r.room)

pub walk_rare-requires-clause-beside : goal.walk_rare-requires-clause-beside
walk_rare-requires-clause-beside c =
    let a = c.args in
    let b = base a.self.now.at a.work.now in
    let r = c.requires.0 in
    let long : length b ≡ a.self.now.at.found = length-take-le a.self.now.at.found a.work.now (omega (arith, r.room)) in
    let x = c.set_start-s in
    let n = c.set_size-k in
    let at = nodes_at c.new-ix.result c.new-ix.ensures a.self.now.lo x.result n.result x.ensures n.ensures in (
      self_beside a.self.now.at b r.indexed,
      omega (arith, c.if-k-lt3.false),
      omega (arith, nodes_fit a.self.now.at b r.indexed a.self.now.lo x.result (x.result + n.result) r.face at, long),
      nodes_known a.self.now.at b r.indexed a.self.now.lo x.result (x.result + n.result) r.face at,
    )

pub returns : goal.returns
returns c =
    let a = c.args in
    let w = a.work.now in
    let x = c.set_start-s in
    let n = c.set_size-k in
    let r = c.requires.0 in
    let at = nodes_at c.new-ix.result c.new-ix.ensures a.self.now.lo x.result n.result x.ensures n.ensures in
    let f = c.walk_rare in
    rare_sought a.self.now.at a.self.now.lo x.result (x.result + n.result) w r f.result f.new.work at f.ensures
