-- `triples::Seeking::walk_key` meets its contract. What is walked is the list of the key (OneList).
use Prim.Native.Nat.{ℕ, ◌≤◌}
use mathlib.Core.Path.{subst}
use mathlib.Core.List.{List}
use native.Mathlib.Omega.{arith}
use lib.ListN.{length}
use Rattle.triples.specs.Hits.{Added}
use Rattle.triples.proofs.OneList.{ends_in, within, all_faces, the_hits}
use Rattle.triples.proofs.Seeking.walk_key.Goals as goal

pub walk-requires-clause-e_le_found : goal.walk-requires-clause-e_le_found
walk-requires-clause-e_le_found c =
    let a = c.args in
    let q = c.requires in
    let room : a.self.now.at.found ≤ length a.work.now = omega (arith, q.fact.ready.room) in
    let l = ends_in a.self.now.at c.new.result a.work.now a.v q.beside.0.found c.new.ensures c.list-ends.ensures in
    ((within a.self.now.at a.self.now.by a.work.now room q.beside.0 a.v q.beside.1 _ _ l.0 l.1).1, all_faces a.self.now.at a.self.now.by a.work.now room q.beside.0 a.v q.beside.1 _ _ l.0 l.1)

pub returns : goal.returns
returns c =
    let a = c.args in
    let q = c.requires in
    let room : a.self.now.at.found ≤ length a.work.now = omega (arith, q.fact.ready.room) in
    let l = ends_in a.self.now.at c.new.result a.work.now a.v q.beside.0.found c.new.ensures c.list-ends.ensures in
    subst (λ (l : List ℕ). Added a.self.now.at l a.n a.work.now c.walk.result c.walk.new.work) (the_hits a.self.now.at a.self.now.by a.work.now room q.beside.0 a.v q.beside.1 _ _ l.0 l.1 a.self.now.lo) c.walk.ensures
