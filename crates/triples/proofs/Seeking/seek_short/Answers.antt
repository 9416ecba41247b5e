-- `triples::Seeking::seek_short` meets its contract. Its keys, then its nodes but two (`short_sought`).
use Prim.Native.Nat.{ℕ, ◌+◌, ◌<◌}
use mathlib.Core.Path.{◌≡◌, ap}
use mathlib.Core.List.{List}
use native.Mathlib.Omega.{arith}
use lib.ListN.{length, get_or}
use lib.Seq.{length-take-le}
use Rattle.index.specs.Faces.{base}
use Rattle.triples.proofs.OneList.{second}
use Rattle.triples.proofs.Steps.{step_open, step_base, step_beside}
use Rattle.triples.proofs.Found.{none_open, keyed_beside, nodes_at, nodes_fit, nodes_known, short_sought}
use Rattle.triples.proofs.Seeking.seek_short.Goals as goal

pub overflow_add-a : goal.overflow_add-a
overflow_add-a c =
    let a = c.args in
    let b = base a.self.now.at a.work.now in
    let kd = c.requires.ready.1 in
    let long : length b ≡ a.self.now.at.found = length-take-le a.self.now.at.found a.work.now (omega (arith, c.requires.ready.0.room)) in
    let lo_face : a.self.now.lo < a.self.now.by.faces = omega (arith, c.requires.ready.0.face, kd.faces) in
    let x = c.set_start-a in
    let n = c.set_size-k in
    omega (arith, nodes_fit a.self.now.by b kd.indexed a.self.now.lo x.result (x.result + n.result) lo_face (nodes_at c.new-keys.result (second a.self.now.at c.new-keys.result c.args.work.now c.requires.ready.1.found c.new-keys.ensures) a.self.now.lo x.result n.result x.ensures n.ensures), long, c.requires.ready.0.room)

pub walk_keys-n-requires-clause-beside : goal.walk_keys-n-requires-clause-beside
walk_keys-n-requires-clause-beside c =
    let a = c.args in
    let b = base a.self.now.at a.work.now in
    let kd = c.requires.ready.1 in
    let long : length b ≡ a.self.now.at.found = length-take-le a.self.now.at.found a.work.now (omega (arith, c.requires.ready.0.room)) in
    let lo_face : a.self.now.lo < a.self.now.by.faces = omega (arith, c.requires.ready.0.face, kd.faces) in
    let x = c.set_start-a in
    let n = c.set_size-k in
    let keys = nodes_at c.new-keys.result (second a.self.now.at c.new-keys.result c.args.work.now c.requires.ready.1.found c.new-keys.ensures) a.self.now.lo x.result n.result x.ensures n.ensures in (
      keyed_beside a.self.now.at a.self.now.by b kd,
      omega (arith, nodes_fit a.self.now.by b kd.indexed a.self.now.lo x.result (x.result + n.result) lo_face keys, long),
      nodes_known a.self.now.by b kd.indexed a.self.now.lo x.result (x.result + n.result) lo_face keys,
    )

pub walk_rare-requires-clause-fact : goal.walk_rare-requires-clause-fact
walk_rare-requires-clause-fact c =
    let a = c.args in
    let w = a.work.now in
    let x = c.set_start-a in
    let k = c.walk_keys-n in
    step_open a.self.now.at a.self.now.by a.self.now.lo 0 w (none_open a.self.now.at a.self.now.lo w c.requires.ready.0) (keyed_beside a.self.now.at a.self.now.by (base a.self.now.at w) c.requires.ready.1) x.result (x.result + c.set_size-k.result) k.result k.new.work k.ensures

pub walk_rare-requires-clause-beside : goal.walk_rare-requires-clause-beside
walk_rare-requires-clause-beside c =
    let a = c.args in
    let w = a.work.now in
    let b = base a.self.now.at w in
    let r = c.requires.ready.0 in
    let long : length b ≡ a.self.now.at.found = length-take-le a.self.now.at.found w (omega (arith, r.room)) in
    let x = c.set_start-a in
    let e = x.result + c.set_size-k.result in
    let k = c.walk_keys-n in
    let op = none_open a.self.now.at a.self.now.lo w r in
    let bs = keyed_beside a.self.now.at a.self.now.by b c.requires.ready.1 in
    let same = step_base a.self.now.at a.self.now.by a.self.now.lo 0 w op bs x.result e k.result k.new.work k.ensures in (
      step_beside a.self.now.at a.self.now.by a.self.now.lo 0 w op bs x.result e k.result k.new.work k.ensures a.self.now.by bs,
      omega (arith, c.requires.nodes_at.1),
      omega (arith, nodes_fit a.self.now.at b r.indexed a.self.now.lo a.s a.e r.face c.requires.nodes_at.0, long),
      λ i h l. omega (arith, ap (λ (z : List ℕ). get_or z i 0) same, nodes_known a.self.now.at b r.indexed a.self.now.lo a.s a.e r.face c.requires.nodes_at.0 i h l, c.requires.ready.1.nodes),
    )

pub returns : goal.returns
returns c =
    let a = c.args in
    let w = a.work.now in
    let x = c.set_start-a in
    let n = c.set_size-k in
    let keys = nodes_at c.new-keys.result (second a.self.now.at c.new-keys.result c.args.work.now c.requires.ready.1.found c.new-keys.ensures) a.self.now.lo x.result n.result x.ensures n.ensures in
    let k = c.walk_keys-n in
    let f = c.walk_rare in
    short_sought a.self.now.at a.self.now.by a.self.now.lo a.s a.e x.result (x.result + n.result) w c.requires.ready.0 c.requires.ready.1 k.result k.new.work f.result f.new.work
    c.requires.nodes_at.0 keys c.requires.nodes_at.1 c.requires.nodes_at.2 k.ensures f.ensures
