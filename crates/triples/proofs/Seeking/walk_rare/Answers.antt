-- `triples::Seeking::walk_rare` meets its contract. Three walks over keys, one after the other (Steps).
use Prim.Native.Nat.{ℕ, ◌+◌}
use mathlib.Core.Path.{◌≡◌, ◌∙◌, subst}
use mathlib.Core.List.{List, ◌++◌}
use native.Mathlib.Omega.{arith}
use Rattle.laws.specs.Lists.{each}
use Rattle.index.specs.declared.Places.{Places}
use Rattle.index.specs.Faces.{base}
use Rattle.merge.specs.Runs.{rest}
use Rattle.triples.specs.Hits.{hits_by, Added}
use Rattle.triples.proofs.Steps.{known_part, step_open, step_base, step_beside, step_more, step_keys}
use Rattle.triples.proofs.Seeking.walk_rare.Goals as goal

-- the keys of two walks, read where they stood
read_back_lem : (p q : Places) (lo r : ℕ) (v : List ℕ) (r' : ℕ) (u : List ℕ) (i j k e : ℕ) (b : List ℕ) → base p v ≡ b
    → Added p (each (hits_by p q (base p v) lo) (rest i j (base p v)) ++ each (hits_by p q (base p v) lo) (rest k e (base p v))) r v r' u
    → Added p (each (hits_by p q b lo) (rest i j b) ++ each (hits_by p q b lo) (rest k e b)) r v r' u
read_back_lem p q lo r v r' u i j k e b same a = subst (λ (x : List ℕ). Added p (each (hits_by p q x lo) (rest i j x) ++ each (hits_by p q x lo) (rest k e x)) r v r' u) same a

pub walk_keys-b-requires-clause-fact : goal.walk_keys-b-requires-clause-fact
walk_keys-b-requires-clause-fact c =
    let a = c.args in
    let k = c.walk_keys-a in
    step_open a.self.now.at a.self.now.by a.self.now.lo a.n a.work.now c.requires.fact c.requires.beside.0 a.s c.two_longest-t.result.i k.result k.new.work k.ensures

pub walk_keys-b-requires-clause-beside : goal.walk_keys-b-requires-clause-beside
walk_keys-b-requires-clause-beside c =
    let a = c.args in
    let p = a.self.now.at in
    let q = a.self.now.by in
    let w = a.work.now in
    let op = c.requires.fact in
    let bs = c.requires.beside.0 in
    let t = c.two_longest-t in
    let k = c.walk_keys-a in
    let i = t.result.i in
    let j = t.result.j in
    let v = k.new.work in
    let same-v = step_base p q a.self.now.lo a.n w op bs a.s i k.result v k.ensures in (
      step_beside p q a.self.now.lo a.n w op bs a.s i k.result v k.ensures q bs,
      omega (arith, t.ensures, c.requires.beside.2),
      known_part q (base p v) (base p w) a.s a.e (i + 1) j same-v (omega (arith, t.ensures)) (omega (arith, t.ensures)) c.requires.beside.3,
    )

pub walk_keys-requires-clause-fact : goal.walk_keys-requires-clause-fact
walk_keys-requires-clause-fact c =
    let a = c.args in
    let p = a.self.now.at in
    let q = a.self.now.by in
    let w = a.work.now in
    let op = c.requires.fact in
    let bs = c.requires.beside.0 in
    let t = c.two_longest-t in
    let k = c.walk_keys-a in
    let i = t.result.i in
    let j = t.result.j in
    let v = k.new.work in
    let open-v = step_open p q a.self.now.lo a.n w op bs a.s i k.result v k.ensures in
    let beside-v = step_beside p q a.self.now.lo a.n w op bs a.s i k.result v k.ensures q bs in
    let m = c.walk_keys-b in
    step_open p q a.self.now.lo k.result v open-v beside-v (i + 1) j m.result m.new.work m.ensures

pub walk_keys-requires-clause-beside : goal.walk_keys-requires-clause-beside
walk_keys-requires-clause-beside c =
    let a = c.args in
    let p = a.self.now.at in
    let q = a.self.now.by in
    let w = a.work.now in
    let op = c.requires.fact in
    let bs = c.requires.beside.0 in
    let t = c.two_longest-t in
    let k = c.walk_keys-a in
    let i = t.result.i in
    let j = t.result.j in
    let v = k.new.work in
    let open-v = step_open p q a.self.now.lo a.n w op bs a.s i k.result v k.ensures in
    let same-v = step_base p q a.self.now.lo a.n w op bs a.s i k.result v k.ensures in
    let beside-v = step_beside p q a.self.now.lo a.n w op bs a.s i k.result v k.ensures q bs in
    let m = c.walk_keys-b in
    let u = m.new.work in
    let same-u = step_base p q a.self.now.lo k.result v open-v beside-v (i + 1) j m.result u m.ensures in (
      step_beside p q a.self.now.lo k.result v open-v beside-v (i + 1) j m.result u m.ensures q beside-v,
      c.requires.beside.2,
      known_part q (base p u) (base p w) a.s a.e (j + 1) a.e (same-u ∙ same-v) (omega (arith, t.ensures)) (omega arith) c.requires.beside.3,
    )

pub returns : goal.returns
returns c =
    let a = c.args in
    let p = a.self.now.at in
    let q = a.self.now.by in
    let w = a.work.now in
    let op = c.requires.fact in
    let bs = c.requires.beside.0 in
    let t = c.two_longest-t in
    let k = c.walk_keys-a in
    let i = t.result.i in
    let j = t.result.j in
    let v = k.new.work in
    let open-v = step_open p q a.self.now.lo a.n w op bs a.s i k.result v k.ensures in
    let same-v = step_base p q a.self.now.lo a.n w op bs a.s i k.result v k.ensures in
    let beside-v = step_beside p q a.self.now.lo a.n w op bs a.s i k.result v k.ensures q bs in
    let m = c.walk_keys-b in
    let u = m.new.work in
    let f = c.walk_keys in
    let last = step_keys p q a.self.now.lo k.result v open-v beside-v (i + 1) j m.result u m.ensures q (j + 1) a.e f.result f.new.work f.ensures in
    let both = step_more p q a.self.now.lo k.result v open-v beside-v (i + 1) j m.result u m.ensures _ f.result f.new.work last in
    record {
      i = i;
      j = j;
      places = t.ensures;
      added = step_more p q a.self.now.lo a.n w op bs a.s i k.result v k.ensures _ f.result f.new.work (read_back_lem p q a.self.now.lo k.result v f.result f.new.work (i + 1) j (j + 1) a.e (base p w) same-v both);
    }
