-- `triples::Seeking::walk_keys` meets its contract. A loop of Turns: the pieces are the candidates that have each key.
use Prim.Native.Nat.{ℕ, ◌+◌, ◌≤◌, ◌<◌}
use mathlib.Core.Path.{◌≡◌, refl, sym, ap₂, subst}
use mathlib.Core.List.{List}
use native.Mathlib.Omega.{arith}
use lib.ListN.{length, get_or}
use Rattle.index.specs.declared.Places.{Places}
use Rattle.index.specs.Faces.{base}
use Rattle.merge.specs.Runs.{rest}
use Rattle.triples.specs.Hits.{hits_by, Open, Added, Beside}
use Rattle.triples.proofs.Adds.{Faces, Prog}
use Rattle.triples.proofs.Turns.{held_start, held_open, held_base, held-length, held_read, held_next, held_end, faces_each, faces_hits}
use Rattle.triples.proofs.Seeking.walk_keys.Invariants.{G}
use Rattle.triples.proofs.Seeking.walk_keys.Goals as goal

abbrev F : Places → Places → List ℕ → ℕ → ℕ → List ℕ → List ℕ
F p q w lo v l = hits_by p q (base p w) lo v

module _ (p q : Places) (lo n : ℕ) (w : List ℕ) (op : Open p lo n w) (bs : Beside p q (base p w)) (s e : ℕ) (within : e ≤ p.found) where
  -- all that is added are faces
  all : Faces p (G p q w lo (rest s e (base p w)))
  all = faces_each p (hits_by p q (base p w) lo) (λ v. faces_hits p q (base p w) lo v bs.faces) (rest s e (base p w))

  -- at the start all is to do
  start : Prog p n w (G p q w lo (rest s e (base p w))) (G p q w lo (rest s e (base p w))) n w
  start = held_start p lo n w op s e within (G p q w lo) (F p q w lo) refl (λ x l. refl) all

  module _ (i r : ℕ) (v : List ℕ) (h : Prog p n w (G p q w lo (rest s e (base p w))) (G p q w lo (rest i e (base p w))) r v) where
    -- the length stays
    long : length v ≡ length w
    long = held-length p lo n w op s e within (G p q w lo) (F p q w lo) refl (λ x l. refl) all i r v h

    -- more can be added
    more : Open p lo r v
    more = held_open p lo n w op s e within (G p q w lo) (F p q w lo) refl (λ x l. refl) all i r v h

    -- what is read stays
    same : base p v ≡ base p w
    same = held_base p lo n w op s e within (G p q w lo) (F p q w lo) refl (λ x l. refl) all i r v h

    -- word i is as at the start
    read : i < e → get_or v i 0 ≡ get_or (base p w) i 0
    read = held_read p lo n w op s e within (G p q w lo) (F p q w lo) refl (λ x l. refl) all i r v h

    -- a key is done
    next : i < e → (x r' : ℕ) (u : List ℕ) → x ≡ get_or (base p w) i 0 → Added p (hits_by p q (base p v) lo x) r v r' u
        → Prog p n w (G p q w lo (rest s e (base p w))) (G p q w lo (rest (i + 1) e (base p w))) r' u
    next k x r' u is a =
        held_next p lo n w op s e within (G p q w lo) (F p q w lo) refl (λ y l. refl) all i r v h k r' u
        (subst (λ (l : List ℕ). Added p l r v r' u) (ap₂ (λ (b : List ℕ) (y : ℕ). hits_by p q b lo y) same is) a)

    -- all are done
    done : e ≤ i → Added p (G p q w lo (rest s e (base p w))) n w r v
    done = held_end p lo n w op s e within (G p q w lo) (F p q w lo) refl (λ x l. refl) all i r v h

pub loop-i-init : goal.loop-i-init
loop-i-init c =
    let a = c.args in
    start a.self.now.at a.self.now.by a.self.now.lo a.n a.work.now c.requires.fact c.requires.beside.0 a.s a.e c.requires.beside.1

pub walk_key-n-requires-clause-fact : goal.walk_key-n-requires-clause-fact
walk_key-n-requires-clause-fact c =
    let a = c.args in
    let l = c.loop-i in
    more a.self.now.at a.self.now.by a.self.now.lo a.n a.work.now c.requires.fact c.requires.beside.0 a.s a.e c.requires.beside.1 l.i l.n l.work l.invariant

pub walk_key-n-requires-clause-beside : goal.walk_key-n-requires-clause-beside
walk_key-n-requires-clause-beside c =
    let a = c.args in
    let l = c.loop-i in
    let k = c.loop-i-test.true in
    let w = a.work.now in
    let op = c.requires.fact in
    let bs = c.requires.beside.0 in
    let h = c.requires.beside.1 in (
      subst (Beside a.self.now.at a.self.now.by) (sym (same a.self.now.at a.self.now.by a.self.now.lo a.n w op bs a.s a.e h l.i l.n l.work l.invariant)) bs,
      omega (arith, read a.self.now.at a.self.now.by a.self.now.lo a.n w op bs a.s a.e h l.i l.n l.work l.invariant k, c.requires.beside.2 l.i l.auto.i k),
    )

pub loop-i-preserved : goal.loop-i-preserved
loop-i-preserved c =
    let a = c.args in
    let l = c.loop-i in
    let k = c.loop-i-test.true in
    let w = a.work.now in
    let op = c.requires.fact in
    let bs = c.requires.beside.0 in
    let h = c.requires.beside.1 in
    let f = c.walk_key-n in
    next a.self.now.at a.self.now.by a.self.now.lo a.n w op bs a.s a.e h l.i l.n l.work l.invariant k _ f.result f.new.work (read a.self.now.at a.self.now.by a.self.now.lo a.n w op bs a.s a.e h l.i l.n l.work l.invariant k) f.ensures
