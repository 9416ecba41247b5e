-- `triples::Seeking::walk` meets its contract. A loop of Turns: the pieces are the hits among the faces.
use Prim.Native.Nat.{ℕ, ◌+◌, ◌≤◌, ◌<◌}
use mathlib.Core.Path.{◌≡◌, refl, ap₂, subst}
use mathlib.Core.List.{List, [], ◌∷◌}
use native.Mathlib.Omega.{arith}
use lib.ListN.{length, get_or}
use lib.Seq.{length-take-le}
use Rattle.laws.specs.Lists.{only_if}
use Rattle.index.specs.declared.Places.{Places}
use Rattle.index.specs.Faces.{input, base}
use Rattle.merge.specs.Runs.{rest}
use Rattle.seek.specs.Candidates.{shares}
use Rattle.triples.specs.Hits.{Open, Added}
use Rattle.triples.proofs.Adds.{Faces, Prog}
use Rattle.triples.proofs.Turns.{held_start, held_open, held_base, held-length, held_read, held_next, held_end, of_rest, faces_kept}
use Rattle.triples.proofs.Seeking.walk.Invariants.{G}
use Rattle.triples.proofs.Seeking.walk.Goals as goal

abbrev F : Places → List ℕ → ℕ → ℕ → List ℕ → List ℕ
F p w lo g l = only_if (shares p (input p (base p w)) lo g) (g ∷ [])

module _ (p : Places) (lo n : ℕ) (w : List ℕ) (op : Open p lo n w) (s e : ℕ) (asked : (e ≤ p.found) × ((i : ℕ) → s ≤ i → i < e → get_or (base p w) i 0 < p.faces)) where
  -- all that is added are faces
  all : Faces p (G p w lo (rest s e (base p w)))
  all =
      faces_kept p (shares p (input p (base p w)) lo) (rest s e (base p w))
      (of_rest (λ g. g < p.faces) s e (base p w) (omega (arith, asked.0, length-take-le p.found w (omega (arith, op.ready.room)))) asked.1)

  -- at the start all is to do
  start : Prog p n w (G p w lo (rest s e (base p w))) (G p w lo (rest s e (base p w))) n w
  start = held_start p lo n w op s e asked.0 (G p w lo) (F p w lo) refl (λ x l. refl) all

  module _ (i r : ℕ) (v : List ℕ) (h : Prog p n w (G p w lo (rest s e (base p w))) (G p w lo (rest i e (base p w))) r v) where
    -- the length stays
    long : length v ≡ length w
    long = held-length p lo n w op s e asked.0 (G p w lo) (F p w lo) refl (λ x l. refl) all i r v h

    -- more can be added
    more : Open p lo r v
    more = held_open p lo n w op s e asked.0 (G p w lo) (F p w lo) refl (λ x l. refl) all i r v h

    -- what is read stays
    same : base p v ≡ base p w
    same = held_base p lo n w op s e asked.0 (G p w lo) (F p w lo) refl (λ x l. refl) all i r v h

    -- word i is as at the start
    read : i < e → get_or v i 0 ≡ get_or (base p w) i 0
    read = held_read p lo n w op s e asked.0 (G p w lo) (F p w lo) refl (λ x l. refl) all i r v h

    -- a face is done
    next : i < e → (g r' : ℕ) (u : List ℕ) → g ≡ get_or (base p w) i 0 → Added p (only_if (shares p (input p (base p v)) lo g) (g ∷ [])) r v r' u
        → Prog p n w (G p w lo (rest s e (base p w))) (G p w lo (rest (i + 1) e (base p w))) r' u
    next k g r' u is a =
        held_next p lo n w op s e asked.0 (G p w lo) (F p w lo) refl (λ x l. refl) all i r v h k r' u
        (subst (λ (l : List ℕ). Added p l r v r' u) (ap₂ (λ (b : List ℕ) (x : ℕ). only_if (shares p (input p b) lo x) (x ∷ [])) same is) a)

    -- all are done
    done : e ≤ i → Added p (G p w lo (rest s e (base p w))) n w r v
    done = held_end p lo n w op s e asked.0 (G p w lo) (F p w lo) refl (λ x l. refl) all i r v h

pub loop-i-init : goal.loop-i-init
loop-i-init c =
    let a = c.args in
    start a.self.now.at a.self.now.lo a.n a.work.now c.requires.fact a.x a.e c.requires.e_le_found

pub consider-n-requires-clause-fact : goal.consider-n-requires-clause-fact
consider-n-requires-clause-fact c =
    let a = c.args in
    let l = c.loop-i in
    more a.self.now.at a.self.now.lo a.n a.work.now c.requires.fact a.x a.e c.requires.e_le_found l.i l.n l.work l.invariant

pub consider-n-requires-clause-g_lt_faces : goal.consider-n-requires-clause-g_lt_faces
consider-n-requires-clause-g_lt_faces c =
    let a = c.args in
    let l = c.loop-i in
    let k = c.loop-i-test.true in
    omega (arith, read a.self.now.at a.self.now.lo a.n a.work.now c.requires.fact a.x a.e c.requires.e_le_found l.i l.n l.work l.invariant k, c.requires.e_le_found.1 l.i l.auto.i k)

pub loop-i-preserved : goal.loop-i-preserved
loop-i-preserved c =
    let a = c.args in
    let l = c.loop-i in
    let k = c.loop-i-test.true in
    let f = c.consider-n in
    let is = read a.self.now.at a.self.now.lo a.n a.work.now c.requires.fact a.x a.e c.requires.e_le_found l.i l.n l.work l.invariant k in
    next a.self.now.at a.self.now.lo a.n a.work.now c.requires.fact a.x a.e c.requires.e_le_found l.i l.n l.work l.invariant k _ f.result f.new.work is f.ensures
