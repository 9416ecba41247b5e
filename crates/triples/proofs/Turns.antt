-- A loop over the words from s to e that adds a piece for each: G of the words is the pieces one after the other, F the piece of a word and
-- those behind it.
use Prim.Native.Nat.{ℕ, ◌+◌, ◌-◌, ◌≤◌, ◌<◌}
use mathlib.Core.Path.{◌≡◌, sym, ap, ◌∙◌, subst}
use mathlib.Core.Logic.{⊎_elim}
use mathlib.Core.Bool.{Bool, true, false≢true}
use mathlib.Core.List.{List, [], ◌∷◌, ◌++◌}
use native.Mathlib.Omega.{arith}
use borrow.Author.Tests.{ltb-true}
use lib.Dec.{leb, ltb, eqb}
use lib.ListN.{length, get_or, drop}
use lib.Seq.{get_or-take, length-take-le}
use Rattle.laws.specs.Lists.{each, keep, up_from, elem}
use Rattle.laws.proofs.ListLaws.{any_append}
use Rattle.std.proofs.lemmas.Bool.{and_parts, or_cases}
use Rattle.laws.proofs.Stores.{get_or-region}
use Rattle.laws.proofs.Ascending.{elem-keep, elem-up_from}
use Rattle.index.specs.declared.Places.{Places}
use Rattle.index.specs.Faces.{input, base, nodes_of, faces_with}
use Rattle.merge.specs.Runs.{rest}
use Rattle.merge.proofs.RunLaws.{rest_cons, rest_none}
use Rattle.seek.specs.Candidates.{shares}
use Rattle.seek.proofs.Merging.{all_of}
use Rattle.triples.specs.Hits.{hits_by, Open, Added}
use Rattle.triples.proofs.Adds.{Faces, Prog, prog_start, prog_open, prog_base, prog_length, prog_step, prog_end}

-- ---- all that is added are faces

-- two lists of faces
pub faces_append : (p : Places) (a b : List ℕ) → Faces p a → Faces p b → Faces p (a ++ b)
faces_append p a b f g x e = ⊎_elim (f x) (g x) (or_cases (elem x a) (elem x b) (sym (any_append (eqb x) a b) ∙ e))

-- lists of faces one after the other
pub faces_each : (p : Places) (f : ℕ → List ℕ) → ((x : ℕ) → Faces p (f x)) → (l : List ℕ) → Faces p (each f l)
faces_each p f h [] = λ x e. absurd (false≢true e)
faces_each p f h (y ∷ l) = faces_append p (f y) (each f l) (h y) (faces_each p f h l)

-- what holds of the words from s to e
pub of_rest : (P : ℕ → Type 0) (s e : ℕ) (b : List ℕ) → e ≤ length b → ((i : ℕ) → s ≤ i → i < e → P (get_or b i 0)) → (x : ℕ) → elem x (rest s e b) ≡ true → P x
of_rest P s e b h f =
    all_of P (rest s e b)
    (λ i k. let l : i < e - s = omega (arith, lib.ListN.length-take (e - s) (drop s b)) in
    subst P (sym (get_or-region s (e - s) b i 0 l)) (f (s + i) (omega arith) (omega arith)))

-- those that pass a test
pub faces_kept : (p : Places) (q : ℕ → Bool) (l : List ℕ) → Faces p l → Faces p (keep q l)
faces_kept p q l f x e = f x (and_parts (q x) (elem x l) (sym (elem-keep x q l) ∙ e)).1

-- those of a key
pub faces_hits : (p q : Places) (b : List ℕ) (lo v : ℕ) → q.faces ≡ p.faces → Faces p (hits_by p q b lo v)
unfolding hits_by faces_with
faces_hits p q b lo v same =
    faces_kept p (shares p (input p b) lo) (keep (λ g. elem v (nodes_of q (input q b) g)) (up_from 0 q.faces))
    (faces_kept p (λ g. elem v (nodes_of q (input q b) g)) (up_from 0 q.faces)
    (λ x e. omega (arith, same, ltb-true x (0 + q.faces) (and_parts (leb 0 x) (ltb x (0 + q.faces)) (sym (elem-up_from x 0 q.faces) ∙ e)).1)))

-- ---- the loop

module _ (p : Places) (lo n : ℕ) (w : List ℕ) (op : Open p lo n w) (s e : ℕ) (within : e ≤ p.found)
    (G : List ℕ → List ℕ) (F : ℕ → List ℕ → List ℕ) (nil : G [] ≡ []) (cons : (x : ℕ) (l : List ℕ) → G (x ∷ l) ≡ F x l ++ G l) (f : Faces p (G (rest s e (base p w)))) where
  abbrev B : List ℕ
  B = base p w

  abbrev pub Held : ℕ → ℕ → List ℕ → Type 0
  Held i r v = Prog p n w (G (rest s e B)) (G (rest i e B)) r v

  -- the words are there
  pub B_long : e ≤ length B
  B_long = omega (arith, length-take-le p.found w (omega (arith, op.ready.room)))

  -- at the start all is to do
  pub held_start : Held s n w
  held_start = prog_start p lo n w op (G (rest s e B)) f

  module _ (i r : ℕ) (v : List ℕ) (h : Held i r v) where
    -- more can be added
    pub held_open : Open p lo r v
    held_open = prog_open p lo n w op (G (rest s e B)) f (G (rest i e B)) r v h

    -- what is read stays
    pub held_base : base p v ≡ base p w
    held_base = prog_base p lo n w op (G (rest s e B)) f (G (rest i e B)) r v h

    -- and the length
    pub held-length : length v ≡ length w
    held-length = prog_length p lo n w op (G (rest s e B)) f (G (rest i e B)) r v h

    -- word i is as at the start
    pub held_read : i < e → get_or v i 0 ≡ get_or B i 0
    held_read k = sym (get_or-take p.found v i 0 (omega arith)) ∙ ap (λ (l : List ℕ). get_or l i 0) held_base

    -- one piece is added
    pub held_next : i < e → (q : ℕ) (u : List ℕ) → Added p (F (get_or B i 0) (rest (i + 1) e B)) r v q u → Held (i + 1) q u
    held_next k q u a =
        prog_step p lo n w op (G (rest s e B)) f (G (rest i e B)) r v h (F (get_or B i 0) (rest (i + 1) e B)) (G (rest (i + 1) e B))
        (ap G (rest_cons i e B k B_long) ∙ cons (get_or B i 0) (rest (i + 1) e B)) q u a

    -- at the end all is added
    pub held_end : e ≤ i → Added p (G (rest s e B)) n w r v
    held_end k = prog_end p lo n w op (G (rest s e B)) f r v (subst (λ (l : List ℕ). Prog p n w (G (rest s e B)) l r v) (ap G (rest_none i e B k) ∙ nil) h)
