-- What the ring lookup answers: its refusals in order, and the part.
use Prim.Native.Nat.{ℕ, ◌-◌, ◌≤◌, ◌<◌}
use mathlib.Core.Path.{◌≡◌, refl, sym, ap, ap₂, ◌∙◌, subst}
use mathlib.Core.Logic.{◌⊎◌, inl, inr, ◌≢◌}
use mathlib.Core.Bool.{Bool, true, false, not, ◌||◌}
use mathlib.Core.List.{List, [], ◌∷◌, ◌++◌}
use native.Mathlib.Omega.{arith}
use borrow.Author.Tests.{leb-false, le-leb, lt-leb, eqb-true, eqb-false, eq-eqb, ne_eqb, not-false}
use lib.Dec.{eqb}
use lib.ListN.{length, get_or, take, drop}
use Rattle.std.specs.declared.ops.Range.{Range}
use Rattle.std.specs.Prelude.{Result, Ok, Err}
use Rattle.laws.specs.Refusals.{refusal, answer}
use Rattle.std.proofs.lemmas.Bool.{cases_Bool, or_parts}
use Rattle.laws.proofs.Tables.{refusal_first, clear_append, refusal_clear}
use Rattle.refusals.specs.Told.{told_by}
use Rattle.refusals.specs.declared.Refusal.{Refusal}
use Rattle.refusals.specs.declared.Refusal.TheVariants.{Room, Number}
use Rattle.refusals.proofs.Told.{number-positive, told_ok, told_err, ok_told, err_told}
use Rattle.mesh.specs.Model.{Model}
use Rattle.mesh.specs.Lent.{lent}
use Rattle.mesh.specs.declared.accepted.Accepted.{Accepted}
use Rattle.mesh.specs.Rings.{ring_words}
use Rattle.mesh.specs.Acceptance.{model_table, model_refusal, faces_in}
use Rattle.mesh.specs.Lookup.{face_off, named, lookup_refusal, ring_part}
use Rattle.mesh.specs.Steps.{ring_total, Tallied}
use Rattle.mesh.specs.declared.RingList.{RingList}
use Rattle.mesh.proofs.Accepts.{accepted_clear}
use Rattle.faces.specs.Spans.{rings_in, SpanIn}
use Rattle.faces.proofs.Rings.{faces_are_lem, words_are, ring_at, start_at, span_within}

-- a table behind a model's: the model's refusal first
pub behind_refused : (m : Model) (rest : List (ℕ × Bool)) → model_refusal m ≢ 0 → refusal (model_table m ++ rest) ≡ model_refusal m
unfolding model_refusal
behind_refused m rest z = refusal_first (model_table m) rest z

-- and then its own
pub behind_accepted : (m : Model) (rest : List (ℕ × Bool)) → model_refusal m ≡ 0 → refusal (model_table m ++ rest) ≡ refusal rest
behind_accepted m rest z = clear_append (model_table m) rest (accepted_clear m z)

-- where nothing is refused the model is not
behind_none : (m : Model) (rest : List (ℕ × Bool)) → refusal (model_table m ++ rest) ≡ 0 → model_refusal m ≡ 0
behind_none m rest e = go (cases_Bool (eqb (model_refusal m) 0))
  where
    go : (eqb (model_refusal m) 0 ≡ true) ⊎ (eqb (model_refusal m) 0 ≡ false) → model_refusal m ≡ 0
    go (inl a) = eqb-true (model_refusal m) 0 a
    go (inr a) = sym (behind_refused m rest (eqb-false (model_refusal m) 0 a)) ∙ e

-- a list isn't R words
abbrev lists_off : Model → List ℕ → List ℕ → Bool
lists_off m raw welded = not (eqb (length raw) (length (ring_words (faces_in m)))) || not (eqb (length welded) (length (ring_words (faces_in m))))

-- the lookup's own rows
abbrev rows : Model → List ℕ → List ℕ → ℕ → List (ℕ × Bool)
rows m raw welded f = (4, lists_off m raw welded) ∷ (12, face_off m f) ∷ []

-- ---- the companion's answer

-- an accepted model has no refusal, and is the one that was judged
pub accepted_is : (m : Model) (x : Accepted) → told_by {A = Accepted} {B = Model} (λ a. lent a.model) (Ok x) ≡ answer (model_refusal m) m → (model_refusal m ≡ 0) × (lent x.model ≡ m) × Tallied m x.faces x.ring_words
accepted_is m x e =
    let z = told_ok {A = Accepted} {B = Model} (λ a. lent a.model) x (model_refusal m) m e in
    (z.0, z.1, subst (λ (v : Model). Tallied v x.faces x.ring_words) z.1 x.tallied)

-- what the companion says
abbrev Judged : Model → List ℕ → List ℕ → ℕ → Result Accepted Refusal → Type 0
Judged m raw welded f r = told_by {A = Accepted} {B = Unit {0}} (λ _. tt {0}) r ≡ answer (lookup_refusal m raw welded f) (tt {0})

-- the model is refused
pub judged_model : (m : Model) (raw welded : List ℕ) (f : ℕ) (e : Refusal) → told_by {A = Accepted} {B = Model} (λ a. lent a.model) (Err e) ≡ answer (model_refusal m) m → Judged m raw welded f (Err e)
unfolding lookup_refusal
judged_model m raw welded f e h =
    let n = told_err {A = Accepted} {B = Model} (λ a. lent a.model) e (model_refusal m) m h in
    let z = behind_refused m (rows m raw welded f) (λ z. omega (arith, number-positive e, n, z)) in
    err_told {A = Accepted} {B = Unit {0}} _ e (lookup_refusal m raw welded f) _ (n ∙ sym z)

-- it is accepted, and the rows behind it decide
module _ (m : Model) (raw welded : List ℕ) (f : ℕ) (x : Accepted) (told : told_by {A = Accepted} {B = Model} (λ a. lent a.model) (Ok x) ≡ answer (model_refusal m) m) where
  tallied : Tallied m x.faces x.ring_words
  tallied = (accepted_is m x told).2

  rows_decide : lookup_refusal m raw welded f ≡ refusal (rows m raw welded f)
  unfolding lookup_refusal
  rows_decide = behind_accepted m (rows m raw welded f) (accepted_is m x told).0

  right : (l : List ℕ) → length l ≡ x.ring_words → eqb (length l) (length (ring_words (faces_in m))) ≡ true
  right l e = eq-eqb (length l) (length (ring_words (faces_in m))) (e ∙ tallied.words)

  wrong : (l : List ℕ) → length l ≢ x.ring_words → eqb (length l) (length (ring_words (faces_in m))) ≡ false
  wrong l z = ne_eqb (length l) (length (ring_words (faces_in m))) (λ e. z (e ∙ sym tallied.words))

  -- the raw list isn't R words
  pub judged_raw : length raw ≢ x.ring_words → Judged m raw welded f (Err Room)
  judged_raw z = err_told {A = Accepted} {B = Unit {0}} _ Room _ _ (sym (rows_decide ∙ rw (wrong raw z)))

  -- the welded list isn't
  pub judged_welded : length raw ≡ x.ring_words → length welded ≢ x.ring_words → Judged m raw welded f (Err Room)
  judged_welded a z = err_told {A = Accepted} {B = Unit {0}} _ Room _ _ (sym (rows_decide ∙ rw (right raw a, wrong welded z)))

  -- there is no such face
  pub judged_face : length raw ≡ x.ring_words → length welded ≡ x.ring_words → x.faces ≤ f → Judged m raw welded f (Err Number)
  judged_face a b h =
      err_told {A = Accepted} {B = Unit {0}} _ Number _ _ (sym (rows_decide ∙ rw (right raw a, right welded b, le-leb (length (faces_in m)) f (omega (arith, tallied.faces)))))

  -- nothing is refused
  pub judged_none : length raw ≡ x.ring_words → length welded ≡ x.ring_words → f < x.faces → Judged m raw welded f (Ok x)
  judged_none a b h =
      ok_told {A = Accepted} {B = Unit {0}} _ x _ _ (rows_decide ∙ rw (right raw a, right welded b, lt-leb (length (faces_in m)) f (omega (arith, tallied.faces)))) refl

-- ---- the part

-- what it is that nothing is refused
pub record Looked (m : Model) (raw welded : List ℕ) (f : ℕ) : Type 0 where
  pub model : model_refusal m ≡ 0
  pub raw_is_lem : length raw ≡ ring_total (rings_in m)
  pub welded_is_lem : length welded ≡ ring_total (rings_in m)
  pub face : f < length (rings_in m)

-- nothing is refused, so that holds
pub looked : (m : Model) (raw welded : List ℕ) (f : ℕ) → lookup_refusal m raw welded f ≡ 0 → Looked m raw welded f
unfolding lookup_refusal
looked m raw welded f e =
    let z = behind_none m (rows m raw welded f) e in
    let r = refusal_clear (rows m raw welded f) (λ y. omega arith, (λ y. omega arith, tt)) (sym (behind_accepted m (rows m raw welded f) z) ∙ e) in
    let p = or_parts (lists_off m raw welded) (face_off m f || false) r in
    let q = or_parts (not (eqb (length raw) (length (ring_words (faces_in m))))) (not (eqb (length welded) (length (ring_words (faces_in m))))) p.0 in
    let s = or_parts (face_off m f) false p.1 in
    record {
      model = z;
      raw_is_lem = eqb-true (length raw) (length (ring_words (faces_in m))) (not-false (eqb (length raw) (length (ring_words (faces_in m)))) q.0) ∙ words_are m;
      welded_is_lem = eqb-true (length welded) (length (ring_words (faces_in m))) (not-false (eqb (length welded) (length (ring_words (faces_in m)))) q.1) ∙ words_are m;
      face = omega (arith, leb-false (length (faces_in m)) f s.0, faces_are_lem m);
    }

-- at a refusal the part is empty
pub part_none : (m : Model) (raw welded : List ℕ) (which : RingList) (f : ℕ) (e : Refusal) → Judged m raw welded f (Err e) → [] ≡ ring_part m raw welded which f
unfolding ring_part
part_none m raw welded which f e h =
    let n = told_err {A = Accepted} {B = Unit {0}} _ e (lookup_refusal m raw welded f) _ h in
    rw (ne_eqb (lookup_refusal m raw welded f) 0 (λ z. omega (arith, number-positive e, n, z)))

-- what a ring's place says where nothing is refused
module _ (m : Model) (raw welded : List ℕ) (f : ℕ) (x : Accepted) (judged : Judged m raw welded f (Ok x)) (same : lent x.model ≡ m) where
  none : lookup_refusal m raw welded f ≡ 0
  none = (told_ok {A = Accepted} {B = Unit {0}} _ x (lookup_refusal m raw welded f) _ judged).0

  -- there is such a face
  pub part_face : f < length (rings_in (lent x.model))
  part_face = omega (arith, (looked m raw welded f none).face, ap (λ (v : Model). length (rings_in v)) same)

  module _ (s : Range ℕ) (p : SpanIn (rings_in (lent x.model)) f s) where
    spot : SpanIn (rings_in m) f s
    spot = subst (λ (v : Model). SpanIn (rings_in v) f s) same p

    -- its ring lies within both lists
    pub part_within : (s.end ≤ length raw) × (s.end ≤ length welded)
    part_within =
        let l = looked m raw welded f none in
        let w = span_within (rings_in m) f l.face in
        (omega (arith, w, spot.start, spot.end, l.raw_is_lem), omega (arith, w, spot.start, spot.end, l.welded_is_lem))

    -- and is the part of the list named
    pub part_is_lem : (which : RingList) → take (s.end - s.start) (drop s.start (named which raw welded)) ≡ ring_part m raw welded which f
    unfolding ring_part
    part_is_lem which =
        let n : s.end - s.start ≡ length (get_or (rings_in m) f []) = omega (arith, spot.end) in
        ap₂ (λ (k j : ℕ). take k (drop j (named which raw welded))) (n ∙ ap length (sym (ring_at m f))) (spot.start ∙ sym (start_at m f))
        ∙ rw (eq-eqb (lookup_refusal m raw welded f) 0 none)
