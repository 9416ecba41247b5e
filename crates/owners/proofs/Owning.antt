-- The cells noted are a face's owners; what the operation answers and leaves.
use Prim.Native.Nat.{ℕ, suc, ◌+◌, ◌≤◌, ◌<◌}
use mathlib.Core.Path.{◌≡◌, refl, sym, ap, ap₂, ◌∙◌}
use mathlib.Core.Logic.{◌⊎◌, inl, inr, ◌≢◌}
use mathlib.Core.Bool.{Bool, true, false}
use mathlib.Core.List.{List, [], ◌∷◌, ◌++◌, map, map-append}
use native.Mathlib.Omega.{arith}
use borrow.Author.Tests.{le-leb, lt-leb, ne_eqb}
use lib.Dec.{leb}
use lib.ListN.{length, get_or, set, take, drop}
use lib.Seq.{sets}
use Rattle.laws.specs.Lists.{keep, sort, eql}
use Rattle.std.specs.Prelude.{Ok, Err}
use Rattle.laws.specs.Refusals.{refusal, refused, done, answer}
use Rattle.std.proofs.lemmas.Bool.{cases_Bool}
use Rattle.laws.proofs.ListLaws.{keep_append}
use Rattle.mesh.specs.Model.{Model, Raw, cells_of}
use Rattle.mesh.specs.Rings.{Face, same_key, rings_of, faces_from, number_from, numbered, faces_of, faces}
use Rattle.mesh.specs.Acceptance.{model_refusal, faces_in}
use Rattle.mesh.specs.Lookup.{face_off, owners_of, owners_table, owners_answer, owners_after}
use Rattle.refusals.specs.Told.{number, told_by}
use Rattle.refusals.specs.declared.Refusal.{Refusal}
use Rattle.refusals.proofs.Told.{number-positive, told_err}
use Rattle.mesh.specs.Lent.{lent}
use Rattle.mesh.specs.Steps.{Tallied}
use Rattle.mesh.specs.declared.accepted.Accepted.{Accepted}
use Rattle.rings.specs.Put.{WordsPut}
use Rattle.faces.specs.Spans.{rings_in}
use Rattle.faces.proofs.Rings.{faces_are_lem, ring_at}
use Rattle.faces.proofs.Lookups.{behind_refused, behind_accepted, accepted_is}
use Rattle.owners.specs.Holding.{holders, held}

-- ---- the owners

-- a face whose sorted ring is the key
abbrev keyed : List ℕ → Face → Bool
keyed key g = eql key (sort leb g.ring)

-- the cell of a cell's faces that have the key
cells_from_lem : (key : List ℕ) (c n : ℕ) (rs : List (List ℕ)) → map (λ g. g.cell) (keep (keyed key) (faces_from c n rs)) ≡ holders key c rs
unfolding faces_from
cells_from_lem key c n [] = refl
cells_from_lem key c n (r ∷ rs) = go (cases_Bool (eql key (sort leb r))) (cells_from_lem key c (suc n) rs)
  where
    go : (eql key (sort leb r) ≡ true) ⊎ (eql key (sort leb r) ≡ false) → map (λ g. g.cell) (keep (keyed key) (faces_from c (suc n) rs)) ≡ holders key c rs
        → map (λ g. g.cell) (keep (keyed key) (faces_from c n (r ∷ rs))) ≡ holders key c (r ∷ rs)
    go (inl e) ih = rw (e, ih)
    go (inr e) ih = rw (e, ih)

-- the same of all cells
cells_numbered : (key : List ℕ) (i n : ℕ) (cs : List Raw) → map (λ g. g.cell) (keep (keyed key) (faces rings_of (number_from rings_of i n cs))) ≡ held key i cs
unfolding number_from faces faces_of
cells_numbered key i n [] = refl
cells_numbered key i n (c ∷ cs) =
    let here = faces_from i n (rings_of c) in
    let later = faces rings_of (number_from rings_of (suc i) (n + length (rings_of c)) cs) in
    ap (map (λ (g : Face). g.cell)) (keep_append (keyed key) here later)
    ∙ map-append (λ (g : Face). g.cell) (keep (keyed key) here) (keep (keyed key) later)
    ∙ ap₂ (λ (a b : List ℕ). a ++ b) (cells_from_lem key i n (rings_of c)) (cells_numbered key (suc i) (n + length (rings_of c)) cs)

-- a face's owners are the cells that hold its sorted ring
owners_are_lem : (m : Model) (f : ℕ) → held (sort leb (get_or (rings_in m) f [])) 0 (cells_of m) ≡ owners_of (faces_in m) f
unfolding owners_of same_key faces_in numbered
owners_are_lem m f =
    sym (cells_numbered (sort leb (get_or (rings_in m) f [])) 0 0 (cells_of m))
    ∙ ap (λ (r : List ℕ). map (λ (g : Face). g.cell) (keep (keyed (sort leb r)) (faces_in m))) (sym (ring_at m f))

-- ---- the list filled

-- stores behind the first element
sets_shift : (y : ℕ) (l : List ℕ) (o : ℕ) (xs : List ℕ) → sets (y ∷ l) (suc o) xs ≡ y ∷ sets l o xs
sets_shift y l o [] = refl
sets_shift y l o (x ∷ xs) = sets_shift y (set l o x) (suc o) xs

-- no store fits an empty list
sets_nil : (o : ℕ) (xs : List ℕ) → sets [] o xs ≡ []
sets_nil o [] = refl
sets_nil o (x ∷ xs) = sets_nil (suc o) xs

-- as many are noted as fit
sets_fit : (l xs : List ℕ) → sets l 0 xs ≡ take (length l) xs ++ drop (length (take (length l) xs)) l
sets_fit [] xs = sets_nil 0 xs
sets_fit (y ∷ l) [] = refl
sets_fit (y ∷ l) (x ∷ xs) = sets_shift x l 0 xs ∙ ap (λ (r : List ℕ). x ∷ r) (sets_fit l xs)

-- ---- the answer

-- the operation is refused by number n
owners_refused : (m : Model) (f n : ℕ) (l : List ℕ) → refusal (owners_table m f) ≡ n → n ≢ 0 → (refused n ≡ owners_answer m f) × (l ≡ owners_after m f l)
unfolding owners_answer owners_after
owners_refused m f n l e z = (sym (rw (e, ne_eqb n 0 z)), sym (rw (e, ne_eqb n 0 z)))

-- the model is refused
pub refused_model : (m : Model) (f : ℕ) (l : List ℕ) (e : Refusal) → told_by {A = Accepted} {B = Model} (λ a. lent a.model) (Err e) ≡ answer (model_refusal m) m → (refused (number e) ≡ owners_answer m f) × (l ≡ owners_after m f l)
refused_model m f l e h =
    let n = told_err {A = Accepted} {B = Model} (λ a. lent a.model) e (model_refusal m) m h in
    let z : number e ≢ 0 = λ z. omega (arith, number-positive e, z) in
    owners_refused m f (number e) l (behind_refused m ((12, face_off m f) ∷ []) (λ y. z (n ∙ y)) ∙ sym n) z

-- it is accepted, and the row behind it decides
module _ (m : Model) (f : ℕ) (l : List ℕ) (x : Accepted) (told : told_by {A = Accepted} {B = Model} (λ a. lent a.model) (Ok x) ≡ answer (model_refusal m) m) where
  tallied : Tallied m x.faces x.ring_words
  tallied = (accepted_is m x told).2

  table : refusal (owners_table m f) ≡ refusal ((12, face_off m f) ∷ [])
  table = behind_accepted m ((12, face_off m f) ∷ []) (accepted_is m x told).0

  -- there is no such face
  pub refused_face : x.faces ≤ f → (refused 12 ≡ owners_answer m f) × (l ≡ owners_after m f l)
  refused_face h = owners_refused m f 12 l (table ∙ rw (le-leb (length (faces_in m)) f (omega (arith, tallied.faces)))) (λ e. omega arith)

  -- there is one
  pub face_there : f < x.faces → f < length (rings_in (lent x.model))
  face_there h = omega (arith, tallied.faces, faces_are_lem m, ap (λ (v : Model). length (rings_in v)) (accepted_is m x told).1)

  -- so nothing is refused
  none : f < x.faces → refusal (owners_table m f) ≡ 0
  none h = table ∙ rw (lt-leb (length (faces_in m)) f (omega (arith, tallied.faces)))

  -- all owners are noted
  pub answered : f < x.faces → (key out : List ℕ) (n : ℕ) → key ≡ sort leb (get_or (rings_in (lent x.model)) f []) → WordsPut (held key 0 (cells_of (lent x.model))) l out 0 n → (done n ≡ owners_answer m f) × (out ≡ owners_after m f l)
  unfolding owners_answer owners_after
  answered h key out n e q =
      let same = (accepted_is m x told).1 in
      let o =
      ap (λ (k : List ℕ). held k 0 (cells_of (lent x.model))) e
      ∙ ap (λ (v : Model). held (sort leb (get_or (rings_in v) f [])) 0 (cells_of v)) same
      ∙ owners_are_lem m f in
      let c : n ≡ length (owners_of (faces_in m) f) = omega (arith, q.0, ap length o) in
      (sym (rw (none h, sym c)), q.1 ∙ ap (sets l 0) o ∙ sym (rw (none h) (sym (sets_fit l (owners_of (faces_in m) f)))))
