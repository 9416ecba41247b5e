-- Tables of refusals: where no reason holds nothing is refused, and back; one table after the other.
use Prim.Native.Nat.{ℕ}
use mathlib.Core.Path.{◌≡◌, refl, sym, ap, ◌∙◌}
use mathlib.Core.Logic.{◌⊎◌, inl, inr, ◌≢◌}
use mathlib.Core.Bool.{Bool, true, false, cond}
use mathlib.Core.List.{List, [], ◌∷◌, ◌++◌}
use native.Mathlib.Omega.{arith}
use borrow.Author.Tests.{ne_eqb, eqb-true}
use lib.Dec.{eqb}
use lib.ListN.{length, drop}
use Rattle.laws.specs.Lists.{any}
use Rattle.laws.specs.Refusals.{refused, done, refusal, answer, filled}
use Rattle.std.proofs.lemmas.Bool.{cases_Bool, or_parts}

-- a row's reason
abbrev pub reason : ℕ × Bool → Bool
reason row = row.1

-- every number of a table is a refusal's
abbrev pub Numbered : List (ℕ × Bool) → Type 0
Numbered [] = Unit {0}
Numbered (row ∷ rows) = (row.0 ≢ 0) × Numbered rows

pub numbered_append : (a b : List (ℕ × Bool)) → Numbered a → Numbered b → Numbered (a ++ b)
numbered_append [] b n k = k
numbered_append (row ∷ rows) b n k = (n.0, numbered_append rows b n.1 k)

-- where no reason holds, only what follows the table matters
pub clear_append : (t rest : List (ℕ × Bool)) → any reason t ≡ false → refusal (t ++ rest) ≡ refusal rest
clear_append [] rest e = refl
clear_append (row ∷ t) rest e = let p = or_parts row.1 (any reason t) e in rw p.0 (clear_append t rest p.1)

-- and nothing is refused
pub clear_refusal : (t : List (ℕ × Bool)) → any reason t ≡ false → refusal t ≡ 0
clear_refusal [] e = refl
clear_refusal (row ∷ t) e = let p = or_parts row.1 (any reason t) e in rw p.0 (clear_refusal t p.1)

-- where nothing is refused no reason holds
pub refusal_clear : (t : List (ℕ × Bool)) → Numbered t → refusal t ≡ 0 → any reason t ≡ false
refusal_clear [] h e = refl
refusal_clear (row ∷ t) h e = go (cases_Bool row.1) (refusal_clear t h.1)
  where
    go : (row.1 ≡ true) ⊎ (row.1 ≡ false) → (refusal t ≡ 0 → any reason t ≡ false) → any reason (row ∷ t) ≡ false
    go (inl a) ih = absurd (h.0 (rw a at e))
    go (inr a) ih = rw a (ih (rw a at e))

-- where the first of two tables refuses, its number stands
pub refusal_first : (a b : List (ℕ × Bool)) → refusal a ≢ 0 → refusal (a ++ b) ≡ refusal a
refusal_first [] b n = absurd (n refl)
refusal_first (row ∷ rows) b n = go (cases_Bool row.1) (λ m. refusal_first rows b m)
  where
    go : (row.1 ≡ true) ⊎ (row.1 ≡ false) → (refusal rows ≢ 0 → refusal (rows ++ b) ≡ refusal rows) → refusal (row ∷ rows ++ b) ≡ refusal (row ∷ rows)
    go (inl e) h = rw e
    go (inr e) h = rw e (h (λ z. n (rw e z)))

-- where it does not, the second's does
pub refusal_second : (a b : List (ℕ × Bool)) → Numbered a → refusal a ≡ 0 → refusal (a ++ b) ≡ refusal b
refusal_second a b n z = clear_append a b (refusal_clear a n z)

-- a list that a refusal leaves as it was
pub unfilled : {A : Type 0} (n m : ℕ) (xs l : List A) → n ≡ m → m ≢ 0 → l ≡ filled n xs l
unfilled n m xs l h p = sym (ap (λ (k : ℕ). filled k xs l) h ∙ ap (λ (b : Bool). cond b (xs ++ drop (length xs) l) l) (ne_eqb m 0 p))

-- ---- an answer taken apart

-- a refusal: its number is the table's, and not 0
pub answered_refused : {A : Type 0} (n k : ℕ) (a : A) → refused n ≡ answer k a → (n ≡ k) × (eqb k 0 ≡ false)
answered_refused n k a e = go (cases_Bool (eqb k 0))
  where
    go : (eqb k 0 ≡ true) ⊎ (eqb k 0 ≡ false) → (n ≡ k) × (eqb k 0 ≡ false)
    go (inl t) = let q : refused n ≡ done a = e ∙ rw t in let z : ◌≡◌ {A = ℕ} 0 1 = cc in absurd (omega arith)
    go (inr t) = let q : refused n ≡ refused k = e ∙ rw t in (cc, t)

-- no refusal: nothing was refused, and it is the value
pub answered_done : {A : Type 0} (n : ℕ) (a b : A) → done a ≡ answer n b → (n ≡ 0) × (a ≡ b)
answered_done n a b e = go (cases_Bool (eqb n 0))
  where
    go : (eqb n 0 ≡ true) ⊎ (eqb n 0 ≡ false) → (n ≡ 0) × (a ≡ b)
    go (inl t) = let q : done a ≡ done b = e ∙ rw t in (eqb-true n 0 t, cc)
    go (inr t) = let q : done a ≡ refused n = e ∙ rw t in let z : ◌≡◌ {A = ℕ} 0 1 = cc in absurd (omega arith)
