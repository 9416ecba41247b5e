-- Kinds and their numbers.
use Prim.Native.Nat.{ℕ, ◌≤◌}
use denote.Enum.Bare.{sameb}
use Rattle.mesh.specs.Model.{PHED}
use Rattle.mesh.specs.contracts.kind.Kind.{the_type}
use mathlib.Core.Path.{◌≡◌, refl, sym, ap, ◌∙◌}
use mathlib.Core.Logic.{◌⊎◌, inl, inr}
use mathlib.Core.Bool.{true, false, ◌||◌}
use native.Mathlib.Omega.{arith}
use borrow.Author.Tests.{le-ltb}
use lib.Dec.{ltb, eqb}
use Rattle.std.proofs.lemmas.Bool.{cases_Bool, or_parts}
use Rattle.std.specs.Prelude.{Result, Ok, Err}
use Rattle.refusals.specs.declared.Refusal.{Refusal}
use Rattle.mesh.specs.Acceptance.{kind_off}
use Rattle.mesh.specs.declared.kind.Kind.{Kind}
use Rattle.mesh.specs.declared.kind.Kind.TheVariants.{Tet4, Hex8, Wedge6, Phed}
use Rattle.mesh.specs.Kinds.{kind_number, KindRead, KindAfter}

-- a kind that was read has the number that was read
pub kind_read : (n : ℕ) (r : Result Kind Refusal) (k : Kind) → KindRead n r → r ≡ Ok k → kind_number k ≡ n
kind_read n (Ok j) k h e = let q : j ≡ k = cc in ap kind_number (sym q) ∙ h
kind_read n (Err x) k h e = absurd (apart n x k e)
  where
    apart : (n : ℕ) (x : Refusal) (k : Kind) → ◌≡◌ {A = Result Kind Refusal} (Err x) (Ok k) → ⊥
    apart n x k e = cc

-- a number that is no kind's, or is below the one before
kind_none : (before n : ℕ) → kind_off 0 n ≡ true → kind_off before n ≡ true
kind_none before n h = go (cases_Bool (ltb n before))
  where
    go : (ltb n before ≡ true) ⊎ (ltb n before ≡ false) → kind_off before n ≡ true
    go (inl e) = rw e
    go (inr e) = rw e (sym (rw (le-ltb n 0 (omega arith))) ∙ h)

-- the number of a kind
pub number_on : (k : Kind) → kind_off 0 (kind_number k) ≡ false
number_on Tet4 = refl
number_on Hex8 = refl
number_on Wedge6 = refl
number_on Phed = refl

-- a kind is a PHED where its number is
pub kind_phed : (k : Kind) → sameb the_type k Phed ≡ eqb (kind_number k) PHED
kind_phed Tet4 = refl
kind_phed Hex8 = refl
kind_phed Wedge6 = refl
kind_phed Phed = refl

-- a kind that was read, of a number not below the one before, is in order
pub kind_on : (before n : ℕ) (r : Result Kind Refusal) → before ≤ n → KindRead n r → KindAfter before n r
kind_on before n (Ok k) h e =
    let p = or_parts (ltb n 0 || eqb n 0) (ltb PHED n) (sym (ap (kind_off 0) e) ∙ number_on k) in
    let q = or_parts (ltb n 0) (eqb n 0) p.0 in
    (e, rw (le-ltb n before h, q.1) p.1)
kind_on before n (Err x) h e = (e.0, kind_none before n e.1)
