-- Common nodes of two ascending lists, counted up to three while both are gone through together.
use Prim.Native.Nat.{ℕ, zero, suc, ◌+◌, ◌≤◌, ◌<◌}
use mathlib.Core.Path.{◌≡◌, refl, sym, ap, ap₂, ◌∙◌, subst}
use mathlib.Core.Logic.{◌⊎◌, inl, inr}
use mathlib.Core.Bool.{true, false, false≢true}
use mathlib.Core.List.{List, [], ◌∷◌}
use native.Mathlib.Omega.{arith}
use borrow.Author.Tests.{le-leb, lt-leb, eqb-true}
use lib.Dec.{leb, eqb}
use lib.ListN.{length, get_or, drop, drop_of_length-le}
use lib.Seq.{drop-cons}
use Rattle.laws.specs.Lists.{keep, elem}
use Rattle.std.proofs.lemmas.Bool.{cases_Bool}
use Rattle.laws.specs.Merging.{Asc}
use Rattle.laws.proofs.Ascending.{keep_cong, keep_none, head_in, above_out}
use Rattle.seek.specs.Candidates.{common}

-- a number that differs from the first is in a list where it is in the rest
not_first : (n x : ℕ) (l : List ℕ) → (n ≡ x → false ≡ true) → elem n (x ∷ l) ≡ elem n l
not_first n x l d = go (cases_Bool (eqb n x))
  where
    go : (eqb n x ≡ true) ⊎ (eqb n x ≡ false) → elem n (x ∷ l) ≡ elem n l
    go (inl s) = absurd (false≢true (d (eqb-true n x s)))
    go (inr s) = rw s

module _ (a b : ℕ) (A B : List ℕ) (up : Asc (a ∷ A)) (to : Asc (b ∷ B)) where
  -- a lower first is not common
  lower : a < b → common (a ∷ A) (b ∷ B) ≡ common A (b ∷ B)
  unfolding common
  lower h = go (cases_Bool (elem a (b ∷ B)))
    where
      out : elem a (b ∷ B) ≡ false
      out = not_first a b B (λ e. absurd (omega (arith, h, e))) ∙ above_out a B (λ n e. omega (arith, h, to.0 n e))

      go : (elem a (b ∷ B) ≡ true) ⊎ (elem a (b ∷ B) ≡ false) → keep (λ n. elem n (b ∷ B)) (a ∷ A) ≡ keep (λ n. elem n (b ∷ B)) A
      go (inl s) = absurd (false≢true (sym out ∙ s))
      go (inr s) = rw s

  -- nor is a lower first of the other list
  higher : b < a → common (a ∷ A) (b ∷ B) ≡ common (a ∷ A) B
  unfolding common
  higher h = keep_cong (λ n. elem n (b ∷ B)) (λ n. elem n B) (a ∷ A) (λ n e. not_first n b B (λ s. absurd (omega (arith, h, s, least n e (cases_Bool (eqb n a))))))
    where
      least : (n : ℕ) → elem n (a ∷ A) ≡ true → (eqb n a ≡ true) ⊎ (eqb n a ≡ false) → a ≤ n
      least n e (inl s) = omega (arith, eqb-true n a s)
      least n e (inr s) = omega (arith, up.0 n (rw s at e))

  -- an equal first is
  equal : a ≡ b → common (a ∷ A) (b ∷ B) ≡ a ∷ common A B
  unfolding common
  equal h =
      rw (ap (λ (x : ℕ). elem x (b ∷ B)) h ∙ head_in b B)
      (ap (λ (l : List ℕ). a ∷ l) (keep_cong (λ n. elem n (b ∷ B)) (λ n. elem n B) A (λ n e. not_first n b B (λ s. absurd (omega (arith, h, s, up.0 n e))))))

-- the rest of an ascending list
asc_drop : (l : List ℕ) (i : ℕ) → Asc l → Asc (drop i l)
asc_drop l zero a = a
asc_drop [] (suc i) a = tt
asc_drop (x ∷ l) (suc i) a = asc_drop l i a.1

-- n are common before words i and m, and the others stand from there on
pub record Seen (A B : List ℕ) (n i m : ℕ) : Type 0 where
  pub left : n + length (common (drop i A) (drop m B)) ≡ length (common A B)
  pub few : n ≤ 2

module _ (A B : List ℕ) (up : Asc A) (to : Asc B) (n i m a b : ℕ) (s : Seen A B n i m) (h : i < length A) (k : m < length B) (is-a : a ≡ get_or A i 0) (is_b : b ≡ get_or B m 0) where
  -- the two lists from there on
  A_is : drop i A ≡ a ∷ drop (i + 1) A
  A_is = let e : suc i ≡ i + 1 = omega arith in drop-cons A i 0 h ∙ ap₂ (λ (x j : ℕ). x ∷ drop j A) (sym is-a) e

  B_is : drop m B ≡ b ∷ drop (m + 1) B
  B_is = let e : suc m ≡ m + 1 = omega arith in drop-cons B m 0 k ∙ ap₂ (λ (x j : ℕ). x ∷ drop j B) (sym is_b) e

  asc_A : Asc (a ∷ drop (i + 1) A)
  asc_A = subst Asc A_is (asc_drop A i up)

  asc_B : Asc (b ∷ drop (m + 1) B)
  asc_B = subst Asc B_is (asc_drop B m to)

  now_is : length (common (drop i A) (drop m B)) ≡ length (common (a ∷ drop (i + 1) A) (b ∷ drop (m + 1) B))
  now_is = ap₂ (λ (x y : List ℕ). length (common x y)) A_is B_is

  -- the first is lower
  pub seen_lower : a < b → Seen A B n (i + 1) m
  seen_lower l =
      let e = now_is ∙ ap length (lower a b (drop (i + 1) A) (drop (m + 1) B) asc_A asc_B l) ∙ ap (λ (y : List ℕ). length (common (drop (i + 1) A) y)) (sym B_is) in
      record { left = omega (arith, s.left, e); few = s.few }

  -- the other's is
  pub seen_higher : b < a → Seen A B n i (m + 1)
  seen_higher l =
      let e = now_is ∙ ap length (higher a b (drop (i + 1) A) (drop (m + 1) B) asc_A asc_B l) ∙ ap (λ (x : List ℕ). length (common x (drop (m + 1) B))) (sym A_is) in
      record { left = omega (arith, s.left, e); few = s.few }

  -- they are equal
  both : a ≡ b → n + suc (length (common (drop (i + 1) A) (drop (m + 1) B))) ≡ length (common A B)
  both l =
      let e = now_is ∙ ap length (equal a b (drop (i + 1) A) (drop (m + 1) B) asc_A asc_B l) in
      omega (arith, s.left, e)

  -- the third that is common
  pub seen_third : a ≡ b → n ≡ 2 → true ≡ leb 3 (length (common A B))
  seen_third l two = sym (le-leb 3 (length (common A B)) (omega (arith, both l, two)))

  -- not yet the third
  pub seen_both : a ≡ b → n < 2 → Seen A B (n + 1) (i + 1) (m + 1)
  seen_both l two = record { left = omega (arith, both l); few = omega (arith, two) }

-- no third, as the first list ends
pub seen_all : (A B : List ℕ) (n i m : ℕ) → Seen A B n i m → length A ≤ i → false ≡ leb 3 (length (common A B))
unfolding common
seen_all A B n i m s h = sym (lt-leb 3 (length (common A B)) (omega (arith, s.left, s.few, ap (λ (l : List ℕ). length (common l (drop m B))) (drop_of_length-le A h))))

-- or the other
pub seen_out : (A B : List ℕ) (n i m : ℕ) → Seen A B n i m → length B ≤ m → false ≡ leb 3 (length (common A B))
unfolding common
seen_out A B n i m s h =
    let none : common (drop i A) (drop m B) ≡ [] = ap (common (drop i A)) (drop_of_length-le B h) ∙ keep_none (λ x. false) (drop i A) (λ x e. refl) in
    sym (lt-leb 3 (length (common A B)) (omega (arith, s.left, s.few, ap length none)))
