-- Tests. Which way one went (`cases_Bool`), what an `or` and an `and` say (`or_parts`, `and_parts`) and which of two numbers is lower
-- (`cases_lt`) are in the kit's lemmas.Bool; what a test on numbers says is in `borrow.Author.Tests`.
use Prim.Native.Nat.{ℕ}
use mathlib.Core.Path.{◌≡◌, refl, sym, ◌∙◌}
use mathlib.Core.Bool.{Bool, true, false, ◌||◌, true≢false}
use borrow.Author.Tests.{eqb-true, eq-eqb}
use lib.Dec.{eqb}

-- no test goes both ways
pub clash {ℓ} : {A : Type ℓ} {b : Bool} → b ≡ true → b ≡ false → A
clash e f = absurd (true≢false (sym e ∙ f))

-- two tests that pass alike are the same
pub both_ways : (a b : Bool) → (a ≡ true → b ≡ true) → (b ≡ true → a ≡ true) → a ≡ b
both_ways true b f g = sym (f refl)
both_ways false b f g = go b g
  where
    go : (c : Bool) → (c ≡ true → false ≡ true) → false ≡ c
    go true h = h refl
    go false h = refl

pub or_swap : (a b c : Bool) → (a || (b || c)) ≡ (b || (a || c))
or_swap true true c = refl
or_swap true false c = refl
or_swap false true c = refl
or_swap false false c = refl

pub or_four : (a b c d : Bool) → ((a || b) || (c || d)) ≡ ((a || c) || (b || d))
or_four true b c d = refl
or_four false true true d = refl
or_four false true false d = refl
or_four false false c d = refl

pub eqb_self : (n : ℕ) → eqb n n ≡ true
eqb_self n = eq-eqb n n refl

pub eqb_comm : (m n : ℕ) → eqb m n ≡ eqb n m
eqb_comm m n = both_ways (eqb m n) (eqb n m) (λ e. eq-eqb n m (sym (eqb-true m n e))) (λ e. eq-eqb m n (sym (eqb-true n m e)))
