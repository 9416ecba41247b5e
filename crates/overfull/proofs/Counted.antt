-- Faces with the same key, counted.
use Prim.Native.Nat.{ℕ, suc, ◌+◌, ◌≤◌, ◌<◌}
use mathlib.Core.Path.{◌≡◌, refl, ap, ◌∙◌}
use mathlib.Core.Logic.{◌⊎◌, inl, inr}
use mathlib.Core.Bool.{Bool, true, false, false≢true}
use mathlib.Core.List.{List, [], ◌∷◌, ◌++◌}
use native.Mathlib.Omega.{arith}
use native.Mathlib.Numerals.{add-one}
use borrow.Author.Tests.{lt-ltb, le-ltb, ne_eqb}
use lib.ListN.{length, get_or, drop, drop_of_length-le}
use lib.Seq.{drop-cons}
use Rattle.std.specs.Prelude.{Some}
use Rattle.laws.specs.Lists.{only_if, any, keep, elem}
use Rattle.std.proofs.lemmas.Bool.{cases_Bool}
use Rattle.laws.proofs.Ascending.{head_in, later_in}
use Rattle.overfull.specs.declared.Tally.{Tally}
use Rattle.overfull.specs.Alike.{start, noted, tallied}

-- a face from g on is noted
pub met : (g h : ℕ) (hs : List ℕ) (s : Tally) → g ≤ h → tallied g (h ∷ hs) s ≡ tallied g hs (noted h s)
met g h hs s k = rw (le-ltb h g k)

-- faces from g on all count
all_count : (g : ℕ) (hs : List ℕ) (s : Tally) → ((h : ℕ) → elem h hs ≡ true → g ≤ h) → (tallied g hs s).count ≡ s.count + length hs
all_count g [] s f = omega arith
all_count g (h ∷ hs) s f =
    ap (λ (r : Tally). r.count) (met g h hs s (f h (head_in h hs)))
    ∙ all_count g hs (noted h s) (λ x e. f x (later_in h hs x e))
    ∙ omega arith

-- behind the second, no other is noted as the second
second_stays : (g : ℕ) (hs : List ℕ) (s : Tally) → ((h : ℕ) → elem h hs ≡ true → g ≤ h) → 2 ≤ s.count → (tallied g hs s).second ≡ s.second
second_stays g [] s f k = refl
second_stays g (h ∷ hs) s f k =
    ap (λ (r : Tally). r.second) (met g h hs s (f h (head_in h hs)))
    ∙ second_stays g hs (noted h s) (λ x e. f x (later_in h hs x e)) (omega (arith, k))
    ∙ rw (ne_eqb (s.count + 1) 2 (λ e. omega (arith, e, k)))

-- g and those behind it are one more than these
pub first_count : (g : ℕ) (hs : List ℕ) → ((h : ℕ) → elem h hs ≡ true → g ≤ h) → (tallied g (g ∷ hs) start).count ≡ suc (length hs)
first_count g hs f = ap (λ (r : Tally). r.count) (met g g hs start (omega arith)) ∙ all_count g hs (noted g start) f ∙ omega arith

-- the first behind g is the second
pub first_second : (g h : ℕ) (hs : List ℕ) → ((x : ℕ) → elem x (h ∷ hs) ≡ true → g ≤ x) → (tallied g (g ∷ h ∷ hs) start).second ≡ Some h
first_second g h hs f =
    ap (λ (r : Tally). r.second) (met g g (h ∷ hs) start (omega arith) ∙ met g h hs (noted g start) (f h (head_in h hs)))
    ∙ second_stays g hs (noted h (noted g start)) (λ x e. f x (later_in h hs x e)) (omega arith)

-- nothing counts where one before g has the key
pub earlier : (g : ℕ) (p : ℕ → Bool) (l more : List ℕ) → any p l ≡ true → ((x : ℕ) → elem x l ≡ true → x < g) → tallied g (keep p l ++ more) start ≡ start
earlier g p [] more e f = absurd (false≢true e)
earlier g p (x ∷ l) more e f = go (earlier g p l more) (cases_Bool (p x))
  where
    go : (any p l ≡ true → ((y : ℕ) → elem y l ≡ true → y < g) → tallied g (keep p l ++ more) start ≡ start) → (p x ≡ true) ⊎ (p x ≡ false) → tallied g (keep p (x ∷ l) ++ more) start ≡ start
    go ih (inl a) = rw (a, lt-ltb x g (f x (head_in x l)))
    go ih (inr a) = rw a (ih (rw a at e) (λ y m. f y (later_in x l y m)))

-- nothing counts once one before g is met
pub lower : (g h : ℕ) (hs : List ℕ) (s : Tally) → h < g → tallied g (h ∷ hs) s ≡ start
lower g h hs s k = rw (lt-ltb h g k)

-- ---- the faces from place i on, of which a test keeps some

-- at the end there are none
pub kept_end : (p : ℕ → Bool) (i : ℕ) (hs : List ℕ) → length hs ≤ i → keep p (drop i hs) ≡ []
kept_end p i hs h = ap (keep p) (drop_of_length-le hs h)

module _ (p : ℕ → Bool) (i : ℕ) (hs : List ℕ) (k : i < length hs) where
  -- the next face, where it passes, and what the rest keeps
  kept_next : keep p (drop i hs) ≡ only_if (p (get_or hs i 0)) (get_or hs i 0 ∷ []) ++ keep p (drop (i + 1) hs)
  kept_next = rw (drop-cons hs i 0 k, add-one i)

  -- the next is kept
  pub kept_same : p (get_or hs i 0) ≡ true → keep p (drop i hs) ≡ get_or hs i 0 ∷ keep p (drop (i + 1) hs)
  kept_same y = kept_next ∙ ap (λ (b : Bool). only_if b (get_or hs i 0 ∷ []) ++ keep p (drop (i + 1) hs)) y

  -- or not
  pub kept_other : p (get_or hs i 0) ≡ false → keep p (drop i hs) ≡ keep p (drop (i + 1) hs)
  kept_other y = kept_next ∙ ap (λ (b : Bool). only_if b (get_or hs i 0 ∷ []) ++ keep p (drop (i + 1) hs)) y
