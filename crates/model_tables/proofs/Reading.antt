-- Lists that stand in a slice, and lists by their elements.
use Prim.Native.Nat.{ℕ, zero, suc, ◌+◌, ◌≤◌, ◌<◌}
use mathlib.Core.Path.{◌≡◌, refl, sym, ap, ap₂, ◌∙◌}
use mathlib.Core.Bool.{Bool}
use mathlib.Core.List.{List, [], ◌∷◌, ◌++◌, map}
use native.Mathlib.Nat.{add-zero, add-suc, suc-add}
use native.Mathlib.Numerals.{add-one}
use native.Mathlib.Omega.{arith}
use lib.ListN.{length, get_or, take, length-append, get_or-append}
use lib.Seq.{sets, get_or-append-add}
use Rattle.laws.specs.Lists.{any, each, up_from}
use Rattle.laws.specs.Merging.{region}
use Rattle.laws.proofs.ListLaws.{any-map}
use Rattle.laws.proofs.Stores.{region_before, region_same, region-take, length-region}

-- ---- lists in a slice

-- xs stand in t from o on
abbrev pub Holds : List ℕ → ℕ → List ℕ → Type 0
Holds t o xs = region o (length xs) t ≡ xs

-- what is put stands there
pub holds_put : (w v : List ℕ) (o : ℕ) (xs : List ℕ) → o + length xs ≤ length w → v ≡ sets w o xs → Holds v o xs
holds_put w v o xs h e = ap (region o (length xs)) e ∙ region_same w o xs h

-- what stood before it stands
pub holds_before : (w v : List ℕ) (p : ℕ) (ys : List ℕ) (o : ℕ) (xs : List ℕ) → o + length xs ≤ p → v ≡ sets w p ys → Holds w o xs → Holds v o xs
holds_before w v p ys o xs h e k = ap (region o (length xs)) e ∙ region_before o (length xs) w p ys h ∙ k

-- it stands in the beginning of the slice that holds it
pub holds_take : (w : List ℕ) (n o : ℕ) (xs : List ℕ) → o + length xs ≤ n → Holds w o xs → Holds (take n w) o xs
holds_take w n o xs h k = region-take o (length xs) n w h ∙ k

-- the same list by another length
pub holds_long : (t : List ℕ) (o n : ℕ) (xs : List ℕ) → n ≡ length xs → Holds t o xs → region o n t ≡ xs
holds_long t o n xs e k = ap (λ (i : ℕ). region o i t) e ∙ k

-- a region copied to the front stands there
pub copied : (w v : List ℕ) (a n : ℕ) → a + n ≤ length w → v ≡ sets w 0 (region a n w) → region 0 n v ≡ region a n w
copied w v a n h e =
    let k = length-region a n w h in
    holds_long v 0 n (region a n w) (sym k) (holds_put w v 0 (region a n w) (omega arith) e)

-- ---- lists by their elements

module _ {A B : Type 0} where
  -- f of numbers from o on is k of the elements
  pub map-up_from : (f : ℕ → B) (k : A → B) (d : A) (xs : List A) (o : ℕ) → ((j : ℕ) → j < length xs → f (o + j) ≡ k (get_or xs j d)) → map f (up_from o (length xs)) ≡ map k xs
  map-up_from f k d [] o h = refl
  map-up_from f k d (x ∷ xs) o h =
      ap₂ (λ (y : B) (ys : List B). y ∷ ys) (ap f (sym (add-zero o)) ∙ h 0 (omega arith))
      (map-up_from f k d xs (suc o) (λ j l. ap f (suc-add o j ∙ sym (add-suc o j)) ∙ h (suc j) (omega arith)))

module _ {A : Type 0} where
  -- a test of numbers
  pub any-up_from : (f : ℕ → Bool) (k : A → Bool) (d : A) (xs : List A) (o : ℕ) → ((j : ℕ) → j < length xs → f (o + j) ≡ k (get_or xs j d)) → any f (up_from o (length xs)) ≡ any k xs
  any-up_from f k d xs o h = sym (any-map (λ b. b) f (up_from o (length xs))) ∙ ap (any (λ b. b)) (map-up_from f k d xs o h) ∙ any-map (λ b. b) k xs

-- ---- parts of joined lists

module _ {A B : Type 0} (f : A → List B) where
  -- a part has at most all
  pub each_most : (c : ℕ) (xs : List A) → length (each f (take c xs)) ≤ length (each f xs)
  each_most zero xs = omega arith
  each_most (suc c) [] = omega arith
  each_most (suc c) (x ∷ xs) = omega (arith, each_most c xs, length-append (f x) (each f (take c xs)), length-append (f x) (each f xs))

  -- one element more
  pub each_next : (xs : List A) (c : ℕ) (d : A) → c < length xs → length (each f (take (c + 1) xs)) ≡ length (each f (take c xs)) + length (f (get_or xs c d))
  each_next xs c d h = ap (λ (j : ℕ). length (each f (take j xs))) (add-one c) ∙ go xs c h
    where
      go : (xs : List A) (c : ℕ) → c < length xs → length (each f (take (suc c) xs)) ≡ length (each f (take c xs)) + length (f (get_or xs c d))
      go [] c h = absurd (omega arith)
      go (x ∷ xs) zero h = omega (arith, length-append (f x) [])
      go (x ∷ xs) (suc c) h = omega (arith, go xs c (omega arith), length-append (f x) (each f (take (suc c) xs)), length-append (f x) (each f (take c xs)))

  -- element j of what c makes
  pub each_at : (xs : List A) (c : ℕ) (d : A) (j : ℕ) (e : B) → c < length xs → j < length (f (get_or xs c d)) → get_or (each f xs) (length (each f (take c xs)) + j) e ≡ get_or (f (get_or xs c d)) j e
  each_at [] c d j e h k = absurd (omega arith)
  each_at (x ∷ xs) zero d j e h k =
      let z : 0 + j ≡ j = omega arith in
      ap (λ (i : ℕ). get_or (f x ++ each f xs) i e) z ∙ get_or-append (f x) (each f xs) e j k
  each_at (x ∷ xs) (suc c) d j e h k =
      let z : length (f x ++ each f (take c xs)) + j ≡ length (f x) + (length (each f (take c xs)) + j) = omega (arith, length-append (f x) (each f (take c xs))) in
      ap (λ (i : ℕ). get_or (f x ++ each f xs) i e) z ∙ get_or-append-add (f x) (each f xs) (length (each f (take c xs)) + j) e ∙ each_at xs c d j e (omega arith) k
