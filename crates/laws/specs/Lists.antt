-- Lists and tests that compute.
use Rattle.std.specs.Prelude.{ℕ, zero, suc, ◌+◌, ◌-◌, ◌*◌, ◌/◌, Bool, true, false, ◌&&◌, ◌||◌, cond, List, [], ◌∷◌, ◌++◌, eqb}

module _ {ℓ} {A : Type ℓ} where
  -- l where the test passes, else nothing
  abbrev pub only_if : Bool → List A → List A
  only_if true l = l
  only_if false l = []

  -- some element passes
  abbrev pub any : (A → Bool) → List A → Bool
  any p [] = false
  any p (x ∷ xs) = p x || any p xs

  -- the first element alone, and nothing of an empty list
  abbrev pub first : List A → List A
  first [] = []
  first (x ∷ xs) = x ∷ []

  -- the last element alone, and nothing of an empty list
  abbrev pub last : List A → List A
  last [] = []
  last (x ∷ []) = x ∷ []
  last (x ∷ y ∷ ys) = last (y ∷ ys)

module _ {ℓ κ} {A : Type ℓ} {B : Type κ} where
  -- f's lists for the elements in order, one after the other
  abbrev pub each : (A → List B) → List A → List B
  each f [] = []
  each f (x ∷ xs) = f x ++ each f xs

  -- f over the elements in order, from b on
  abbrev pub fold : (B → A → B) → B → List A → B
  fold f b [] = b
  fold f b (x ∷ xs) = fold f (f b x) xs

  -- the same where f may also look at the elements before and those after
  abbrev pub walk : (List A → A → List A → List B) → List A → List A → List B
  walk f before [] = []
  walk f before (x ∷ xs) = f before x xs ++ walk f (before ++ (x ∷ [])) xs

module _ {ℓ} {A : Type ℓ} where
  -- the elements that pass
  abbrev pub keep : (A → Bool) → List A → List A
  keep p l = each (λ x. only_if (p x) (x ∷ [])) l

module _ {ℓ} {A : Type ℓ} (le : A → A → Bool) where
  -- x in its place in a sorted list
  abbrev pub insert : A → List A → List A
  insert x [] = x ∷ []
  insert x (y ∷ ys) = cond (le x y) (x ∷ y ∷ ys) (y ∷ insert x ys)

  -- sorted, repeats kept
  abbrev pub sort : List A → List A
  sort [] = []
  sort (x ∷ xs) = insert x (sort xs)

  -- x in its place in a sorted list, unless it is there
  abbrev pub add : A → List A → List A
  add x [] = x ∷ []
  add x (y ∷ ys) = cond (le x y) (cond (le y x) (y ∷ ys) (x ∷ y ∷ ys)) (y ∷ add x ys)

  -- sorted, each once
  abbrev pub distinct : List A → List A
  distinct [] = []
  distinct (x ∷ xs) = add x (distinct xs)

-- P holds of each element
abbrev pub All : {A : Type 0} → (A → Type 0) → List A → Type 0
All P [] = Unit {0}
All P (x ∷ xs) = P x × All P xs

-- x is in l
abbrev pub elem : ℕ → List ℕ → Bool
elem x l = any (eqb x) l

-- two lists of numbers are equal
abbrev pub eql : List ℕ → List ℕ → Bool
eql [] [] = true
eql [] (y ∷ ys) = false
eql (x ∷ xs) [] = false
eql (x ∷ xs) (y ∷ ys) = eqb x y && eql xs ys

-- the numbers from i on, n of them
abbrev pub up_from : ℕ → ℕ → List ℕ
up_from i zero = []
up_from i (suc n) = i ∷ up_from (suc i) n

-- the sum of a list
abbrev pub sum : List ℕ → ℕ
sum [] = 0
sum (x ∷ xs) = x + sum xs

-- pairs of n things
abbrev pub pairs_of : ℕ → ℕ
pairs_of n = n * (n - 1) / 2

-- triples of n things
abbrev pub triples_of : ℕ → ℕ
triples_of n = n * (n - 1) * (n - 2) / 6
