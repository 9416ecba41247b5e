-- A run of stores, `sets l o xs`: how it grows by one, and what is read after it. A law asks that the run is within the list only where it must.
use mathlib.Core.Path.{◌≡◌, refl, sym, ap, ap₂, ◌∙◌}
use mathlib.Core.List.{List, [], ◌∷◌, ◌++◌, append_assoc, append-nil}
use Prim.Native.Nat.{ℕ, zero, suc, ◌+◌, ◌-◌, ◌≤◌, ◌<◌, min}
use native.Mathlib.Nat.{add-zero, zero-add, add-suc, suc-add}
use native.Mathlib.Numerals.{add-one}
use native.Mathlib.Omega.{arith}
use mathlib.Core.Logic.{◌⊎◌, inl, inr}
use lib.ListN.{length, get_or, set, take, drop, replicate, length-set, length-drop, length-replicate, take-append-drop}
use Rattle.laws.specs.Merging.{region}
use Rattle.std.proofs.lemmas.Bool.{cases_lt}
use lib.Seq.{slice, sets, sets-eq, length-sets, set-set, set_comm, get_or-take, get_or-drop, get_or-set_same, drop-set-add, take-suc-set, take-add, take-take, drop-drop, take-suc, length-take-le, get_or-set_other, take-set-le, drop-set-lt, drop_at, take-append_seam, take_all, drop-length, take-nil}

module _ {A : Type 0} where
  -- one store more
  pub sets_snoc : (l : List A) (o : ℕ) (xs : List A) (v : A) → sets l o (xs ++ (v ∷ [])) ≡ set (sets l o xs) (o + length xs) v
  sets_snoc l o [] v = ap (λ (k : ℕ). set l k v) (sym (add-zero o))
  sets_snoc l o (x ∷ xs) v = sets_snoc (set l o x) (suc o) xs v ∙ ap (λ (k : ℕ). set (sets (set l o x) (suc o) xs) k v) (suc-add o (length xs) ∙ sym (add-suc o (length xs)))

  -- a turn of the loop that stores ys
  pub sets_more : (l : List A) (o : ℕ) (ys : List A) (j : ℕ) (d : A) → j < length ys → set (sets l o (take j ys)) (o + j) (get_or ys j d) ≡ sets l o (take (j + 1) ys)
  sets_more l o ys j d h =
      let w : j ≤ length ys = omega arith in
      sym (ap (sets l o) (ap (λ (k : ℕ). take k ys) (add-one j) ∙ take-suc ys j d h)
      ∙ sets_snoc l o (take j ys) (get_or ys j d)
      ∙ ap (λ (k : ℕ). set (sets l o (take j ys)) (o + k) (get_or ys j d)) (length-take-le j ys w))

  -- what lies before the run, and behind it
  pub get_or_before : (l : List A) (o : ℕ) (xs : List A) (k : ℕ) (d : A) → k < o → get_or (sets l o xs) k d ≡ get_or l k d
  get_or_before l o [] k d h = refl
  get_or_before l o (x ∷ xs) k d h = get_or_before (set l o x) (suc o) xs k d (omega arith) ∙ get_or-set_other l o k x d (λ (e : k ≡ o). omega arith)

  pub get_or_after : (l : List A) (o : ℕ) (xs : List A) (k : ℕ) (d : A) → o + length xs ≤ k → get_or (sets l o xs) k d ≡ get_or l k d
  get_or_after l o [] k d h = refl
  get_or_after l o (x ∷ xs) k d h = get_or_after (set l o x) (suc o) xs k d (omega arith) ∙ get_or-set_other l o k x d (λ (e : k ≡ o). omega arith)

  pub take_before : (n : ℕ) (l : List A) (o : ℕ) (xs : List A) → n ≤ o → take n (sets l o xs) ≡ take n l
  take_before n l o [] h = refl
  take_before n l o (x ∷ xs) h = take_before n (set l o x) (suc o) xs (omega arith) ∙ take-set-le n l o x h

  pub drop_after : (n : ℕ) (l : List A) (o : ℕ) (xs : List A) → o + length xs ≤ n → drop n (sets l o xs) ≡ drop n l
  drop_after n l o [] h = refl
  drop_after n l o (x ∷ xs) h = drop_after n (set l o x) (suc o) xs (omega arith) ∙ drop-set-lt n l o x (omega arith)

  -- a region: `take n (drop a l)`, before the run, behind it, and the run itself
  pub take-drop : (a n : ℕ) (l : List A) → take n (drop a l) ≡ drop a (take (a + n) l)
  take-drop zero n l = ap (λ (k : ℕ). take k l) (sym (zero-add n))
  take-drop (suc a) n [] = take-nil n ∙ sym (ap (drop (suc a)) (take-nil (suc a + n)))
  take-drop (suc a) n (x ∷ l) = take-drop a n l ∙ ap (λ (k : ℕ). drop (suc a) (take k (x ∷ l))) (sym (suc-add a n))

  pub region_before : (a n : ℕ) (l : List A) (o : ℕ) (xs : List A) → a + n ≤ o → take n (drop a (sets l o xs)) ≡ take n (drop a l)
  region_before a n l o xs h = take-drop a n (sets l o xs) ∙ ap (drop a) (take_before (a + n) l o xs h) ∙ sym (take-drop a n l)

  pub region_after : (a n : ℕ) (l : List A) (o : ℕ) (xs : List A) → o + length xs ≤ a → take n (drop a (sets l o xs)) ≡ take n (drop a l)
  region_after a n l o xs h = ap (take n) (drop_after a l o xs h)

  pub region_same : (l : List A) (o : ℕ) (xs : List A) → o + length xs ≤ length l → take (length xs) (drop o (sets l o xs)) ≡ xs
  region_same l o xs h =
      let w : o ≤ length l = omega arith in
      rw (sets-eq xs l o, append_assoc, drop_at (take o l) (xs ++ drop (o + length xs) l) o (length-take-le o l w), take-append_seam)

  -- a run over the whole list
  pub sets_all : (l xs : List A) → length xs ≡ length l → sets l 0 xs ≡ xs
  sets_all l xs h =
      let w : 0 + length xs ≤ length l = omega arith in
      let e : 0 + length xs ≡ length l = omega arith in
      rw (sets-eq xs l 0, e, drop-length l) (append-nil xs)

  -- two runs, one behind the other
  pub sets_append : (l : List A) (o : ℕ) (xs ys : List A) → sets l o (xs ++ ys) ≡ sets (sets l o xs) (o + length xs) ys
  sets_append l o [] ys = ap (λ (k : ℕ). sets l k ys) (sym (add-zero o))
  sets_append l o (x ∷ xs) ys =
      sets_append (set l o x) (suc o) xs ys
      ∙ ap (λ (k : ℕ). sets (sets (set l o x) (suc o) xs) k ys) (suc-add o (length xs) ∙ sym (add-suc o (length xs)))

  -- a store before the run, and within it
  pub set_before : (l : List A) (o : ℕ) (xs : List A) (k : ℕ) (v : A) → k < o → set (sets l o xs) k v ≡ sets (set l k v) o xs
  set_before l o [] k v h = refl
  set_before l o (x ∷ xs) k v h =
      set_before (set l o x) (suc o) xs k v (omega arith)
      ∙ ap (λ (r : List A). sets r (suc o) xs) (set_comm l o k x v (λ (e : o ≡ k). omega arith))

  pub set_within : (l : List A) (o : ℕ) (ys : List A) (m : ℕ) (v : A) → m < length ys → set (sets l o ys) (o + m) v ≡ sets l o (set ys m v)
  set_within l o [] m v h = absurd (omega arith)
  set_within l o (y ∷ ys) zero v h =
      ap (λ (k : ℕ). set (sets (set l o y) (suc o) ys) k v) (add-zero o)
      ∙ set_before (set l o y) (suc o) ys o v (omega arith)
      ∙ ap (λ (r : List A). sets r (suc o) ys) (set-set l o y v)
  set_within l o (y ∷ ys) (suc m) v h =
      ap (λ (k : ℕ). set (sets (set l o y) (suc o) ys) k v) (add-suc o m ∙ sym (suc-add o m))
      ∙ set_within (set l o y) (suc o) ys m v (omega arith)

  -- a run over a shorter one
  pub sets_over : (l : List A) (o : ℕ) (xs ys : List A) → length xs ≤ length ys → sets (sets l o xs) o ys ≡ sets l o ys
  sets_over l o [] ys h = refl
  sets_over l o (x ∷ xs) [] h = absurd (omega arith)
  sets_over l o (x ∷ xs) (y ∷ ys) h =
      ap (λ (r : List A). sets r (suc o) ys) (set_before (set l o x) (suc o) xs o y (omega arith) ∙ ap (λ (r : List A). sets r (suc o) xs) (set-set l o x y))
      ∙ sets_over (set l o y) (suc o) xs ys (omega arith)

  -- what the run left
  pub get_or_within : (l : List A) (o : ℕ) (ys : List A) (k : ℕ) (d : A) → k < length ys → o + length ys ≤ length l → get_or (sets l o ys) (o + k) d ≡ get_or ys k d
  get_or_within l o [] k d h b = absurd (omega arith)
  get_or_within l o (y ∷ ys) zero d h b =
      ap (λ (j : ℕ). get_or (sets (set l o y) (suc o) ys) j d) (add-zero o)
      ∙ get_or_before (set l o y) (suc o) ys o d (omega arith)
      ∙ get_or-set_same l o y d (omega arith)
  get_or_within l o (y ∷ ys) (suc k) d h b =
      ap (λ (j : ℕ). get_or (sets (set l o y) (suc o) ys) j d) (add-suc o k ∙ sym (suc-add o k))
      ∙ get_or_within (set l o y) (suc o) ys k d (omega arith) (omega (arith, length-set l o y))

  -- a region and one store: before it, behind it, and right at its end
  pub region_set_before : (a k : ℕ) (w : List A) (i : ℕ) (v : A) → i < a → region a k (set w i v) ≡ region a k w
  region_set_before a k w i v h = ap (take k) (drop-set-lt a w i v h)

  pub region_set_after : (a k : ℕ) (w : List A) (i : ℕ) (v : A) → a + k ≤ i → region a k (set w i v) ≡ region a k w
  region_set_after a k w i v h =
      let e : i ≡ a + (i - a) = omega arith in
      ap (λ (j : ℕ). take k (drop a (set w j v))) e ∙ ap (take k) (drop-set-add a w (i - a) v) ∙ take-set-le k (drop a w) (i - a) v (omega arith)

  pub region_set_end : (a k : ℕ) (w : List A) (v : A) → a + k < length w → region a (k + 1) (set w (a + k) v) ≡ region a k w ++ (v ∷ [])
  region_set_end a k w v h =
      ap (λ (j : ℕ). take j (drop a (set w (a + k) v))) (add-one k)
      ∙ ap (take (suc k)) (drop-set-add a w k v)
      ∙ take-suc-set (drop a w) k v (omega (arith, length-drop a w))

  -- a list that is v but for ys from o on
  pub sets_parts : (w v : List A) (o : ℕ) (ys : List A) → o + length ys ≤ length v → length w ≡ length v → take o w ≡ take o v → region o (length ys) w ≡ ys → drop (o + length ys) w ≡ drop (o + length ys) v
      → w ≡ sets v o ys
  sets_parts w v o ys h l a b c =
      sym (take-append-drop (o + length ys) w)
      ∙ ap (λ (r : List A). r ++ drop (o + length ys) w) (take-add o (length ys) w)
      ∙ ap (λ (r : List A). r ++ region o (length ys) w ++ drop (o + length ys) w) a
      ∙ ap (λ (r : List A). take o v ++ r ++ drop (o + length ys) w) b
      ∙ ap (λ (r : List A). take o v ++ ys ++ r) c
      ∙ sym (sets-eq ys v o h)

  -- a region of a region
  pub region-region : (a k o n : ℕ) (w : List A) → a + k ≤ n → region a k (region o n w) ≡ region (o + a) k w
  region-region a k o n w h =
      take-drop a k (take n (drop o w))
      ∙ ap (drop a) (take-take (a + k) n (drop o w) h)
      ∙ sym (take-drop a k (drop o w))
      ∙ ap (take k) (drop-drop a o w)

  -- a region and the one right behind it
  pub region-add : (a k m : ℕ) (w : List A) → region a (k + m) w ≡ region a k w ++ region (a + k) m w
  region-add a k m w = take-add k m (drop a w) ∙ ap (λ (r : List A). take k (drop a w) ++ take m r) (drop-drop k a w)

  -- a region of a beginning
  pub region-take : (a k n : ℕ) (w : List A) → a + k ≤ n → region a k (take n w) ≡ region a k w
  region-take a k n w h = take-drop a k (take n w) ∙ ap (drop a) (take-take (a + k) n w h) ∙ sym (take-drop a k w)

  -- a region by its elements
  pub get_or-region : (a k : ℕ) (w : List A) (i : ℕ) (d : A) → i < k → get_or (region a k w) i d ≡ get_or w (a + i) d
  get_or-region a k w i d h = get_or-take k (drop a w) i d h ∙ get_or-drop a w i d

  pub length-region : (a k : ℕ) (w : List A) → a + k ≤ length w → length (region a k w) ≡ k
  length-region a k w h = length-take-le k (drop a w) (omega (arith, length-drop a w))

  -- a run of what is there already
  pub sets_self : (w : List A) (o n : ℕ) → o + n ≤ length w → sets w o (region o n w) ≡ w
  sets_self w o n h =
      let e : length (region o n w) ≡ n = length-region o n w h in
      sym (sets_parts w w o (region o n w) (omega arith) refl refl (ap (λ (k : ℕ). region o k w) e) refl)

  pub drop-region : (o n p : ℕ) (w : List A) → p ≤ n → drop p (region o n w) ≡ region (o + p) (n - p) w
  drop-region o n p w h =
      let e : n ≡ p + (n - p) = omega arith in
      ap (λ (k : ℕ). drop p (take k (drop o w))) e ∙ sym (take-drop p (n - p) (drop o w)) ∙ ap (take (n - p)) (drop-drop p o w)

  pub take-region : (o n p : ℕ) (w : List A) → p ≤ n → take p (region o n w) ≡ region o p w
  take-region o n p w h = take-take p n (drop o w) h

  -- a region within the run
  pub region_within : (a k : ℕ) (w : List A) (o : ℕ) (ys : List A) → a + k ≤ length ys → o + length ys ≤ length w → region (o + a) k (sets w o ys) ≡ region a k ys
  region_within a k w o ys h b = sym (region-region a k o (length ys) (sets w o ys) h) ∙ ap (region a k) (region_same w o ys b)

  -- a slice is a region
  pub slice-region : (a n : ℕ) (w : List A) → slice a (a + n) w ≡ region a n w
  slice-region a n w = sym (take-drop a n w)

  -- a run that a later one covers
  pub sets_cover : (w : List A) (p : ℕ) (ys : List A) (o : ℕ) (xs : List A) → o ≤ p → p + length ys ≤ o + length xs → o + length xs ≤ length w → sets (sets w p ys) o xs ≡ sets w o xs
  sets_cover w p ys o xs h k b =
      let d : o + length xs ≤ length (sets w p ys) = omega (arith, length-sets w p ys) in
      rw (sets-eq xs (sets w p ys) o d, sets-eq xs w o b, take_before o w p ys h, drop_after (o + length xs) w p ys k)

  -- a store behind the run
  set_after : (w : List A) (o : ℕ) (xs : List A) (k : ℕ) (v : A) → o + length xs ≤ k → set (sets w o xs) k v ≡ sets (set w k v) o xs
  set_after w o [] k v h = refl
  set_after w o (x ∷ xs) k v h =
      set_after (set w o x) (suc o) xs k v (omega arith) ∙ ap (λ (r : List A). sets r (suc o) xs) (set_comm w o k x v (λ (e : o ≡ k). omega arith))

  -- two runs apart, in either order
  pub sets_comm : (w : List A) (o : ℕ) (xs : List A) (p : ℕ) (ys : List A) → o + length xs ≤ p → sets (sets w o xs) p ys ≡ sets (sets w p ys) o xs
  sets_comm w o xs p [] h = refl
  sets_comm w o xs p (y ∷ ys) h =
      ap (λ (r : List A). sets r (suc p) ys) (set_after w o xs p y h) ∙ sets_comm (set w p y) o xs (suc p) ys (omega arith)

  -- a run in front
  pub sets_front : (w xs : List A) → length xs ≤ length w → sets w 0 xs ≡ xs ++ drop (length xs) w
  sets_front w xs h =
      let b : 0 + length xs ≤ length w = omega arith in
      let z : 0 + length xs ≡ length xs = omega arith in
      rw (sets-eq xs w 0 b, z)

  -- n elements lent out and come back are a run of stores
  pub lent_sets : (n : ℕ) (l new : List A) (o : ℕ) → length new ≡ n → o + n ≤ length l → take o l ++ (new ++ drop (o + n - o) (drop o l)) ≡ sets l o new
  lent_sets n l new o h k =
      let e : o + (o + n - o) ≡ o + length new = omega arith in
      sym (sets-eq new l o (omega arith)
      ∙ append_assoc (take o l) new (drop (o + length new) l)
      ∙ ap (λ (x : List A). take o l ++ (new ++ x)) (ap (λ (x : ℕ). drop x l) (sym e) ∙ sym (drop-drop (o + n - o) o l)))

  -- the first k of a list, k cut down to its length
  pub take_least : (k : ℕ) (l : List A) → take (min k (length l)) l ≡ take k l
  take_least k l = go (cases_lt k (length l))
    where
      go : (k < length l) ⊎ (length l ≤ k) → take (min k (length l)) l ≡ take k l
      go (inl h) = let e : min k (length l) ≡ k = omega (arith, h) in ap (λ (i : ℕ). take i l) e
      go (inr h) = let e : min k (length l) ≡ length l = omega (arith, h) in ap (λ (i : ℕ). take i l) e ∙ take_all (length l) l (omega arith) ∙ sym (take_all k l h)

-- n words from o on, up to e, lent out and filled with v
pub filled_part : {part : List ℕ} (w : List ℕ) (o e n v : ℕ) → e - o ≡ n → o + n ≤ length w → part ≡ replicate (length (take (e - o) (drop o w))) v
    → take o w ++ (part ++ drop (e - o) (drop o w)) ≡ sets w o (replicate n v)
filled_part {part = part} w o e n v d h z =
    let long : length (take n (drop o w)) ≡ n = length-region o n w h in
    let all : part ≡ replicate n v = z ∙ ap (λ (k : ℕ). replicate (length (take k (drop o w))) v) d ∙ ap (λ (k : ℕ). replicate k v) long in
    let f : o + n - o ≡ n = omega arith in
    ap₂ (λ (x : List ℕ) (k : ℕ). take o w ++ (x ++ drop k (drop o w))) all (d ∙ sym f) ∙ lent_sets n w (replicate n v) o (length-replicate n v) h

-- the first n words, lent out and filled with v
pub filled_front : {part : List ℕ} (w : List ℕ) (n v : ℕ) → n ≤ length w → part ≡ replicate (length (take n w)) v → part ++ drop n w ≡ sets w 0 (replicate n v)
filled_front {part = part} w n v h z =
    let long = length-replicate {A = ℕ} n v in
    let all : part ≡ replicate n v = z ∙ ap (λ (k : ℕ). replicate k v) (length-take-le n w h) in
    ap (λ (x : List ℕ). x ++ drop n w) all ∙ ap (λ (k : ℕ). replicate n v ++ drop k w) (sym long) ∙ sym (sets_front w (replicate n v) (omega (arith, long, h)))

-- n words cleared in front, where nothing behind the first f had changed
pub cleared : (w v : List ℕ) (f need : ℕ) → drop f v ≡ drop f w → f ≤ need → need ≤ length w → length v ≡ length w → sets v 0 (replicate need 0) ≡ sets w 0 (replicate need 0)
cleared w v f need e h b same =
    let zeros = length-replicate {A = ℕ} need 0 in
    let k : f + (need - f) ≡ need = omega arith in
    let rest : drop need v ≡ drop need w =
    ap (λ (j : ℕ). drop j v) (sym k) ∙ sym (drop-drop (need - f) f v) ∙ ap (drop (need - f)) e ∙ drop-drop (need - f) f w ∙ ap (λ (j : ℕ). drop j w) k in
    sets_front v (replicate need 0) (omega arith)
    ∙ ap (λ (l : List ℕ). replicate need 0 ++ l) (ap (λ (j : ℕ). drop j v) zeros ∙ rest ∙ ap (λ (j : ℕ). drop j w) (sym zeros))
    ∙ sym (sets_front w (replicate need 0) (omega arith))
