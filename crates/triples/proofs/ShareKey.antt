-- Two faces of three or four nodes that have three in common have a key in common.
use Prim.Native.Nat.{ℕ, suc, ◌≤◌, ◌<◌}
use mathlib.Core.Path.{◌≡◌, refl, sym, ap, ap₂, ◌∙◌, subst}
use mathlib.Core.Logic.{◌⊎◌, inl, inr, ⊎_elim}
use mathlib.Core.Bool.{Bool, true, false, ◌&&◌, ◌||◌, false≢true, or-false}
use mathlib.Core.List.{List, [], ◌∷◌}
use native.Mathlib.Omega.{arith}
use borrow.Author.Tests.{eqb-true}
use lib.Dec.{leb, eqb}
use lib.ListN.{length, get_or}
use Rattle.laws.specs.Lists.{any, keep, elem, add}
use Rattle.laws.proofs.Tests.{both_ways, eqb_self}
use Rattle.std.proofs.lemmas.Bool.{and_parts, cases_Bool, or_cases}
use Rattle.laws.proofs.ListLaws.{keep-length}
use Rattle.laws.specs.Merging.{Asc}
use Rattle.laws.proofs.Ascending.{elem-add, elem-keep, asc_keep, asc_ext, head_in, later_in}
use Rattle.seek.specs.Candidates.{common}
use Rattle.triple_keys.specs.Keys.{triple_key, keys_of}

-- ---- three of three and three of four

-- where as many are kept as there are, all are kept
all_kept : (q : ℕ → Bool) (l : List ℕ) → length (keep q l) ≡ length l → keep q l ≡ l
all_kept q [] e = refl
all_kept q (x ∷ l) e = go (all_kept q l) (cases_Bool (q x))
  where
    go : (length (keep q l) ≡ length l → keep q l ≡ l) → (q x ≡ true) ⊎ (q x ≡ false) → keep q (x ∷ l) ≡ x ∷ l
    go ih (inl t) = rw t (ap (λ (r : List ℕ). x ∷ r) (ih (let s : suc (length (keep q l)) ≡ suc (length l) = rw t at e in omega arith)))
    go ih (inr f) = absurd (let s : length (keep q l) ≡ suc (length l) = rw f at e in omega (arith, s, keep-length q l))

-- the key of a list of three
abbrev key_of : (N B : ℕ) → List ℕ → ℕ
key_of N B l = triple_key N B (get_or l 0 0) (get_or l 1 0) (get_or l 2 0)

-- a number is in a list to which it is added, and to which another is
here : (x : ℕ) (l : List ℕ) → elem x (add leb x l) ≡ true
here x l = elem-add x x l ∙ ap (λ (b : Bool). b || elem x l) (eqb_self x)

there : (n x : ℕ) (l : List ℕ) → elem n l ≡ true → elem n (add leb x l) ≡ true
there n x l e = elem-add n x l ∙ go (eqb n x)
  where
    go : (b : Bool) → (b || elem n l) ≡ true
    go true = refl
    go false = e

-- the three kept of three nodes
of_three : (N B : ℕ) (q : ℕ → Bool) (a b c : ℕ) (C : List ℕ) → keep q (a ∷ b ∷ c ∷ []) ≡ C → length C ≡ 3 → elem (key_of N B C) (keys_of N B (a ∷ b ∷ c ∷ [])) ≡ true
of_three N B q a b c C e three =
    let k : C ≡ a ∷ b ∷ c ∷ [] = sym e ∙ all_kept q (a ∷ b ∷ c ∷ []) (ap length e ∙ three) in
    ap (λ (l : List ℕ). elem (key_of N B l) (keys_of N B (a ∷ b ∷ c ∷ []))) k ∙ head_in (triple_key N B a b c) []

-- the three kept of four
of_four : (N B : ℕ) (q : ℕ → Bool) (a b c d : ℕ) (C : List ℕ) → keep q (a ∷ b ∷ c ∷ d ∷ []) ≡ C → length C ≡ 3 → elem (key_of N B C) (keys_of N B (a ∷ b ∷ c ∷ d ∷ [])) ≡ true
of_four N B q a b c d C e three = go (cases_Bool (q a)) (cases_Bool (q b)) (cases_Bool (q c))
  where
    K : ℕ → ℕ → ℕ → ℕ
    K = triple_key N B

    L3 : List ℕ
    L3 = K b c d ∷ []

    L2 : List ℕ
    L2 = add leb (K a c d) L3

    L1 : List ℕ
    L1 = add leb (K a b d) L2

    found : (D : List ℕ) → C ≡ D → elem (key_of N B D) (add leb (K a b c) L1) ≡ true → elem (key_of N B C) (add leb (K a b c) L1) ≡ true
    found D k h = ap (λ (l : List ℕ). elem (key_of N B l) (add leb (K a b c) L1)) k ∙ h

    go : (q a ≡ true) ⊎ (q a ≡ false) → (q b ≡ true) ⊎ (q b ≡ false) → (q c ≡ true) ⊎ (q c ≡ false) → elem (key_of N B C) (add leb (K a b c) L1) ≡ true
    go (inr x) y z =
        let s : keep q (b ∷ c ∷ d ∷ []) ≡ C = rw x at e in
        found (b ∷ c ∷ d ∷ []) (sym s ∙ all_kept q (b ∷ c ∷ d ∷ []) (ap length s ∙ three)) (there (K b c d) (K a b c) L1 (there (K b c d) (K a b d) L2 (there (K b c d) (K a c d) L3 (head_in (K b c d) []))))
    go (inl x) (inr y) z =
        let s : a ∷ keep q (c ∷ d ∷ []) ≡ C = rw (x, y) at e in
        found (a ∷ c ∷ d ∷ []) (sym s ∙ ap (λ (l : List ℕ). a ∷ l) (all_kept q (c ∷ d ∷ []) (omega (arith, ap length s ∙ three)))) (there (K a c d) (K a b c) L1 (there (K a c d) (K a b d) L2 (here (K a c d) L3)))
    go (inl x) (inl y) (inr z) =
        let s : a ∷ b ∷ keep q (d ∷ []) ≡ C = rw (x, y, z) at e in
        found (a ∷ b ∷ d ∷ []) (sym s ∙ ap (λ (l : List ℕ). a ∷ b ∷ l) (all_kept q (d ∷ []) (omega (arith, ap length s ∙ three)))) (there (K a b d) (K a b c) L1 (here (K a b d) L2))
    go (inl x) (inl y) (inl z) =
        let s : a ∷ b ∷ c ∷ keep q (d ∷ []) ≡ C = rw (x, y, z) at e in
        found (a ∷ b ∷ c ∷ []) (sym s ∙ ap (λ (l : List ℕ). a ∷ b ∷ c ∷ l) (none (keep q (d ∷ [])) (omega (arith, ap length s ∙ three)))) (here (K a b c) L1)
      where
        none : (l : List ℕ) → length l ≡ 0 → l ≡ []
        none [] h = refl
        none (x ∷ l) h = absurd (omega (arith, h))

-- ---- three common nodes

-- x, y and z ascend
asc_three : (x y z : ℕ) → x < y → y < z → Asc (x ∷ y ∷ z ∷ [])
asc_three x y z h k = (above, (over, ((λ n e. absurd (false≢true e)), tt)))
  where
    over : (n : ℕ) → elem n (z ∷ []) ≡ true → y < n
    over n e = let s : n ≡ z = eqb-true n z (sym (or-false (eqb n z)) ∙ e) in omega arith

    above : (n : ℕ) → elem n (y ∷ z ∷ []) ≡ true → x < n
    above n e = ⊎_elim (λ s. let t : n ≡ y = eqb-true n y s in omega arith) (λ s. omega (arith, over n s)) (or_cases (eqb n y) (elem n (z ∷ [])) e)

-- what holds of the three holds of each that is one of them
each_three : (P : ℕ → Type 0) (x y z : ℕ) → P x → P y → P z → (n : ℕ) → elem n (x ∷ y ∷ z ∷ []) ≡ true → P n
each_three P x y z a b c n e =
    ⊎_elim (λ s. subst P (sym (eqb-true n x s)) a)
    (λ r. ⊎_elim (λ s. subst P (sym (eqb-true n y s)) b) (λ s. subst P (sym (eqb-true n z (sym (or-false (eqb n z)) ∙ s))) c) (or_cases (eqb n y) (elem n (z ∷ [])) r))
    (or_cases (eqb n x) (elem n (y ∷ z ∷ [])) e)

-- those of an ascending list that are one of three of its numbers are the three
kept_three : (l : List ℕ) (x y z : ℕ) → Asc l → x < y → y < z → elem x l ≡ true → elem y l ≡ true → elem z l ≡ true → keep (λ n. elem n (x ∷ y ∷ z ∷ [])) l ≡ x ∷ y ∷ z ∷ []
kept_three l x y z a h k ex ey ez =
    asc_ext (keep (λ n. elem n (x ∷ y ∷ z ∷ [])) l) (x ∷ y ∷ z ∷ []) (asc_keep (λ n. elem n (x ∷ y ∷ z ∷ [])) l a) (asc_three x y z h k)
    (λ n. elem-keep n (λ m. elem m (x ∷ y ∷ z ∷ [])) l
    ∙ both_ways (elem n (x ∷ y ∷ z ∷ []) && elem n l) (elem n (x ∷ y ∷ z ∷ [])) (λ e. (and_parts (elem n (x ∷ y ∷ z ∷ [])) (elem n l) e).0)
    (λ e. ap₂ (λ (b c : Bool). b && c) e (each_three (λ m. elem m l ≡ true) x y z ex ey ez n e)))

-- short: of three or four nodes
abbrev pub Short : List ℕ → Type 0
Short l = (3 ≤ length l) × (length l ≤ 4)

-- a short list has the key of three of its numbers
has_key : (N B : ℕ) (l : List ℕ) (x y z : ℕ) → Short l → Asc l → x < y → y < z → elem x l ≡ true → elem y l ≡ true → elem z l ≡ true → elem (triple_key N B x y z) (keys_of N B l) ≡ true
has_key N B [] x y z s a h k ex ey ez = absurd (omega (arith, s.0))
has_key N B (p ∷ []) x y z s a h k ex ey ez = absurd (omega (arith, s.0))
has_key N B (p ∷ q ∷ []) x y z s a h k ex ey ez = absurd (omega (arith, s.0))
has_key N B (p ∷ q ∷ r ∷ []) x y z s a h k ex ey ez = of_three N B (λ n. elem n (x ∷ y ∷ z ∷ [])) p q r (x ∷ y ∷ z ∷ []) (kept_three (p ∷ q ∷ r ∷ []) x y z a h k ex ey ez) refl
has_key N B (p ∷ q ∷ r ∷ t ∷ []) x y z s a h k ex ey ez = of_four N B (λ n. elem n (x ∷ y ∷ z ∷ [])) p q r t (x ∷ y ∷ z ∷ []) (kept_three (p ∷ q ∷ r ∷ t ∷ []) x y z a h k ex ey ez) refl
has_key N B (p ∷ q ∷ r ∷ t ∷ u ∷ l) x y z s a h k ex ey ez = absurd (omega (arith, s.1))

-- so two short lists with three in common have a key in common
pub share_key : (N B : ℕ) (A C : List ℕ) → Short A → Short C → Asc A → Asc C → 3 ≤ length (common A C) → any (λ v. elem v (keys_of N B C)) (keys_of N B A) ≡ true
unfolding common
share_key N B A C sa sc a c three = go (keep (λ n. elem n C) A) refl three
  where
    both : (n : ℕ) → elem n (keep (λ m. elem m C) A) ≡ true → (elem n C ≡ true) × (elem n A ≡ true)
    both n e = and_parts (elem n C) (elem n A) (sym (elem-keep n (λ m. elem m C) A) ∙ e)

    some : (v : ℕ) (l : List ℕ) → elem v l ≡ true → elem v (keys_of N B C) ≡ true → any (λ w. elem w (keys_of N B C)) l ≡ true
    some v [] e h = absurd (false≢true e)
    some v (w ∷ l) e h = step (some v l) (cases_Bool (eqb v w))
      where
        step : (elem v l ≡ true → elem v (keys_of N B C) ≡ true → any (λ u. elem u (keys_of N B C)) l ≡ true) → (eqb v w ≡ true) ⊎ (eqb v w ≡ false)
            → any (λ u. elem u (keys_of N B C)) (w ∷ l) ≡ true
        step ih (inl s) = rw (sym (ap (λ (k : ℕ). elem k (keys_of N B C)) (eqb-true v w s)) ∙ h)
        step ih (inr s) = or_right (elem w (keys_of N B C)) (ih (rw s at e) h)
          where
            or_right : (b : Bool) {d : Bool} → d ≡ true → (b || d) ≡ true
            or_right true t = refl
            or_right false t = t

    go : (l : List ℕ) → keep (λ n. elem n C) A ≡ l → 3 ≤ length l → any (λ v. elem v (keys_of N B C)) (keys_of N B A) ≡ true
    go [] e h = absurd (omega (arith, h))
    go (x ∷ []) e h = absurd (omega (arith, h))
    go (x ∷ y ∷ []) e h = absurd (omega (arith, h))
    go (x ∷ y ∷ z ∷ l) e h =
        let asc : Asc (x ∷ y ∷ z ∷ l) = subst Asc e (asc_keep (λ n. elem n C) A a) in
        let inn : (n : ℕ) → elem n (x ∷ y ∷ z ∷ l) ≡ true → (elem n C ≡ true) × (elem n A ≡ true) = λ n s. both n (subst (λ (r : List ℕ). elem n r ≡ true) (sym e) s) in
        let ix = inn x (head_in x (y ∷ z ∷ l)) in
        let iy = inn y (later_in x (y ∷ z ∷ l) y (head_in y (z ∷ l))) in
        let iz = inn z (later_in x (y ∷ z ∷ l) z (later_in y (z ∷ l) z (head_in z l))) in
        let xy : x < y = asc.0 y (head_in y (z ∷ l)) in
        let yz : y < z = asc.1.0 z (head_in z l) in
        some (triple_key N B x y z) (keys_of N B A) (has_key N B A x y z sa a xy yz ix.1 iy.1 iz.1) (has_key N B C x y z sc c xy yz ix.0 iy.0 iz.0)
