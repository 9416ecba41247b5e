-- Comparing conflates nothing: two findings of one full list that compare alike are the same.
use Prim.Native.Nat.{ℕ, zero, suc, ◌≤◌, ◌<◌}
use mathlib.Core.Path.{◌≡◌, refl, sym, ap, ap₂, ◌∙◌}
use mathlib.Core.Logic.{⊎_elim}
use mathlib.Core.Bool.{Bool, true, false, cond, ◌||◌, or-true}
use mathlib.Core.List.{List, [], ◌∷◌, ◌++◌, Memᴰ}
use native.Mathlib.Omega.{arith}
use borrow.Author.Tests.{le-leb}
use lib.Dec.{leb}
use lib.ListN.{length, get_or, take}
use lib.Seq.{get_or-take, length-take-le}
use Rattle.laws.specs.Lists.{only_if, any, keep, sort}
use Rattle.laws.proofs.Tests.{clash}
use Rattle.std.proofs.lemmas.Bool.{cases_Bool, cases_lt}
use Rattle.laws.proofs.ListLaws.{eql_self}
use Rattle.mesh.specs.Model.{Raw, contains, TOPOLOGY}
use Rattle.mesh.specs.Rings.{Face, faces, numbered, key_of, same_key}
use Rattle.mesh.specs.Lookup.{no_face, face_at}
use Rattle.findings.specs.Findings.{Rules, Finding, bowtie, overfull, partly, repeated, full}
use Rattle.findings.specs.Records.{fields_of}
use Rattle.findings.specs.Compared.{none, shares, names_pair, compared}
use Rattle.findings.proofs.Exact.{exact}
use Rattle.findings.proofs.ByKind.{only, unasked}
use Rattle.findings.proofs.Told.{OverfullTold, Told, told}

module _ {ℓ} {A : Type ℓ} (p : A → Bool) where
  -- some element passes where the one at a place does
  any_at : (l : List A) (i : ℕ) (d : A) → i < length l → p (get_or l i d) ≡ true → any p l ≡ true
  any_at [] i d h e = absurd (omega arith)
  any_at (x ∷ l) zero d h e = ap (λ (b : Bool). b || any p l) e
  any_at (x ∷ l) (suc i) d h e = ap (λ (b : Bool). p x || b) (any_at l i d (omega arith) e) ∙ or-true (p x)

  -- a member behind a test
  mem_behind : {z : A} (b : Bool) (w : A) (k : List A) → Memᴰ z k → Memᴰ z (only_if b (w ∷ []) ++ k)
  mem_behind true w k r = Memᴰ.tail r
  mem_behind false w k r = r

  -- a member that passes is kept
  mem_keep : {z : A} {k : List A} → Memᴰ z k → p z ≡ true → Memᴰ z (keep p k)
  mem_keep (Memᴰ.head {x = w} {xs = k} q) g = let t : p w ≡ true = ap p (sym q) ∙ g in rw t (Memᴰ.head q)
  mem_keep (Memᴰ.tail {x = w} {xs = k} q) g = mem_behind (p w) w (keep p k) (mem_keep q g)

  -- two members of a list of at most one
  one_only : {x y : A} (k : List A) → Memᴰ x k → Memᴰ y k → length k ≤ 1 → x ≡ y
  one_only [] q r g = elim q [ ]
  one_only (z ∷ []) (Memᴰ.head q) (Memᴰ.head r) g = q ∙ sym r
  one_only (z ∷ []) (Memᴰ.head q) (Memᴰ.tail r) g = elim r [ ]
  one_only (z ∷ []) (Memᴰ.tail q) r g = elim q [ ]
  one_only (z ∷ w ∷ k) q r g = absurd (omega arith)

  -- where at most one passes, two members that pass are the same
  single : {x y : A} {l : List A} → Memᴰ x l → Memᴰ y l → p x ≡ true → p y ≡ true → length (keep p l) ≤ 1 → x ≡ y
  single {x} {y} {l} m n e f h = one_only (keep p l) (mem_keep m e) (mem_keep n f) h

-- ---- an overfull face by its key

-- the first face with a key is one
first_key : (fs : List Face) (f g : ℕ) → f < g → g < length fs → key_of (face_at fs f) ≡ key_of (face_at fs g) → any (same_key (face_at fs g)) (take g fs) ≡ false → ⊥
unfolding same_key
first_key fs f g h k e n =
    let here : get_or (take g fs) f no_face ≡ face_at fs f = get_or-take g fs f no_face h in
    let same : same_key (face_at fs g) (get_or (take g fs) f no_face) ≡ true = ap (same_key (face_at fs g)) here ∙ rw e (eql_self (key_of (face_at fs g))) in
    let w : g ≤ length fs = omega arith in
    clash (any_at (same_key (face_at fs g)) (take g fs) f no_face (omega (arith, length-take-le g fs w)) same) n

-- two overfull faces with one key are one
same_key_lem : (fs : List Face) (f g : ℕ) → f < length fs → g < length fs → key_of (face_at fs f) ≡ key_of (face_at fs g)
    → any (same_key (face_at fs f)) (take f fs) ≡ false → any (same_key (face_at fs g)) (take g fs) ≡ false → f ≡ g
same_key_lem fs f g h k e m n =
    ⊎_elim (λ (l : f < g). absurd (first_key fs f g l k e n)) (λ (l : g ≤ f). ⊎_elim (λ (o : g < f). absurd (first_key fs g f o h (sym e) m)) (λ (o : f ≤ g). omega arith) (cases_lt g f)) (cases_lt f g)

-- ---- a partly shared pair by its cells

-- two cells in order
sort_two : (c d : ℕ) → c < d → sort leb (c ∷ d ∷ []) ≡ c ∷ d ∷ []
sort_two c d h = rw (le-leb c d (omega arith))

module _ (R : Rules) (flags : ℕ) (cs : List Raw) where
  -- the full list
  abbrev list : List Finding
  list = full R flags (numbered R.rings cs)

  -- all faces
  abbrev whole : List Face
  whole = faces R.rings (numbered R.rings cs)

  -- at most one finding names two cells
  at_most : (x : Finding) → Memᴰ x list → (fields_of x).kind ≡ 3 → length (keep (names_pair (fields_of x).first (fields_of x).second) list) ≤ 1
  at_most x m k =
      let h = only R flags cs x m k in
      ⊎_elim (λ t. rw (exact R flags cs (fields_of x).first (fields_of x).second t (λ (e : (fields_of x).first ≡ (fields_of x).second). omega (arith, h.lower)) (omega (arith, h.lower, h.within)) h.within) (low (shares R (get_or cs (fields_of x).first none) (get_or cs (fields_of x).second none))))
      (λ t. absurd (unasked R flags cs x t m k)) (cases_Bool (contains flags TOPOLOGY))
    where
      low : (b : Bool) → cond {A = ℕ} b 1 0 ≤ 1
      low true = omega arith
      low false = omega arith

  -- two overfull faces
  over_same : (c₁ c₂ f n d₁ d₂ g o : ℕ) (k os l ps : List ℕ) → OverfullTold whole c₁ c₂ f n k os → OverfullTold whole d₁ d₂ g o l ps → k ≡ l → overfull c₁ c₂ f n k os ≡ overfull d₁ d₂ g o l ps
  over_same c₁ c₂ f n d₁ d₂ g o k os l ps t u e =
      let i : f ≡ g = same_key_lem whole f g t.within u.within (sym t.key ∙ e ∙ u.key) t.foremost u.foremost in
      let t1 = t.owners in
      let t2 = t.count in
      let t3 = t.first in
      let t4 = t.second in
      let u1 = u.owners in
      let u2 = u.count in
      let u3 = u.first in
      let u4 = u.second in
      cc

  -- two pairs
  pair_same : (c₁ c₂ a b d₁ d₂ p q : ℕ) (ns ms : List ℕ) → Memᴰ (partly c₁ c₂ a b ns) list → Memᴰ (partly d₁ d₂ p q ms) list
      → sort leb (c₁ ∷ c₂ ∷ []) ≡ sort leb (d₁ ∷ d₂ ∷ []) → partly c₁ c₂ a b ns ≡ partly d₁ d₂ p q ms
  unfolding fields_of
  pair_same c₁ c₂ a b d₁ d₂ p q ns ms m n e =
      let h = only R flags cs (partly c₁ c₂ a b ns) m refl in
      let k = only R flags cs (partly d₁ d₂ p q ms) n refl in
      let l : c₁ ∷ c₂ ∷ [] ≡ d₁ ∷ d₂ ∷ [] = sym (sort_two c₁ c₂ h.lower) ∙ e ∙ sort_two d₁ d₂ k.lower in
      let u : c₁ ≡ d₁ = cc in
      let v : c₂ ≡ d₂ = cc in
      single (names_pair c₁ c₂) m n h.named (ap₂ (λ (i j : ℕ). names_pair i j (partly d₁ d₂ p q ms)) u v ∙ k.named) (at_most (partly c₁ c₂ a b ns) m refl)

  -- any two
  pub same_compared : (x y : Finding) → Memᴰ x list → Memᴰ y list → compared R (λ i. i) x ≡ compared R (λ i. i) y → x ≡ y
  unfolding compared Told
  same_compared x y m n e = go x y m n (told R flags cs x m) (told R flags cs y n) e
    where
      go : (x y : Finding) → Memᴰ x list → Memᴰ y list → Told whole x → Told whole y → compared R (λ i. i) x ≡ compared R (λ i. i) y → x ≡ y
      go (bowtie c) (bowtie d) m n t u e = let i : c ≡ d = cc in cc
      go (bowtie c) (overfull d₁ d₂ g o l ps) m n t u e = let z : ◌≡◌ {A = ℕ} 0 1 = cc in absurd (omega arith)
      go (bowtie c) (partly d₁ d₂ p q ms) m n t u e = let z : ◌≡◌ {A = ℕ} 0 1 = cc in absurd (omega arith)
      go (bowtie c) (repeated d p q) m n t u e = let z : ◌≡◌ {A = ℕ} 0 1 = cc in absurd (omega arith)
      go (overfull c₁ c₂ f k ks os) (bowtie d) m n t u e = let z : ◌≡◌ {A = ℕ} 0 1 = cc in absurd (omega arith)
      go (overfull c₁ c₂ f k ks os) (overfull d₁ d₂ g o l ps) m n t u e = let i : ks ≡ l = cc in over_same c₁ c₂ f k d₁ d₂ g o ks os l ps t u i
      go (overfull c₁ c₂ f k ks os) (partly d₁ d₂ p q ms) m n t u e = let z : ◌≡◌ {A = ℕ} 0 1 = cc in absurd (omega arith)
      go (overfull c₁ c₂ f k ks os) (repeated d p q) m n t u e = let z : ◌≡◌ {A = ℕ} 0 1 = cc in absurd (omega arith)
      go (partly c₁ c₂ a b ns) (bowtie d) m n t u e = let z : ◌≡◌ {A = ℕ} 0 1 = cc in absurd (omega arith)
      go (partly c₁ c₂ a b ns) (overfull d₁ d₂ g o l ps) m n t u e = let z : ◌≡◌ {A = ℕ} 0 1 = cc in absurd (omega arith)
      go (partly c₁ c₂ a b ns) (partly d₁ d₂ p q ms) m n t u e = let i : sort leb (c₁ ∷ c₂ ∷ []) ≡ sort leb (d₁ ∷ d₂ ∷ []) = cc in pair_same c₁ c₂ a b d₁ d₂ p q ns ms m n i
      go (partly c₁ c₂ a b ns) (repeated d p q) m n t u e = let z : ◌≡◌ {A = ℕ} 0 1 = cc in absurd (omega arith)
      go (repeated c a b) (bowtie d) m n t u e = let z : ◌≡◌ {A = ℕ} 0 1 = cc in absurd (omega arith)
      go (repeated c a b) (overfull d₁ d₂ g o l ps) m n t u e = let z : ◌≡◌ {A = ℕ} 0 1 = cc in absurd (omega arith)
      go (repeated c a b) (partly d₁ d₂ p q ms) m n t u e = let z : ◌≡◌ {A = ℕ} 0 1 = cc in absurd (omega arith)
      go (repeated c a b) (repeated d p q) m n t u e = let i : c ≡ d = cc in let j : a ≡ p = cc in let k : b ≡ q = cc in cc
