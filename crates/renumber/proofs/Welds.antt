-- The welded map goes along where the nodes that are welded go along: the same points, the same order of numbers.
use Prim.Native.Nat.{ℕ, min, ◌<◌}
use mathlib.Core.Path.{◌≡◌, refl, sym, ap, ap₂, ◌∙◌, subst}
use mathlib.Core.Logic.{◌⊎◌, inl, inr}
use mathlib.Core.Bool.{Bool, true, false, cond, ◌||◌}
use mathlib.Core.List.{List, ◌∷◌}
use native.Mathlib.Nat.{zero-add}
use native.Mathlib.Omega.{arith}
use borrow.Author.Tests.{leb-true, leb-false, eqb-true, eqb-false}
use lib.Dec.{leb, eqb}
use lib.ListN.{length, get_or, set, length-set}
use lib.Seq.{get_or-set_same, get_or-set_other}
use lib.Ieee.{Float, binary64, sub, mul, lt, le, eq}
use Rattle.laws.specs.Lists.{fold, elem, sort, up_from}
use Rattle.std.proofs.lemmas.Bool.{cases_Bool}
use Rattle.laws.proofs.ListLaws.{length-up_from, get_or-up_from}
use Rattle.floats.specs.Floats.{zero64}
use Rattle.geometry.specs.Points.{point_sub, point_dot, point_at}
use Rattle.snap.specs.Weld.{points_before, before_of, far_of, near_of, takes, groups, least, give, spread, welded, welded_by}
use Rattle.renumber.proofs.Alike.{Alike, empty, link, append_alike, only_if_alike, cond_alike, sort_alike}
use Rattle.renumber.proofs.Numbers.{eqb_agree, elem_agree}

-- nodes of coordinates c and d that go along: the same points, the same order
pub record Along (c d : List Float) (n k : ℕ) (E : ℕ → ℕ → Type 0) : Type 0 where
  pub order : (a b x y : ℕ) → E a x → E b y → leb a b ≡ leb x y
  pub point : (a x : ℕ) → E a x → point_at c a ≡ point_at d x
  pub low : (a x : ℕ) → E a x → (a < n) × (x < k)

module _ (c d : List Float) (t : Float) (n k : ℕ) (E : ℕ → ℕ → Type 0) (A : Along c d n k E) where
  before_agree : (a b x y : ℕ) → E a x → E b y → before_of c a b ≡ before_of d x y
  unfolding before_of
  before_agree a b x y e f = λ i. points_before (A.point a x e i) (A.point b y f i) (A.order a b x y e f i)

  far_agree : (a b x y : ℕ) → E a x → E b y → far_of c t a b ≡ far_of d t x y
  unfolding far_of
  far_agree a b x y e f = λ i. lt t (sub binary64 (A.point b y f i).x (A.point a x e i).x)

  near_agree : (a b x y : ℕ) → E a x → E b y → near_of c t a b ≡ near_of d t x y
  unfolding near_of
  near_agree a b x y e f =
      λ i. le (point_dot (point_sub (A.point a x e i) (A.point b y f i)) (point_sub (A.point a x e i) (A.point b y f i))) (mul binary64 t t)

  -- ---- groups

  -- nodes are taken alike
  abbrev Taken : (ℕ → Bool) → (ℕ → Bool) → Type 0
  Taken p q = (a x : ℕ) → E a x → p a ≡ q x

  takes_alike : (p q : ℕ → Bool) → Taken p q → (a x : ℕ) → E a x → {l m : List ℕ} → Alike E l m → Alike E (takes c t a p l) (takes d t x q m)
  takes_alike p q h a x e empty = empty
  takes_alike p q h a x e (link {a = b} {b = y} f r) =
      cond_alike (h b y f) (takes_alike p q h a x e r)
      (cond_alike (far_agree a b x y e f) empty (append_alike (only_if_alike (near_agree a b x y e f) (link f empty)) (takes_alike p q h a x e r)))

  groups_alike : (p q : ℕ → Bool) → Taken p q → {l m : List ℕ} → Alike E l m → Alike (Alike E) (groups c t p l) (groups d t q m)
  groups_alike p q h empty = empty
  groups_alike p q h (link {a = a} {b = x} {l = l} {m = m} e r) =
      let g : Alike E (a ∷ takes c t a p l) (x ∷ takes d t x q m) = link e (takes_alike p q h a x e r) in
      cond_alike (h a x e) (groups_alike p q h r)
      (link g (groups_alike (λ j. elem j (a ∷ takes c t a p l) || p j) (λ j. elem j (x ∷ takes d t x q m) || q j)
      (λ b y f. ap₂ (λ (u v : Bool). u || v) (elem_agree E A.order b y f g) (h b y f)) r))

  -- ---- the map

  -- the lesser of two
  lesser : (a b x y : ℕ) → E a x → E b y → E (min a b) (min x y)
  lesser a b x y e f = go (cases_Bool (leb a b))
    where
      go : (leb a b ≡ true) ⊎ (leb a b ≡ false) → E (min a b) (min x y)
      go (inl t) =
          let p : min a b ≡ a = omega (arith, leb-true a b t) in
          let q : min x y ≡ x = omega (arith, leb-true x y (sym (A.order a b x y e f) ∙ t)) in
          rw (p, q) e
      go (inr t) =
          let p : min a b ≡ b = omega (arith, leb-false a b t) in
          let q : min x y ≡ y = omega (arith, leb-false x y (sym (A.order a b x y e f) ∙ t)) in
          rw (p, q) f

  least_from : (a x : ℕ) → E a x → {l m : List ℕ} → Alike E l m → E (fold min a l) (fold min x m)
  least_from a x e empty = e
  least_from a x e (link {a = b} {b = y} f r) = least_from (min a b) (min x y) (lesser a b x y e f) r

  -- maps of n and of k nodes that give nodes that go along numbers that go along
  record Mapped (l m : List ℕ) : Type 0 where
    size : length l ≡ n
    size' : length m ≡ k
    entry : (a x : ℕ) → E a x → E (get_or l a a) (get_or m x x)

  set_mapped : {l m : List ℕ} (b y v w : ℕ) → E b y → E v w → Mapped l m → Mapped (set l b v) (set m y w)
  set_mapped {l} {m} b y v w e f M =
      record { size = length-set l b v ∙ M.size; size' = length-set m y w ∙ M.size'; entry = λ a x g. at a x g (cases_Bool (eqb a b)) }
    where
      at : (a x : ℕ) → E a x → (eqb a b ≡ true) ⊎ (eqb a b ≡ false) → E (get_or (set l b v) a a) (get_or (set m y w) x x)
      at a x g (inl s) =
          let p : a ≡ b = eqb-true a b s in
          let q : x ≡ y = eqb-true x y (sym (eqb_agree E A.order a b x y g e) ∙ s) in
          let i : get_or (set l b v) a a ≡ v = ap (λ (j : ℕ). get_or (set l b v) j a) p ∙ get_or-set_same l b v a (omega (arith, (A.low b y e).0, M.size)) in
          let j : get_or (set m y w) x x ≡ w = ap (λ (j : ℕ). get_or (set m y w) j x) q ∙ get_or-set_same m y w x (omega (arith, (A.low b y e).1, M.size')) in
          subst (λ (z : ℕ). E (get_or (set l b v) a a) z) (sym j) (subst (λ (z : ℕ). E z w) (sym i) f)
      at a x g (inr s) =
          let u : eqb x y ≡ false = sym (eqb_agree E A.order a b x y g e) ∙ s in
          let i : get_or (set l b v) a a ≡ get_or l a a = get_or-set_other l b a v a (eqb-false a b s) in
          let j : get_or (set m y w) x x ≡ get_or m x x = get_or-set_other m y x w x (eqb-false x y u) in
          subst (λ (z : ℕ). E (get_or (set l b v) a a) z) (sym j) (subst (λ (z : ℕ). E z (get_or m x x)) (sym i) (M.entry a x g))

  give_mapped : (v w : ℕ) → E v w → {g h : List ℕ} → Alike E g h → {l m : List ℕ} → Mapped l m → Mapped (give v g l) (give w h m)
  give_mapped v w e empty M = M
  give_mapped v w e (link {a = b} {b = y} f r) M = give_mapped v w e r (set_mapped b y v w f e M)

  group_mapped : {g h : List ℕ} → Alike E g h → {l m : List ℕ} → Mapped l m → Mapped (give (least g) g l) (give (least h) h m)
  group_mapped empty M = M
  group_mapped (link {a = b} {b = y} {l = g} {m = h} f r) M = give_mapped (fold min b g) (fold min y h) (least_from b y f r) (link f r) M

  spread_mapped : {gs hs : List (List ℕ)} → Alike (Alike E) gs hs → {l m : List ℕ} → Mapped l m → Mapped (spread gs l) (spread hs m)
  spread_mapped empty M = M
  spread_mapped (link g r) M = spread_mapped r (group_mapped g M)

  start_mapped : Mapped (up_from 0 n) (up_from 0 k)
  start_mapped =
      record {
        size = length-up_from 0 n;
        size' = length-up_from 0 k;
        entry = λ a x e. rw (itself n a (A.low a x e).0, itself k x (A.low a x e).1) e;
      }
    where
      itself : (s a : ℕ) → a < s → get_or (up_from 0 s) a a ≡ a
      itself s a h = get_or-up_from 0 s a a h ∙ zero-add a

  welded_mapped : {l m : List ℕ} → Alike E l m → Mapped (welded c t n l) (welded d t k m)
  unfolding welded
  welded_mapped {l} {m} g = go (eq t zero64)
    where
      go : (b : Bool) → Mapped (cond b (up_from 0 n) (spread (groups c t (λ j. false) (sort (before_of c) l)) (up_from 0 n)))
          (cond b (up_from 0 k) (spread (groups d t (λ j. false) (sort (before_of d) m)) (up_from 0 k)))
      go true = start_mapped
      go false = spread_mapped (groups_alike (λ j. false) (λ j. false) (λ a x e. refl) (sort_alike (before_of c) (before_of d) before_agree g)) start_mapped

  -- nodes that go along have welded numbers that go along
  pub welded_along : {l m : List ℕ} → Alike E l m → (a x : ℕ) → E a x → E (welded_by (welded c t n l) a) (welded_by (welded d t k m) x)
  welded_along g a x e = (welded_mapped g).entry a x e
