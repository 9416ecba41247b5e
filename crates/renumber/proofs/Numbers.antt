-- Numbers renamed with their order kept: tests on them agree, and lists of them go along.
use Prim.Native.Nat.{ℕ, ◌<◌}
use mathlib.Core.Path.{◌≡◌, refl, sym, ap₂, ◌∙◌}
use mathlib.Core.Bool.{Bool, true, false, not, ◌&&◌}
use mathlib.Core.List.{List}
use native.Mathlib.Nat.{le_antisymm}
use native.Mathlib.Omega.{arith}
use borrow.Author.Tests.{leb-true, leb-false, ltb-true, eqb-true, le-leb, lt-leb, lt-ltb, eq-eqb}
use lib.Dec.{leb, ltb, eqb}
use Rattle.laws.specs.Lists.{elem, eql}
use Rattle.laws.proofs.Tests.{both_ways}
use Rattle.mesh.specs.Rings.{node_set}
use Rattle.findings.specs.Findings.{common, sharing, meets}
use Rattle.renumber.proofs.Alike.{Alike, empty, link, length_alike, any_alike, keep_alike, distinct_alike}

module _ (E : ℕ → ℕ → Type 0) (mono : (a b x y : ℕ) → E a x → E b y → leb a b ≡ leb x y) where
  pub eqb_agree : (a b x y : ℕ) → E a x → E b y → eqb a b ≡ eqb x y
  eqb_agree a b x y e f = both_ways (eqb a b) (eqb x y) (λ t. to (eqb-true a b t)) (λ t. back (eqb-true x y t))
    where
      to : a ≡ b → eqb x y ≡ true
      to q =
          let u : leb x y ≡ true = sym (mono a b x y e f) ∙ le-leb a b (omega arith) in
          let v : leb y x ≡ true = sym (mono b a y x f e) ∙ le-leb b a (omega arith) in
          eq-eqb x y (le_antisymm (leb-true x y u) (leb-true y x v))

      back : x ≡ y → eqb a b ≡ true
      back q =
          let u : leb a b ≡ true = mono a b x y e f ∙ le-leb x y (omega arith) in
          let v : leb b a ≡ true = mono b a y x f e ∙ le-leb y x (omega arith) in
          eq-eqb a b (le_antisymm (leb-true a b u) (leb-true b a v))

  pub ltb_agree : (a b x y : ℕ) → E a x → E b y → ltb a b ≡ ltb x y
  ltb_agree a b x y e f = both_ways (ltb a b) (ltb x y) (λ t. to (ltb-true a b t)) (λ t. back (ltb-true x y t))
    where
      to : a < b → ltb x y ≡ true
      to h = let u : leb y x ≡ false = sym (mono b a y x f e) ∙ lt-leb b a h in lt-ltb x y (leb-false y x u)

      back : x < y → ltb a b ≡ true
      back h = let u : leb b a ≡ false = mono b a y x f e ∙ lt-leb y x h in lt-ltb a b (leb-false b a u)

  -- ---- lists of nodes

  pub elem_agree : (a x : ℕ) → E a x → {l m : List ℕ} → Alike E l m → elem a l ≡ elem x m
  elem_agree a x e g = any_alike (eqb a) (eqb x) (λ b y f. eqb_agree a b x y e f) g

  pub eql_agree : {l m k n : List ℕ} → Alike E l m → Alike E k n → eql l k ≡ eql m n
  eql_agree empty empty = refl
  eql_agree empty (link f h) = refl
  eql_agree (link e g) empty = refl
  eql_agree (link {a = a} {b = x} e g) (link {a = b} {b = y} f h) = ap₂ (λ s t. s && t) (eqb_agree a b x y e f) (eql_agree g h)

  node_set_alike : {r r' : List ℕ} → Alike E r r' → Alike E (node_set r) (node_set r')
  node_set_alike g = distinct_alike leb leb mono g

  pub common_alike : {r r' s s' : List ℕ} → Alike E r r' → Alike E s s' → Alike E (common r s) (common r' s')
  unfolding common
  common_alike {s = s} {s' = s'} g h =
      keep_alike (λ n. elem n (node_set s)) (λ n. elem n (node_set s')) (λ a x e. elem_agree a x e (node_set_alike h)) (node_set_alike g)

  sharing_agree : {r r' s s' : List ℕ} → Alike E r r' → Alike E s s' → sharing r s ≡ sharing r' s'
  unfolding sharing
  sharing_agree g h =
      ap₂ (λ (u : Bool) (n : ℕ). not u && leb 3 n) (eql_agree (node_set_alike g) (node_set_alike h)) (length_alike (common_alike g h))

  pub meets_agree : (spans spans' : List ℕ → Bool) → ((l m : List ℕ) → Alike E l m → spans l ≡ spans' m)
      → {r r' s s' : List ℕ} → Alike E r r' → Alike E s s' → meets spans r s ≡ meets spans' r' s'
  unfolding meets
  meets_agree spans spans' k {r} {r'} {s} {s'} g h = ap₂ (λ (u v : Bool). u && v) (sharing_agree g h) (k (common r s) (common r' s') (common_alike g h))
