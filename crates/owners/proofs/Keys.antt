-- Keys: lists compared.
use Prim.Native.Nat.{ℕ, ◌<◌}
use mathlib.Core.Path.{◌≡◌, refl, sym, ap, ◌∙◌}
use mathlib.Core.Logic.{◌⊎◌, inl, inr, ◌≢◌}
use mathlib.Core.Bool.{Bool, true, false, ◌&&◌, false≢true}
use mathlib.Core.List.{List, [], ◌∷◌}
use lib.Dec.{leb, eqb}
use Rattle.std.specs.List.{list_any}
use lib.ListN.{length, get_or}
use Rattle.ascending.proofs.Adding.{get_or_in}
use Rattle.std.specs.Cmp.Lexicographic.{pointwise}
use Rattle.laws.specs.Lists.{eql, elem, sort}
use Rattle.laws.proofs.Members.{elem-sort, member}
use Rattle.std.proofs.lemmas.Bool.{cases_Bool}
use Rattle.laws.proofs.ListLaws.{eql_true}

-- what `==` on slices says
pub pointwise_eql : (a b : List ℕ) → pointwise eqb a b ≡ eql a b
pointwise_eql [] [] = refl
pointwise_eql [] (y ∷ ys) = refl
pointwise_eql (x ∷ xs) [] = refl
pointwise_eql (x ∷ xs) (y ∷ ys) = ap (λ (e : Bool). eqb x y && e) (pointwise_eql xs ys)

-- lists of unlike lengths are not equal
pub eql-length : (a b : List ℕ) → length a ≢ length b → eql a b ≡ false
eql-length a b z = go (cases_Bool (eql a b))
  where
    go : (eql a b ≡ true) ⊎ (eql a b ≡ false) → eql a b ≡ false
    go (inl e) = absurd (z (ap length (eql_true a b e)))
    go (inr e) = e

-- a key that lacks a word of a ring is not the ring, sorted
pub other_words : (key ring : List ℕ) (i w : ℕ) → i < length ring → w ≡ get_or ring i 0 → list_any (λ y. eqb y w) key ≡ false → false ≡ eql key (sort leb ring)
other_words key ring i w h is e = go (cases_Bool (eql key (sort leb ring)))
  where
    go : (eql key (sort leb ring) ≡ true) ⊎ (eql key (sort leb ring) ≡ false) → false ≡ eql key (sort leb ring)
    go (inl t) =
        let has = ap (λ (v : ℕ). elem v ring) is ∙ get_or_in ring i h in
        absurd (false≢true (sym (member w key ∙ e) ∙ ap (elem w) (eql_true key (sort leb ring) t) ∙ elem-sort leb w ring ∙ has))
    go (inr f) = sym f
