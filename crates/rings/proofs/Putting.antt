-- Words and rings put one after the other.
use Prim.Native.Nat.{ℕ, ◌+◌, ◌≤◌, ◌<◌}
use mathlib.Core.Path.{◌≡◌, sym, ap, ap₂, ◌∙◌, subst}
use mathlib.Core.Bool.{false}
use mathlib.Core.List.{List, [], ◌∷◌, ◌++◌}
use native.Mathlib.Omega.{arith}
use borrow.Author.Tests.{leb-false}
use lib.Dec.{leb}
use lib.ListN.{length, length-append}
use lib.Seq.{sets}
use Rattle.std.specs.List.{All}
use Rattle.std.proofs.lemmas.List.Elements.{All-nil, All-cons}
use Rattle.laws.specs.Lists.{any, each}
use Rattle.laws.proofs.ListLaws.{each_append}
use Rattle.laws.proofs.Stores.{sets_append}
use Rattle.std.proofs.lemmas.Bool.{or_parts}
use Rattle.rings.specs.Put.{WordsPut}
use Rattle.mesh.specs.Model.{Raw}
use Rattle.mesh.specs.Rings.{rings_of}

-- what was put, with the words that are left, is all
pub record Putting (l out : List ℕ) (o k : ℕ) (all rest : List ℕ) : Type 0 where
  pub put : sets out k rest ≡ sets l o all
  pub place : k + length rest ≡ o + length all

pub putting_start : (l : List ℕ) (o : ℕ) (all rest : List ℕ) → rest ≡ all → Putting l l o o all rest
putting_start l o all rest e = record { put = ap (sets l o) e; place = ap (λ (r : List ℕ). o + length r) e }

module _ {l out : List ℕ} {o k : ℕ} {all rest : List ℕ} (p : Putting l out o k all rest) (now later : List ℕ) (is : rest ≡ now ++ later) where
  -- there is room for the next words
  pub putting_room : o + length all ≤ length l → length out ≡ length l → k + length now ≤ length out
  putting_room h e = omega (arith, ap length is, length-append now later, p.place)

  -- they are put
  pub putting_next : (out' : List ℕ) (k' : ℕ) → WordsPut now out out' k k' → Putting l out' o k' all later
  putting_next out' k' w = record {
    put = ap₂ (λ (v : List ℕ) (j : ℕ). sets v j later) w.1 w.0 ∙ sym (sets_append out k now later) ∙ ap (sets out k) (sym is) ∙ p.put;
    place = omega (arith, w.0, ap length is, length-append now later, p.place);
  }

-- words stand, and others right behind them
pub put_both : (l x out : List ℕ) (o k n : ℕ) (xs ys : List ℕ) → WordsPut xs l x o k → WordsPut ys x out k n → WordsPut (xs ++ ys) l out o n
put_both l x out o k n xs ys a b = (
  omega (arith, a.0, b.0, length-append xs ys),
  b.1 ∙ ap₂ (λ (w : List ℕ) (j : ℕ). sets w j ys) a.1 a.0 ∙ sym (sets_append l o xs ys),
)

-- ---- rings

-- the words of rings
abbrev pub flat : List (List ℕ) → List ℕ
flat rs = each (λ r. r) rs

-- those of a cell's rings, and of the rings behind them
pub flat_cells : (c : Raw) (cs rest : List Raw) → rest ≡ c ∷ cs → flat (each rings_of rest) ≡ flat (rings_of c) ++ flat (each rings_of cs)
flat_cells c cs rest is = ap (λ (l : List Raw). flat (each rings_of l)) is ∙ each_append (λ (r : List ℕ). r) (rings_of c) (each rings_of cs)

-- ---- tables of local places

-- the places of a ring are below n
ring_in : (n : ℕ) (r : List ℕ) → any (leb n) r ≡ false → All (λ p. p < n) r
ring_in n [] e = All-nil (λ p. p < n)
ring_in n (p ∷ r) e =
    let q = or_parts (leb n p) (any (leb n) r) e in
    All-cons (λ p. p < n) p r (leb-false n p q.0) (ring_in n r q.1)

-- and those of a table are
table_in : (n : ℕ) (t : List (List ℕ)) → any (any (leb n)) t ≡ false → All (λ r. All (λ p. p < n) r) t
table_in n [] e = All-nil (λ r. All (λ p. p < n) r)
table_in n (r ∷ t) e =
    let q = or_parts (any (leb n) r) (any (any (leb n)) t) e in
    All-cons (λ r. All (λ p. p < n) r) r t (ring_in n r q.0) (table_in n t q.1)

-- the wedge's tables
abbrev pub wedge_ends : List (List ℕ)
wedge_ends = (0 ∷ 2 ∷ 1 ∷ []) ∷ (3 ∷ 4 ∷ 5 ∷ []) ∷ []

abbrev pub wedge_sides : List (List ℕ)
wedge_sides = (0 ∷ 1 ∷ 4 ∷ 3 ∷ []) ∷ (1 ∷ 2 ∷ 5 ∷ 4 ∷ []) ∷ (2 ∷ 0 ∷ 3 ∷ 5 ∷ []) ∷ []

-- what putting a table's rings asks, in a cell of n words
pub table_asks : (t : List (List ℕ)) (ws : List ℕ) (n : ℕ) → any (any (leb n)) t ≡ false → length ws ≡ n → All (λ r. All (λ p. p < length ws) r) t
table_asks t ws n e h = subst (λ (m : ℕ). All (λ r. All (λ p. p < m) r) t) (sym h) (table_in n t e)
