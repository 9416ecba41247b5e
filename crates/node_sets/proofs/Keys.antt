-- The keys of all faces one after the other.
use Prim.Native.Nat.{ℕ, zero, suc, ◌+◌, ◌-◌, ◌≤◌, ◌<◌}
use mathlib.Core.Path.{◌≡◌, sym, ap, ◌∙◌}
use mathlib.Core.List.{List, [], ◌∷◌, ◌++◌, append-nil}
use native.Mathlib.Nat.{zero-add}
use native.Mathlib.Numerals.{add-one}
use native.Mathlib.Omega.{arith}
use lib.Dec.{leb}
use lib.ListN.{length, get_or, take, length-append}
use lib.Seq.{sets, take_at, drop_at}
use Rattle.laws.specs.Lists.{each, sort, up_from}
use Rattle.laws.specs.Merging.{region}
use Rattle.laws.proofs.ListLaws.{each_append, up_from_snoc}
use Rattle.laws.proofs.Sorting.{length-sort}
use Rattle.laws.proofs.Stores.{sets_append, length-region}
use Rattle.index.proofs.Entries.{up_from_split}
use Rattle.layout.specs.declared.Layout.{Layout}
use Rattle.layout.specs.Tables.{ring_row, Ringed}
use Rattle.node_sets.specs.Sets.{keys_of}

module _ (l : Layout) (t : List ℕ) (f : Ringed l t) where
  -- the key of a face
  abbrev key : ℕ → List ℕ
  key g = sort leb (ring_row l t g)

  -- it is as long as its ring's row
  key_long : (g : ℕ) → g < l.at.faces → length (key g) ≡ get_or t (l.rows + (g + 1)) 0 - get_or t (l.rows + g) 0
  unfolding ring_row
  key_long g h =
      length-sort leb (ring_row l t g)
      ∙ length-region (l.rings + get_or t (l.rows + g) 0) (get_or t (l.rows + (g + 1)) 0 - get_or t (l.rows + g) 0) t
      (omega (arith, f.rising g h, f.within (g + 1) (omega arith), f.rings_at, f.whole))

  -- one key more
  pub keys_next : (g : ℕ) → keys_of l t (g + 1) ≡ keys_of l t g ++ key g
  keys_next g =
      ap (keys_of l t) (add-one g)
      ∙ ap (each key) (up_from_snoc 0 g ∙ ap (λ (j : ℕ). up_from 0 g ++ (j ∷ [])) (zero-add g))
      ∙ each_append key (up_from 0 g) (g ∷ []) ∙ ap (λ (r : List ℕ). keys_of l t g ++ r) (append-nil (key g))

  -- the keys before face g end at its row
  pub keys_long : (g : ℕ) → g ≤ l.at.faces → length (keys_of l t g) ≡ get_or t (l.rows + g) 0
  keys_long zero h = let z : l.rows + 0 ≡ l.rows = omega arith in sym (ap (λ (k : ℕ). get_or t k 0) z ∙ f.row_zero)
  keys_long (suc g) h =
      let k : l.rows + suc g ≡ l.rows + (g + 1) = omega arith in
      let e = ap (λ (j : ℕ). get_or t j 0) k in
      let n = ap (λ (j : ℕ). length (keys_of l t j)) (sym (add-one g)) ∙ ap length (keys_next g) ∙ length-append (keys_of l t g) (key g) in
      omega (arith, n, e, keys_long g (omega arith), key_long g h, f.rising g h)

  -- one key more is put
  pub keys_more : (w : List ℕ) (g : ℕ) → g < l.at.faces → sets (sets w 0 (keys_of l t g)) (get_or t (l.rows + g) 0) (key g) ≡ sets w 0 (keys_of l t (g + 1))
  keys_more w g h =
      sym (ap (sets w 0) (keys_next g) ∙ sets_append w 0 (keys_of l t g) (key g)
      ∙ ap (λ (k : ℕ). sets (sets w 0 (keys_of l t g)) k (key g)) (zero-add (length (keys_of l t g)) ∙ keys_long g (omega arith)))

  -- the key of face g among all
  pub key_at : (g : ℕ) → g < l.at.faces → region (get_or t (l.rows + g) 0) (get_or t (l.rows + (g + 1)) 0 - get_or t (l.rows + g) 0) (keys_of l t l.at.faces) ≡ key g
  key_at g h =
      let k = l.at.faces - suc g in
      let e : l.at.faces ≡ g + suc k = omega arith in
      let rest = each key (up_from (suc g) k) in
      let split : keys_of l t l.at.faces ≡ keys_of l t g ++ (key g ++ rest) =
      ap (keys_of l t) e ∙ ap (each key) (up_from_split 0 g k ∙ ap (λ (j : ℕ). up_from 0 g ++ (j ∷ up_from (suc j) k)) (zero-add g)) ∙ each_append key (up_from 0 g) (g ∷ up_from (suc g) k) in
      let n = get_or t (l.rows + (g + 1)) 0 - get_or t (l.rows + g) 0 in
      ap (region (get_or t (l.rows + g) 0) n) split
      ∙ ap (take n) (drop_at (keys_of l t g) (key g ++ rest) (get_or t (l.rows + g) 0) (keys_long g (omega arith)))
      ∙ take_at (key g) rest n (key_long g h)
