-- Lists that stand one after the other, with where each starts: read back.
use Prim.Native.Nat.{ℕ, zero, suc, ◌+◌, ◌-◌, ◌≤◌, ◌<◌}
use mathlib.Core.Path.{◌≡◌, refl, sym, ap, ap₂, ◌∙◌}
use mathlib.Core.List.{List, [], ◌∷◌, ◌++◌}
use native.Mathlib.Numerals.{add-one}
use native.Mathlib.Omega.{arith}
use lib.ListN.{length, get_or, take, length-append}
use lib.Seq.{take-append_seam, drop-append-add}
use Rattle.laws.specs.Lists.{each}
use Rattle.laws.specs.Merging.{region, starts_of}
use Rattle.laws.proofs.Stores.{region-region, get_or-region}

module _ {A : Type 0} where
  -- lists one after the other
  abbrev pub joined : List (List A) → List A
  joined rs = each (λ r. r) rs

  -- one start for each list, and the end
  pub starts_length : (k : ℕ) (rs : List (List A)) → length (starts_of k rs) ≡ length rs + 1
  starts_length k [] = refl
  starts_length k (r ∷ rs) = omega (arith, starts_length (k + length r) rs)

  -- the same of lists from k on
  starts_from : (k : ℕ) (rs : List (List A)) (g : ℕ) → g ≤ length rs → get_or (starts_of k rs) g 0 ≡ k + length (joined (take g rs))
  starts_from k [] zero h = omega arith
  starts_from k [] (suc g) h = absurd (omega arith)
  starts_from k (r ∷ rs) zero h = omega arith
  starts_from k (r ∷ rs) (suc g) h = omega (arith, starts_from (k + length r) rs g (omega arith), length-append r (joined (take g rs)))

  -- list g starts behind the lists before it
  pub starts_at : (rs : List (List A)) (g : ℕ) → g ≤ length rs → get_or (starts_of 0 rs) g 0 ≡ length (joined (take g rs))
  starts_at rs g h = omega (arith, starts_from 0 rs g h)

  -- one list more
  pub joined_next : (rs : List (List A)) (g : ℕ) → g < length rs → length (joined (take (g + 1) rs)) ≡ length (joined (take g rs)) + length (get_or rs g [])
  joined_next rs g h = ap (λ (j : ℕ). length (joined (take j rs))) (add-one g) ∙ go rs g h
    where
      go : (rs : List (List A)) (g : ℕ) → g < length rs → length (joined (take (suc g) rs)) ≡ length (joined (take g rs)) + length (get_or rs g [])
      go [] g h = absurd (omega arith)
      go (r ∷ rs) zero h = omega (arith, length-append r [])
      go (r ∷ rs) (suc g) h = omega (arith, go rs g (omega arith), length-append r (joined (take (suc g) rs)), length-append r (joined (take g rs)))

  -- it ends within all
  joined_within : (rs : List (List A)) (g : ℕ) → g < length rs → length (joined (take g rs)) + length (get_or rs g []) ≤ length (joined rs)
  joined_within [] g h = absurd (omega arith)
  joined_within (r ∷ rs) zero h = omega (arith, length-append r (joined rs))
  joined_within (r ∷ rs) (suc g) h = omega (arith, joined_within rs g (omega arith), length-append r (joined rs), length-append r (joined (take g rs)))

  -- list g stands there among all
  joined_part : (rs : List (List A)) (g : ℕ) → g < length rs → region (length (joined (take g rs))) (length (get_or rs g [])) (joined rs) ≡ get_or rs g []
  joined_part [] g h = absurd (omega arith)
  joined_part (r ∷ rs) zero h = take-append_seam r (joined rs)
  joined_part (r ∷ rs) (suc g) h =
      ap (λ (j : ℕ). region j (length (get_or rs g [])) (r ++ joined rs)) (length-append r (joined (take g rs)))
      ∙ ap (take (length (get_or rs g []))) (drop-append-add r (joined rs) (length (joined (take g rs))))
      ∙ joined_part rs g (omega arith)

module _ (rs : List (List ℕ)) (starts words : ℕ) (t : List ℕ) (flat : region words (length (joined rs)) t ≡ joined rs) (begun : region starts (length rs + 1) t ≡ starts_of 0 rs) where
  -- where a row starts
  pub start_read : (g : ℕ) → g ≤ length rs → get_or t (starts + g) 0 ≡ length (joined (take g rs))
  start_read g h = sym (get_or-region starts (length rs + 1) t g 0 (omega arith)) ∙ ap (λ (s : List ℕ). get_or s g 0) begun ∙ starts_at rs g h

  -- a row is its list
  pub row_read : (g : ℕ) → g < length rs → region (words + get_or t (starts + g) 0) (get_or t (starts + (g + 1)) 0 - get_or t (starts + g) 0) t ≡ get_or rs g []
  row_read g h =
      let from = length (joined (take g rs)) in
      let to = length (joined (take (g + 1) rs)) in
      let n = length (get_or rs g []) in
      let size : to - from ≡ n = omega (arith, joined_next rs g h) in
      ap₂ (λ (a b : ℕ). region (words + a) (b - a) t) (start_read g (omega arith)) (start_read (g + 1) (omega arith))
      ∙ ap (λ (k : ℕ). region (words + from) k t) size
      ∙ sym (region-region from n words (length (joined rs)) t (joined_within rs g h))
      ∙ ap (region from n) flat
      ∙ joined_part rs g h
