-- Starts are the running sums of lengths, put over these.
use Prim.Native.Nat.{ℕ, suc, ◌+◌, ◌-◌, ◌≤◌, ◌<◌, ◌^◌}
use mathlib.Core.Path.{◌≡◌, refl, sym, ap, ap₂, ◌∙◌}
use mathlib.Core.List.{List, [], ◌∷◌, map}
use native.Mathlib.Omega.{arith}
use lib.ListN.{length, get_or, set, length-append, length-set, length-map}
use lib.Seq.{sets, length-sets, get_or-set_same}
use Rattle.laws.specs.Lists.{each, sum}
use Rattle.laws.specs.Merging.{region, starts_of}
use Rattle.laws.proofs.Stores.{get_or_before, region_same, sets_over}
use Rattle.mesh.specs.Steps.{ring_total}
use Rattle.rings.specs.Put.{WordsPut}
use Rattle.counting.specs.Counts.{sums}
use Rattle.counting.proofs.CountLaws.{length_sums}

-- where lists start is the running sum of their lengths
starts_sums : (k : ℕ) (rs : List (List ℕ)) → starts_of k rs ≡ k ∷ sums k (map length rs)
starts_sums k [] = refl
starts_sums k (r ∷ rs) = ap (λ (l : List ℕ). k ∷ l) (starts_sums (k + length r) rs)

-- their sum is the number of all words
lengths_sum : (rs : List (List ℕ)) → sum (map length rs) ≡ ring_total rs
lengths_sum [] = refl
lengths_sum (r ∷ rs) = omega (arith, lengths_sum rs, length-append r (each (λ (l : List ℕ). l) rs))

module _ (rs : List (List ℕ)) (few : ring_total rs < 4294967296) (w₀ w₁ : List ℕ) (at end : ℕ) (room : at + (length rs + 1) ≤ length w₀) (noted : WordsPut (map length rs) (set w₀ at 0) w₁ (at + 1) end) where
  -- the lengths of all rings
  abbrev ls : List ℕ
  ls = map length rs

  -- as many lengths as rings
  many : length ls ≡ length rs
  many = length-map rs length

  -- as many as were put
  size : end - (at + 1) ≡ length ls
  size = omega (arith, noted.0)

  -- a zero stands before them
  zero_before : get_or w₁ (at + 1 - 1) 0 ≡ 0
  zero_before =
      let z : at + 1 - 1 ≡ at = omega arith in
      ap₂ (λ (w : List ℕ) (j : ℕ). get_or w j 0) noted.1 z ∙ get_or_before (set w₀ at 0) (at + 1) ls at 0 (omega arith) ∙ get_or-set_same w₀ at 0 0 (omega arith)

  -- they stand there
  lengths_there : region (at + 1) (end - (at + 1)) w₁ ≡ ls
  lengths_there =
      ap₂ (λ (n : ℕ) (w : List ℕ). region (at + 1) n w) size noted.1
      ∙ region_same (set w₀ at 0) (at + 1) ls (omega (arith, many, length-set w₀ at 0))

  -- what summing them up asks
  pub rows_ask : (0 < at + 1) × (at + 1 + (end - (at + 1)) ≤ length w₁) × (get_or w₁ (at + 1 - 1) 0 + sum (region (at + 1) (end - (at + 1)) w₁) < 2 ^ 32)
  rows_ask = (
    omega arith,
    omega (arith, size, many, ap length noted.1, length-sets (set w₀ at 0) (at + 1) ls, length-set w₀ at 0),
    omega (
      arith,
      zero_before,
      ap sum lengths_there,
      lengths_sum rs,
      few,
    ),
  )

  -- summed up they are the starts
  pub rows_put : (w₂ : List ℕ) → w₂ ≡ sets w₁ (at + 1) (sums (get_or w₁ (at + 1 - 1) 0) (region (at + 1) (end - (at + 1)) w₁)) → w₂ ≡ sets w₀ at (starts_of 0 rs)
  rows_put w₂ is =
      let s : at + 1 ≡ suc at = omega arith in
      is
      ∙ ap₂ (λ (a : ℕ) (l : List ℕ). sets w₁ (at + 1) (sums a l)) zero_before lengths_there
      ∙ ap (λ (w : List ℕ). sets w (at + 1) (sums 0 ls)) noted.1
      ∙ sets_over (set w₀ at 0) (at + 1) ls (sums 0 ls) (omega (arith, length_sums 0 ls))
      ∙ ap (λ (j : ℕ). sets (set w₀ at 0) j (sums 0 ls)) s
      ∙ ap (sets w₀ at) (sym (starts_sums 0 rs))
