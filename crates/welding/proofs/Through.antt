-- Words through the welded map.
use Prim.Native.Nat.{ℕ, ◌+◌, ◌-◌, ◌<◌}
use mathlib.Core.Path.{◌≡◌, sym, ap, ap₂, ◌∙◌}
use mathlib.Core.List.{List, map}
use native.Mathlib.Omega.{arith}
use lib.ListN.{length, get_or, set, take, drop, length-map, get_or-map}
use lib.Seq.{sets}
use Rattle.laws.specs.Merging.{region}
use Rattle.laws.proofs.ListLaws.{get_or_any}
use Rattle.laws.proofs.Stores.{sets_more}

-- the n words of w from o on, as a slice is taken
pub slice_region : (w : List ℕ) (o n : ℕ) → take (o + n - o) (drop o w) ≡ region o n w
slice_region w o n = let e : o + n - o ≡ n = omega arith in ap (λ (k : ℕ). take k (drop o w)) e

-- one word more is put through f
pub map_more : (f : ℕ → ℕ) (out₀ out words : List ℕ) (o i v : ℕ) → out ≡ sets out₀ o (take i (map f words)) → i < length words → v ≡ f (get_or words i 0)
    → set out (o + i) v ≡ sets out₀ o (take (i + 1) (map f words))
map_more f out₀ out words o i v e h q =
    let long : i < length (map f words) = omega (arith, length-map words f) in
    let value : v ≡ get_or (map f words) i 0 = q ∙ sym (get_or-map f words i 0) ∙ get_or_any (map f words) i (f 0) 0 long in
    ap₂ (λ (l : List ℕ) (x : ℕ). set l (o + i) x) e value ∙ sets_more out₀ o (map f words) i 0 long
