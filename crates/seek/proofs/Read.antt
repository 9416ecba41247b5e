-- The places of the runs, from an index that holds.
use Prim.Native.Nat.{ℕ, suc, ◌+◌, ◌<◌}
use mathlib.Core.Path.{◌≡◌, refl, ap, ap₂, ◌∙◌}
use mathlib.Core.List.{List, [], ◌∷◌, map}
use native.Mathlib.Omega.{arith}
use lib.ListN.{length, get_or}
use Rattle.counting.specs.Counts.{below}
use Rattle.index.specs.declared.Places.{Places}
use Rattle.index.specs.Faces.{input, nodes_of, words_of, Indexed}
use Rattle.index.proofs.Read.{node_low, long}

-- two functions that agree on the elements
map_cong : (f g : ℕ → ℕ) (l : List ℕ) → ((i : ℕ) → i < length l → f (get_or l i 0) ≡ g (get_or l i 0)) → map f l ≡ map g l
map_cong f g [] h = refl
map_cong f g (x ∷ l) h = ap₂ (λ (a : ℕ) (r : List ℕ). a ∷ r) (h 0 (omega arith)) (map_cong f g l (λ i b. h (suc i) (omega arith)))

module _ (p : Places) (b : List ℕ) (ix : Indexed p b) (lo : ℕ) (h : lo < p.faces) where
  abbrev S : List ℕ
  S = words_of p (input p b)

  abbrev ns : List ℕ
  ns = nodes_of p (input p b) lo

  -- a node's offset and the next lie within the slice
  pub slot_low : (i : ℕ) → i < length ns → p.offsets + get_or ns i 0 + 1 < length b
  slot_low i l = omega (arith, node_low p b ix lo i h l, long p b ix)

  -- where the lists of the nodes start
  pub starts : map (λ n. p.index + get_or b (p.offsets + n) 0) ns ≡ map (λ n. p.index + below n S) ns
  starts =
      map_cong (λ n. p.index + get_or b (p.offsets + n) 0) (λ n. p.index + below n S) ns
      (λ i l. ap (λ (x : ℕ). p.index + x) (ix.offset (get_or ns i 0) (omega (arith, node_low p b ix lo i h l))))

  -- and where they end
  pub ends : map (λ n. p.index + get_or b (p.offsets + n + 1) 0) ns ≡ map (λ n. p.index + below (n + 1) S) ns
  ends =
      map_cong (λ n. p.index + get_or b (p.offsets + n + 1) 0) (λ n. p.index + below (n + 1) S) ns
      (λ i l. let n : ℕ = get_or ns i 0 in
      let e : p.offsets + n + 1 ≡ p.offsets + (n + 1) = omega arith in
      ap (λ (k : ℕ). p.index + get_or b k 0) e ∙ ap (λ (x : ℕ). p.index + x) (ix.offset (n + 1) (omega (arith, node_low p b ix lo i h l))))
