-- Cells in the lists of kinds, ends and words: that none is wrong, and where one stands.
use Prim.Native.Nat.{ℕ, suc, ◌+◌, ◌-◌, ◌≤◌, ◌<◌}
use mathlib.Core.Path.{◌≡◌, refl, sym, ap, ◌∙◌, subst}
use mathlib.Core.Bool.{false}
use mathlib.Core.List.{List, [], ◌∷◌, ◌++◌}
use native.Mathlib.Omega.{arith}
use borrow.Author.Tests.{ltb-false}
use lib.Dec.{ltb}
use lib.ListN.{length, get_or, take, drop, length-append, length-drop}
use lib.Seq.{drop-drop, length-take-le}
use Rattle.laws.specs.Lists.{any}
use Rattle.std.proofs.lemmas.Bool.{or_parts}
use Rattle.mesh.specs.Model.{Raw, cells_from}
use Rattle.mesh.specs.Acceptance.{ends_off}
use Rattle.mesh.specs.Steps.{cell_with, is_ill, WellCells}
use Rattle.mesh.proofs.Ends.{ends_most}
use Rattle.mesh.proofs.CellTallies.{words_in}

-- of cells that are right none is wrong
pub none_ill : (cs : List Raw) → WellCells cs → any is_ill cs ≡ false
none_ill [] w = refl
none_ill (c ∷ cs) w = rw (w.0.kind, w.0.count) (none_ill cs w.1)

-- cell n, whose words begin at a place
pub record Stands (kinds words : List ℕ) (n from : ℕ) (c : Raw) : Type 0 where
  pub counted : n < length kinds
  pub within : from + length c.words ≤ length words
  pub is : cell_with (get_or kinds n 0) (take (length c.words) (drop from words)) ≡ c

-- the first cell
first_stands : (k n : ℕ) (ks ws : List ℕ) (c : Raw) → n ≤ length ws → c ≡ cell_with k (take n ws) → Stands (k ∷ ks) ws 0 0 c
first_stands k n ks ws c h e =
    let l : length c.words ≡ n = ap (λ (x : Raw). length x.words) e ∙ length-take-le n ws h in
    record { counted = omega arith; within = omega (arith, l); is = ap (λ (j : ℕ). cell_with k (take j ws)) l ∙ sym e }

-- a cell behind it
later_stands : (k n : ℕ) (ks ws : List ℕ) (m from : ℕ) (c : Raw) → n ≤ length ws → Stands ks (drop n ws) m from c → Stands (k ∷ ks) ws (suc m) (n + from) c
later_stands k n ks ws m from c h s =
    record {
      counted = omega (arith, s.counted);
      within = omega (arith, s.within, length-drop n ws);
      is = ap (λ (l : List ℕ). cell_with (get_or ks m 0) (take (length c.words) l)) (sym (drop-drop from n ws)) ∙ s.is;
    }

-- the cell behind others
pub stands : (at : ℕ) (ks es ws : List ℕ) (before behind : List Raw) (c : Raw) → length ks ≡ length es → ends_off at es (at + length ws) ≡ false
    → before ++ c ∷ behind ≡ cells_from at ks es ws → Stands ks ws (length before) (length (words_in before)) c
stands at [] es ws before behind c l o e = absurd (omega (arith, ap length e, length-append before (c ∷ behind)))
stands at (k ∷ ks) [] ws before behind c l o e = absurd (omega arith)
stands at (k ∷ ks) (x ∷ es) ws [] behind c l o e =
    let p = or_parts (ltb x at) (ends_off x es (at + length ws)) o in
    first_stands k (x - at) ks ws c (omega (arith, ends_most x es (at + length ws) p.1)) (ap (λ (r : List Raw). get_or r 0 c) e)
stands at (k ∷ ks) (x ∷ es) ws (b ∷ bs) behind c l o e =
    let p = or_parts (ltb x at) (ends_off x es (at + length ws)) o in
    let fits : x - at ≤ length ws = omega (arith, ends_most x es (at + length ws) p.1) in
    let size : length b.words ≡ x - at = ap (λ (r : List Raw). length (get_or r 0 c).words) e ∙ length-take-le (x - at) ws fits in
    let n : at + length ws ≡ x + length (drop (x - at) ws) = omega (arith, length-drop (x - at) ws, fits, ltb-false x at p.0) in
    let s = stands x ks es (drop (x - at) ws) bs behind c (omega (arith, l)) (ap (ends_off x es) (sym n) ∙ p.1) (ap (drop 1) e) in
    subst (λ (j : ℕ). Stands (k ∷ ks) ws (suc (length bs)) j c) (omega (arith, size, length-append b.words (words_in bs)))
    (later_stands k (x - at) ks ws (length bs) (length (words_in bs)) c fits s)
