-- Words of the tables, read from the whole slice.
use Prim.Native.Nat.{ℕ, zero, suc, ◌+◌, ◌-◌, ◌≤◌, ◌<◌}
use mathlib.Core.Path.{◌≡◌, sym, ap, ap₂, ◌∙◌}
use mathlib.Core.List.{List}
use native.Mathlib.Omega.{arith}
use lib.ListN.{length, get_or, take, length-take}
use lib.Seq.{get_or-take}
use Rattle.laws.specs.Merging.{region}
use Rattle.laws.proofs.Stores.{region-take}
use Rattle.index.specs.Faces.{input}
use Rattle.layout.specs.declared.Layout.{Layout}
use Rattle.layout.specs.Tables.{row_of, first_of, Faced}

-- a row of lists among the first n words, which starts at a and ends at e, counted from `words`
pub row_there : (starts words n g a e : ℕ) (w : List ℕ) → a ≡ get_or (take n w) (starts + g) 0 → e ≡ get_or (take n w) (starts + (g + 1)) 0
    → a ≤ e → words + e ≤ n → region (words + a) (words + e - (words + a)) w ≡ row_of starts words (take n w) g
row_there starts words n g a e w from to rise room =
    let apart : words + e - (words + a) ≡ e - a = omega (arith, rise) in
    ap (λ (k : ℕ). region (words + a) k w) apart
    ∙ sym (region-take (words + a) (e - a) n w (omega (arith, rise, room)))
    ∙ ap₂ (λ (x y : ℕ). region (words + x) (y - x) (take n w)) from to

module _ (l : Layout) (w : List ℕ) (f : Faced l (input l.at w)) where
  -- the slice holds all words of the tables
  pub tables_in : l.at.offsets ≤ length w
  tables_in = omega (arith, f.laid.whole, length-take l.at.offsets w)

  -- a word of the tables is the slice's
  pub word_is : (i : ℕ) → i < l.at.offsets → get_or w i 0 ≡ get_or (input l.at w) i 0
  word_is i h = sym (get_or-take l.at.offsets w i 0 h)

  -- no face number among `firsts` is past all faces
  pub first_most : (c : ℕ) → c ≤ l.at.cell_count → first_of l (input l.at w) c ≤ l.at.faces
  first_most c h = go (l.at.cell_count - c) c (omega (arith, h))
    where
      go : (k d : ℕ) → d + k ≡ l.at.cell_count → first_of l (input l.at w) d ≤ l.at.faces
      go zero d e = let z : d ≡ l.at.cell_count = omega (arith, e) in let q = ap (first_of l (input l.at w)) z ∙ f.first_last in omega (arith, q)
      go (suc k) d e = omega (arith, f.first_rising d (omega (arith, e)), go k (d + 1) (omega (arith, e)))
