-- The words of the cells, one cell after the other.
use Prim.Native.Nat.{ℕ, zero, suc, ◌+◌, ◌≤◌, ◌<◌}
use mathlib.Core.Path.{◌≡◌, sym, ap, ◌∙◌}
use mathlib.Core.List.{List, [], ◌∷◌}
use native.Mathlib.Omega.{arith}
use native.Mathlib.Nat.{add-zero}
use lib.ListN.{length, get_or, drop, length-drop, length-append}
use lib.Seq.{get_or-drop, drop-drop}
use Rattle.laws.specs.Lists.{each}
use Rattle.mesh.specs.Model.{Raw}
use Rattle.findings.specs.Compared.{none}

-- left are the cells from place c on
pub record LeftAt (cs left : List Raw) (c : ℕ) : Type 0 where
  pub place : c ≤ length cs
  pub rest : left ≡ drop c cs

pub all_left : (cs left : List Raw) (c : ℕ) → c ≡ 0 → left ≡ cs → LeftAt cs left c
all_left cs left c z e = record { place = omega (arith, z); rest = e ∙ sym (ap (λ (i : ℕ). drop i cs) z) }

module _ (cs left : List Raw) (c : ℕ) (p : LeftAt cs left c) where
  -- as many as there are
  count : length left + c ≡ length cs
  count = omega (arith, p.place, ap length p.rest ∙ length-drop c cs)

  -- the next cell is cell c, and one fewer is left
  pub next_left : (x : Raw) (r : List Raw) → left ≡ x ∷ r → (x ≡ get_or cs c none) × LeftAt cs r (c + 1) × (c < length cs)
  next_left x r e =
      let d : drop c cs ≡ x ∷ r = sym p.rest ∙ e in
      let more : c < length cs = omega (arith, count, ap length e) in (
        sym (ap (λ (l : List Raw). get_or l 0 none) d) ∙ get_or-drop c cs 0 none ∙ ap (λ (i : ℕ). get_or cs i none) (add-zero c),
        record { place = omega (arith, more); rest = sym (ap (drop 1) d) ∙ drop-drop 1 c cs },
        more,
      )

  -- where none is left, c is their number
  pub none_left : left ≡ [] → c ≡ length cs
  none_left e = omega (arith, count, ap length e)

-- no cell has more words than all have
pub words_most : (cs : List Raw) (c : ℕ) → c < length cs → length (get_or cs c none).words ≤ length (each (λ (x : Raw). x.words) cs)
words_most [] c h = absurd (omega (arith, h))
words_most (x ∷ cs) zero h = omega (arith, length-append x.words (each (λ (y : Raw). y.words) cs))
words_most (x ∷ cs) (suc c) h = omega (arith, length-append x.words (each (λ (y : Raw). y.words) cs), words_most cs c (omega (arith, h)))
