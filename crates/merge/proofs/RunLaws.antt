-- What is left of a run, one word at a time.
use Prim.Native.Nat.{ℕ, suc, ◌+◌, ◌-◌, ◌≤◌, ◌<◌}
use mathlib.Core.Path.{◌≡◌, sym, ap, ap₂, ◌∙◌}
use mathlib.Core.List.{List, [], ◌∷◌}
use native.Mathlib.Numerals.{add-one}
use native.Mathlib.Omega.{arith}
use lib.ListN.{length, get_or, take, drop}
use lib.Seq.{drop-cons}
use Rattle.merge.specs.Runs.{rest}

-- a run begins with the word at its place
pub rest_cons : (i e : ℕ) (b : List ℕ) → i < e → e ≤ length b → rest i e b ≡ get_or b i 0 ∷ rest (i + 1) e b
rest_cons i e b h k =
    let s : e - i ≡ suc (e - (i + 1)) = omega arith in
    ap₂ (λ (m : ℕ) (l : List ℕ). take m l) s (drop-cons b i 0 (omega arith) ∙ ap (λ (j : ℕ). get_or b i 0 ∷ drop j b) (sym (add-one i)))

-- nothing is left of it at its end
pub rest_none : (i e : ℕ) (b : List ℕ) → e ≤ i → rest i e b ≡ []
rest_none i e b h = let s : e - i ≡ 0 = omega arith in ap (λ (m : ℕ). take m (drop i b)) s
