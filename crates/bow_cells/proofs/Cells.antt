-- The search for a ring of a cell that meets itself, and the marks of cells.
use Prim.Native.Nat.{ℕ, ◌+◌, ◌<◌}
use mathlib.Core.Path.{◌≡◌, sym, ap, ◌∙◌}
use mathlib.Core.List.{List, map}
use native.Mathlib.Nat.{zero-add}
use native.Mathlib.Omega.{arith}
use lib.ListN.{set, take}
use lib.Seq.{sets}
use Rattle.laws.specs.Lists.{up_from}
use Rattle.laws.proofs.ListLaws.{length-up_from, get_or-up_from}
use Rattle.welding.proofs.Through.{map_more}

-- one mark more
pub mark_more : (f : ℕ → ℕ) (w₀ w : List ℕ) (n c v : ℕ) → w ≡ sets w₀ 0 (take c (map f (up_from 0 n))) → c < n → v ≡ f c
    → set w c v ≡ sets w₀ 0 (take (c + 1) (map f (up_from 0 n)))
mark_more f w₀ w n c v e h q =
    ap (λ (k : ℕ). set w k v) (sym (zero-add c))
    ∙ map_more f w₀ w (up_from 0 n) 0 c v e (omega (arith, length-up_from 0 n)) (q ∙ ap f (sym (get_or-up_from 0 n c 0 h ∙ zero-add c)))
