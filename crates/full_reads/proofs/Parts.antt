-- What stands in front of a list after its end was read into.
use Prim.Native.Nat.{ℕ, ◌+◌, ◌≤◌}
use mathlib.Core.Path.{◌≡◌, sym, ap, ◌∙◌}
use mathlib.Core.List.{List, ◌++◌}
use native.Mathlib.Omega.{arith}
use lib.ListN.{length, take, length-take}
use lib.Seq.{take-append-le, take-append-add}

-- the first `done` of a list, and the first n of what stands behind them now
pub front : (buf part rest : List ℕ) (done n : ℕ) → done ≤ length buf → n ≤ length part → take (done + n) (take done buf ++ (part ++ rest)) ≡ take done buf ++ take n part
front buf part rest done n h k =
    let e : length (take done buf) ≡ done = omega (arith, length-take done buf, h) in
    ap (λ (i : ℕ). take (i + n) (take done buf ++ (part ++ rest))) (sym e) ∙ take-append-add (take done buf) (part ++ rest) n
    ∙ ap (λ (l : List ℕ). take done buf ++ l) (take-append-le n part rest k)
