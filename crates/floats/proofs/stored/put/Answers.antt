-- `floats::stored::put` meets its contract: the bytes, which the slice takes in one piece.
use Prim.Native.Nat.{ℕ, ◌+◌, ◌-◌}
use mathlib.Core.Path.{◌≡◌, sym, ap, ◌∙◌}
use mathlib.Core.List.{List, ◌++◌}
use native.Mathlib.Omega.{arith}
use lib.ListN.{length, take, drop, length-drop}
use lib.Seq.{length-take-le}
use Rattle.laws.proofs.Stores.{lent_sets}
use Rattle.floats.proofs.stored.put.Goals as goal

pub returns : goal.returns
returns g c =
    let a = c.args in
    let out = a.out.now in
    let n = g.row.N in
    let part = length-take-le (a.at + n - a.at) (drop a.at out) (omega (arith, length-drop a.at out, c.requires)) in
    let long : length (g.T.Stored.bytes_of a.x) ≡ n = sym (ap length (c.copy_from_slice.ensures.after ∙ c.to_bytes.ensures)) ∙ c.copy_from_slice.ensures.len ∙ part ∙ omega arith in
    ap (λ (x : List ℕ). take a.at out ++ (x ++ drop (a.at + n - a.at) (drop a.at out))) (c.copy_from_slice.ensures.after ∙ c.to_bytes.ensures)
    ∙ lent_sets n out (g.T.Stored.bytes_of a.x) a.at long c.requires
