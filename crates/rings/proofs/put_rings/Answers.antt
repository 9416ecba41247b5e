use Prim.Native.Nat.{ℕ, ◌+◌, ◌<◌}
use mathlib.Core.Path.{◌≡◌}
use mathlib.Core.List.{[], ◌++◌, map}
use native.Mathlib.Numerals.{add-one}
use native.Mathlib.Omega.{arith}
use lib.ListN.{length, get_or, drop}
use lib.Seq.{drop-cons}
use Rattle.mesh.specs.Rings.{at}
use Rattle.rings.proofs.Putting.{flat, putting_next}
use Rattle.rings.proofs.put_rings.Goals as goal

pub loop-ring-preserved : goal.loop-ring-preserved
loop-ring-preserved g c =
    let a = c.args in
    let l = c.loop-ring in
    let i = l.ring-index in
    let ws = a.words.now in
    let h : i < length a.table = omega arith in
    let is : flat (at ws (drop i a.table)) ≡ map (λ (p : ℕ). get_or ws p 0) (get_or a.table i []) ++ flat (at ws (drop (i + 1) a.table)) = rw (drop-cons a.table i [] h, add-one i) in
    putting_next l.invariant _ _ is _ _ c.put_ring-k.ensures
