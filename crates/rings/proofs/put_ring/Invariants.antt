use Prim.Native.Nat.{ℕ}
use mathlib.Core.Path.{◌≡◌}
use mathlib.Core.List.{map}
use lib.ListN.{get_or, take}
use lib.Seq.{sets}
use Rattle.rings.proofs.put_ring.Given as goal

abbrev pub invariant-loop-i : goal.invariant-loop-i
invariant-loop-i g l = l.out ≡ sets l.initial.out l.at (take l.i (map (λ (p : ℕ). get_or l.words p 0) l.places))
