use Prim.Native.Nat.{◌+◌}
use mathlib.Core.Path.{◌≡◌}
use mathlib.Core.List.{map}
use lib.ListN.{length, get_or, take, replicate}
use lib.Seq.{sets}
use Rattle.merge.proofs.Runs.open.Given as goal

-- the first i runs are open
abbrev pub invariant-loop-i : goal.invariant-loop-i
invariant-loop-i l =
    (l.runs.count ≡ length l.list)
    × (l.runs.from ≡ sets (replicate 64 0) 0 (take l.i (map (λ n. l.x + get_or l.base (l.o + n) 0) l.list)))
    × (l.runs.to ≡ sets (replicate 64 0) 0 (take l.i (map (λ n. l.x + get_or l.base (l.o + n + 1) 0) l.list)))
