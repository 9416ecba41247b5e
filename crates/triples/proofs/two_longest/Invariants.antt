use Prim.Native.Nat.{◌≤◌, ◌<◌}
use Rattle.triples.proofs.two_longest.Given as goal

abbrev pub invariant-loop-k : goal.invariant-loop-k
invariant-loop-k l = (l.s ≤ l.t.i) × (l.t.i < l.t.j) × (l.t.j < l.k)
