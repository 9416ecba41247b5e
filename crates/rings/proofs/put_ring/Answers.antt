use Prim.Native.Nat.{ℕ, ◌+◌, ◌<◌}
use mathlib.Core.Path.{sym, ap₂, ◌∙◌}
use mathlib.Core.List.{List, map}
use lib.ListN.{length, get_or, set}
use native.Mathlib.Omega.{arith}
use Rattle.std.proofs.lemmas.List.{length-map, get_or-map}
use Rattle.laws.proofs.Stores.{sets_more}
use Rattle.rings.proofs.put_ring.Goals as goal

pub loop-i-preserved : goal.loop-i-preserved
loop-i-preserved g c =
    let a = c.args in
    let l = c.loop-i in
    let f : ℕ → ℕ = λ p. get_or a.words.now p 0 in
    let h : l.i < length a.places.now = omega arith in
    let k : l.i < length (map f a.places.now) = omega (arith, length-map a.places.now f) in
    ap₂ (λ (v : List ℕ) (x : ℕ). set v (a.at + l.i) x) l.invariant (sym (get_or-map f a.places.now l.i 0 0 h)) ∙ sets_more a.out.now a.at (map f a.places.now) l.i 0 k
