-- Faces counted by the way in which they were sought.
use Prim.Native.Nat.{ℕ, ◌+◌, ◌≤◌}
use mathlib.Core.Path.{◌≡◌, ap₂, subst}
use mathlib.Core.Bool.{Bool, true, false}
use native.Mathlib.Omega.{arith}
use Rattle.seek.specs.Ways.{tally_of}
use Rattle.seek.specs.Candidates.{TalliedMore, Tallied}
use Rattle.seek.specs.declared.Tally.{Tally}

-- none more
pub tallied_none : (by : Bool) (t : Tally) → TalliedMore by 0 t t
tallied_none true t = record { nodes = omega arith; triples = omega arith }
tallied_none false t = record { nodes = omega arith; triples = omega arith }

-- a more, and then b more
pub tallied_then : (by : Bool) (a b n : ℕ) (t r s : Tally) → n ≡ a + b → TalliedMore by a t r → TalliedMore by b r s → TalliedMore by n t s
tallied_then true a b n t r s e p q =
    record { nodes = omega (arith, e, p.nodes, q.nodes); triples = omega (arith, p.triples, q.triples) }
tallied_then false a b n t r s e p q =
    record { nodes = omega (arith, p.nodes, q.nodes); triples = omega (arith, e, p.triples, q.triples) }

-- no count goes up by more
pub tallied_most : (by : Bool) (n : ℕ) (t r : Tally) → TalliedMore by n t r → (r.nodes ≤ t.nodes + n) × (r.triples ≤ t.triples + n)
tallied_most true n t r p = (omega (arith, p.nodes), omega (arith, p.triples))
tallied_most false n t r p = (omega (arith, p.nodes), omega (arith, p.triples))

-- the same way and number, otherwise said
pub tallied_as : {by by' : Bool} {n n' : ℕ} {t r : Tally} → by ≡ by' → n ≡ n' → TalliedMore by n t r → TalliedMore by' n' t r
tallied_as {by} {by'} {n} {n'} {t} {r} p q x =
    subst (λ (b : Bool). TalliedMore b n' t r) p (subst (λ (k : ℕ). TalliedMore by k t r) q x)

-- no face was sought
pub tallied_zero : (by : Bool) {n : ℕ} → n ≡ 0 → (t : Tally) → t.nodes ≡ 0 → t.triples ≡ 0 → Tallied by n t
tallied_zero true e t p q = record { nodes = omega (arith, e, p); triples = omega (arith, q) }
tallied_zero false e t p q = record { nodes = omega (arith, p); triples = omega (arith, e, q) }

-- the tally of n faces is the definition's
pub tally_is : (by : Bool) (n : ℕ) (t : Tally) → Tallied by n t → t ≡ tally_of by n
tally_is true n t p = ap₂ (λ (x y : ℕ). record { nodes = x; triples = y }) (omega (arith, p.nodes)) (omega (arith, p.triples))
tally_is false n t p = ap₂ (λ (x y : ℕ). record { nodes = x; triples = y }) (omega (arith, p.nodes)) (omega (arith, p.triples))
