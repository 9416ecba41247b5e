-- `merge::Runs::pass` meets its contract. The first i runs are passed: their places are stored, the others as before.
use Prim.Native.Nat.{ℕ, ◌+◌, ◌≤◌}
use mathlib.Core.Path.{◌≡◌, refl, sym, ap, ◌∙◌}
use mathlib.Core.List.{List, [], ◌∷◌, ◌++◌, map, map-append}
use mathlib.Core.Bool.{Bool, true, false, cond}
use native.Mathlib.Omega.{arith}
use native.Mathlib.Numerals.{add-one}
use native.Mathlib.Nat.{zero-add}
use lib.ListN.{length, get_or, set, length-append}
use lib.Seq.{sets}
use lib.Dec.{eqb}
use Rattle.laws.specs.Lists.{keep, up_from, only_if}
use Rattle.laws.proofs.Stores.{sets_snoc, get_or_after}
use Rattle.laws.proofs.ListLaws.{up_from_snoc, keep_append, keep-length, length-up_from}
use Rattle.counting.proofs.CountLaws.{length_numbered}
use mir.Val.{bool_byte}
use Rattle.merge.specs.Runs.{head, stands, next}
use Rattle.merge.proofs.Runs.pass.Goals as goal

-- at most one
one_le : (b : Bool) → bool_byte b ≤ 1
one_le true = omega arith
one_le false = omega arith

-- a test counted
one_is : (b : Bool) (i : ℕ) → length (only_if b (i ∷ []) ++ []) ≡ bool_byte b
one_is true i = refl
one_is false i = refl

-- one number more
up_to : (i : ℕ) → up_from 0 (i + 1) ≡ up_from 0 i ++ (i ∷ [])
up_to i = ap (up_from 0) (add-one i) ∙ up_from_snoc 0 i ∙ ap (λ (j : ℕ). up_from 0 i ++ (j ∷ [])) (zero-add i)

-- one test more
counted : (q : ℕ → Bool) (i : ℕ) → length (keep q (up_from 0 (i + 1))) ≡ length (keep q (up_from 0 i)) + bool_byte (q i)
counted q i =
    ap (λ (l : List ℕ). length (keep q l)) (up_to i) ∙ ap length (keep_append q (up_from 0 i) (i ∷ []))
    ∙ length-append (keep q (up_from 0 i)) (keep q (i ∷ [])) ∙ ap (λ (k : ℕ). length (keep q (up_from 0 i)) + k) (one_is (q i) i)

module _ (base from₀ to : List ℕ) (g i : ℕ) (from : List ℕ) (e : from ≡ sets from₀ 0 (map (next base from₀ to g) (up_from 0 i))) where
  -- the place of run i is not yet moved
  there : get_or from i 0 ≡ get_or from₀ i 0
  there =
      ap (λ (l : List ℕ). get_or l i 0) e
      ∙ get_or_after from₀ 0 (map (next base from₀ to g) (up_from 0 i)) i 0 (omega (arith, length_numbered (next base from₀ to g) i))

  -- so it stands as at the start
  stands_same : stands base from to g i ≡ stands base from₀ to g i
  stands_same = ap (λ (x : ℕ). eqb (head (g + 1) x (get_or to i 0) base) g) there

  -- and goes on likewise
  next_same : next base from to g i ≡ next base from₀ to g i
  next_same = ap (λ (x : ℕ). cond (eqb (head (g + 1) x (get_or to i 0) base) g) (x + 1) x) there

  -- its place is stored
  stored : set from i (next base from to g i) ≡ sets from₀ 0 (map (next base from₀ to g) (up_from 0 (i + 1)))
  stored =
      let f : ℕ → ℕ = next base from₀ to g in
      let long : i ≡ 0 + length (map f (up_from 0 i)) = omega (arith, length_numbered f i) in
      ap (set from i) next_same ∙ ap (λ (l : List ℕ). set l i (f i)) e ∙ ap (λ (j : ℕ). set (sets from₀ 0 (map f (up_from 0 i))) j (f i)) long
      ∙ sym (sets_snoc from₀ 0 (map f (up_from 0 i)) (f i))
      ∙ ap (sets from₀ 0) (sym (map-append f (up_from 0 i) (i ∷ [])) ∙ ap (map f) (sym (up_to i)))

pub overflow_add-n : goal.overflow_add-n
overflow_add-n c =
    let a = c.args in
    let l = c.loop-i in
    omega (arith, c.requires.ends.0, l.invariant.0, keep-length (stands a.base.now a.self.now.from a.self.now.to a.g) (up_from 0 l.i), length-up_from 0 l.i, one_le c.pass_one.result)

pub loop-i-preserved : goal.loop-i-preserved
loop-i-preserved c =
    let b = c.args.base.now in
    let r = c.args.self.now in
    let g = c.args.g in
    let l = c.loop-i in
    let p = c.pass_one.ensures in
    let here = l.invariant.3 in (
      ap (λ (m : ℕ). m + c.from-n.result) l.invariant.0
          ∙ ap (λ (m : ℕ). length (keep (stands b r.from r.to g) (up_from 0 l.i)) + m)
          (c.from-n.ensures ∙ ap bool_byte (p.value ∙ ap (λ (t : List ℕ). stands b l.self.from t g l.i) here ∙ stands_same b r.from r.to g l.i l.self.from l.invariant.1))
          ∙ sym (counted (stands b r.from r.to g) l.i),
      p.from ∙ ap (λ (t : List ℕ). set l.self.from l.i (next b l.self.from t g l.i)) here ∙ stored b r.from r.to g l.i l.self.from l.invariant.1,
      p.others.0 ∙ l.invariant.2,
      p.others.1 ∙ here,
    )
