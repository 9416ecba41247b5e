-- The rings of a cell and of all cells noted one by one.
use Prim.Native.Nat.{ℕ, suc, ◌+◌, ◌≤◌}
use mathlib.Core.Path.{◌≡◌, refl, ◌∙◌, subst}
use mathlib.Core.Logic.{◌⊎◌, inl, inr}
use mathlib.Core.Bool.{true, false}
use mathlib.Core.List.{List, [], ◌∷◌, ◌++◌}
use native.Mathlib.Numerals.{add-one}
use native.Mathlib.Omega.{arith}
use lib.Dec.{leb}
use lib.ListN.{length, length-append}
use Rattle.laws.specs.Lists.{each, sort, eql}
use Rattle.std.proofs.lemmas.Bool.{cases_Bool}
use Rattle.mesh.specs.Model.{Raw}
use Rattle.mesh.specs.Rings.{rings_of}
use Rattle.rings.proofs.Putting.{Putting, putting_start, putting_next}
use Rattle.owners.specs.Holding.{holders, held}
use Rattle.owners.specs.Noted.{Noted}
use Rattle.owners.specs.declared.Holders.{Holders}

-- no more cells are noted than there are rings
pub holders_few : (key : List ℕ) (cell : ℕ) (rs : List (List ℕ)) → length (holders key cell rs) ≤ length rs
holders_few key cell [] = omega arith
holders_few key cell (r ∷ rs) = go (cases_Bool (eql key (sort leb r))) (holders_few key cell rs)
  where
    go : (eql key (sort leb r) ≡ true) ⊎ (eql key (sort leb r) ≡ false) → length (holders key cell rs) ≤ length rs → length (holders key cell (r ∷ rs)) ≤ suc (length rs)
    go (inl e) ih = rw e (omega arith)
    go (inr e) ih = rw e (omega arith)

-- the same of cells
pub held_few : (key : List ℕ) (i : ℕ) (cs : List Raw) → length (held key i cs) ≤ length (each rings_of cs)
held_few key i [] = omega arith
held_few key i (c ∷ cs) =
    omega (
      arith,
      length-append (holders key i (rings_of c)) (held key (suc i) cs),
      length-append (rings_of c) (each rings_of cs),
      holders_few key i (rings_of c),
      held_few key (suc i) cs,
    )

-- what is noted behind those of s₀, with what is left, is all
pub record Noting (s₀ s : Holders) (all rest : List ℕ) : Type 0 where
  pub same_reference : s.owners.ghost_name ≡ s₀.owners.ghost_name
  pub same_key : s.key.now ≡ s₀.key.now
  pub putting : Putting s₀.owners.now s.owners.now s₀.count s.count all rest

pub noting_start : (s : Holders) (all rest : List ℕ) → rest ≡ all → Noting s s all rest
noting_start s all rest e = record { same_reference = refl; same_key = refl; putting = putting_start s.owners.now s.count all rest e }

-- some more are noted, by the key that s has
pub noting_next : {s₀ s : Holders} {all rest : List ℕ} → Noting s₀ s all rest → (now : List ℕ → List ℕ) (later : List ℕ) (s' : Holders) → rest ≡ now s₀.key.now ++ later → Noted (now s.key.now) s s' → Noting s₀ s' all later
noting_next {s = s} p now later s' is q =
    let n = subst (λ (k : List ℕ). Noted (now k) s s') p.same_key q in
    record {
      same_reference = q.same_reference ∙ p.same_reference;
      same_key = q.same_key ∙ p.same_key;
      putting = putting_next p.putting (now _) later is s'.owners.now s'.count n.put;
    }

-- the next cell's, and those behind them
pub held_next : (key : List ℕ) (i k j : ℕ) (c : Raw) (cs rest : List Raw) → rest ≡ c ∷ cs → i ≡ k → j ≡ k + 1 → held key k rest ≡ holders key i (rings_of c) ++ held key j cs
held_next key i k j c cs rest is e f = rw (is, e, f, add-one k)
