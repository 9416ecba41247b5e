-- A search writes from `found` on: what it reads stays.
use Prim.Native.Nat.{ℕ, ◌≤◌}
use mathlib.Core.Path.{◌≡◌, sym, ap, subst}
use mathlib.Core.Bool.{true}
use mathlib.Core.List.{List, []}
use native.Mathlib.Omega.{arith}
use lib.ListN.{length}
use lib.Seq.{sets, length-sets, take-take}
use Rattle.laws.specs.Lists.{up_from}
use Rattle.laws.proofs.ListLaws.{keep-length, length-up_from}
use Rattle.laws.proofs.Stores.{take_before}
use Rattle.index.specs.declared.Places.{Places}
use Rattle.index.specs.Faces.{input, base, cell_of, bow_of, Indexed}
use Rattle.seek.specs.Candidates.{shares, candidates, Ready, Sought}
use Rattle.seek.specs.Steps.{up_to}
use Rattle.seek.proofs.Condition.{barred}

-- what a search reads
pub base_same : (p : Places) (w xs : List ℕ) → base p (sets w p.found xs) ≡ base p w
base_same p w xs = take_before p.found w p.found xs (omega arith)

-- holds the input
pub input_base : (p : Places) (w : List ℕ) → p.offsets ≤ p.found → input p (base p w) ≡ input p w
input_base p w h = take-take p.offsets p.found w h

-- which stays
pub input_same : (p : Places) (w xs : List ℕ) → p.offsets ≤ p.found → input p (sets w p.found xs) ≡ input p w
input_same p w xs h = take_before p.offsets w p.found xs h

-- so another search can follow
pub ready_same : (p : Places) (lo : ℕ) (w xs : List ℕ) → Ready p lo w → Ready p lo (sets w p.found xs)
ready_same p lo w xs r = record {
  indexed = subst (Indexed p) (sym (base_same p w xs)) r.indexed;
  below = r.below;
  face = r.face;
  room = omega (arith, r.room, length-sets w p.found xs);
}

-- there are at most g candidates below g
pub up_to-length : (p : Places) (t : List ℕ) (lo g : ℕ) → length (up_to p t lo g) ≤ g
up_to-length p t lo g = omega (arith, keep-length (shares p t lo) (up_from 0 g), length-up_from 0 g)

-- nothing is sought where lo's cell is a bow-tie
pub none_sought : (p : Places) (lo : ℕ) (w : List ℕ) → Ready p lo w → bow_of p (input p (base p w)) (cell_of p (input p (base p w)) lo) ≡ true → Sought p lo w w 0
none_sought p lo w r h =
    let e : candidates p (input p w) lo ≡ [] = barred p (input p w) lo (subst (λ (t : List ℕ). bow_of p t (cell_of p t lo) ≡ true) (input_base p w r.below) h) in
    record { number = sym (ap length e); filled = sym (ap (sets w p.found) e) }
