-- `triples::is_hit` meets its contract. One test after the other.
use Prim.Native.Nat.{ℕ}
use mathlib.Core.Bool.{Bool, not, ◌&&◌, and-false}
use mathlib.Core.List.{List}
use mathlib.Core.Path.{◌≡◌, sym, ap, ap₂, ◌∙◌}
use lib.Dec.{leb}
use lib.ListN.{length}
use Rattle.laws.specs.Lists.{eql}
use Rattle.index.specs.declared.Places.{Places}
use Rattle.index.specs.Faces.{nodes_of}
use Rattle.index.specs.Read.{input_of, set_of}
use Rattle.seek.specs.Candidates.{common, shares}
use Rattle.seek.specs.Steps.{apart, early}
use Rattle.seek.proofs.Condition.{shares_early}
use Rattle.triples.proofs.is_hit.Goals as goal

-- the three tests
three : (p : Places) (t : List ℕ) (lo g : ℕ) → shares p t lo g ≡ ((apart p t lo g && not (eql (nodes_of p t lo) (nodes_of p t g))) && leb 3 (length (common (nodes_of p t lo) (nodes_of p t g))))
unfolding early
three p t lo g = shares_early p t lo g

pub returns-then-not-is_apart : goal.returns-then-not-is_apart
returns-then-not-is_apart c =
    let a = c.args in
    sym (three a.ix.now.at (input_of a.ix.now) a.lo a.g ∙ rw (sym c.is_apart.ensures ∙ c.if-not-is_apart.true))

pub returns-then-same_set : goal.returns-then-same_set
returns-then-same_set c =
    let a = c.args in
    let i = a.ix.now in
    sym (three i.at (input_of i) a.lo a.g ∙ rw (sym c.same_set.ensures ∙ c.if-same_set.true) (ap (λ (x : Bool). x && leb 3 (length (common (set_of i a.lo) (set_of i a.g)))) (and-false (apart i.at (input_of i) a.lo a.g))))

pub returns : goal.returns
returns c =
    let a = c.args in
    c.has_three.ensures
    ∙ ap₂ (λ (x y : List ℕ). leb 3 (length (common x y))) c.set.ensures c.set-2.ensures
    ∙ sym (three a.ix.now.at (input_of a.ix.now) a.lo a.g ∙ rw (sym c.same_set.ensures ∙ c.if-same_set.false, sym c.is_apart.ensures ∙ c.if-not-is_apart.false))
