-- `seek::is_candidate` meets its contract. Three tests, the cheapest first.
use Prim.Native.Nat.{ℕ}
use mathlib.Core.Bool.{Bool, true, not, ◌&&◌, and-false, and-true}
use mathlib.Core.Path.{◌≡◌, sym, ap, ◌∙◌}
use borrow.Author.Tests.{lt-leb, le-leb}
use lib.ListN.{length}
use lib.Dec.{leb}
use Rattle.index.specs.Read.{input_of, set_of}
use Rattle.seek.specs.Steps.{early}
use Rattle.seek.specs.Candidates.{common}
use Rattle.seek.proofs.Condition.{shares_early}
use Rattle.seek.proofs.is_candidate.Goals as goal

pub returns-then-c-lt3 : goal.returns-then-c-lt3
returns-then-c-lt3 c =
    let a = c.args in
    let i = a.ix.now in
    let test = early i.at (input_of i) a.lo a.g in
    sym (shares_early i.at (input_of i) a.lo a.g ∙ ap (λ (n : ℕ). test && leb 3 n) (sym c.requires.c_value) ∙ ap (λ (x : Bool). test && x) (lt-leb 3 a.c c.if-c-lt3.true) ∙ and-false test)

pub returns-then-not-is_apart : goal.returns-then-not-is_apart
unfolding early
returns-then-not-is_apart c =
    let a = c.args in
    sym (shares_early a.ix.now.at (input_of a.ix.now) a.lo a.g ∙ rw (sym c.is_apart.ensures ∙ c.if-not-is_apart.true))

pub returns : goal.returns
unfolding early
returns c =
    let a = c.args in
    let i = a.ix.now in
    let three : leb 3 (length (common (set_of i a.lo) (set_of i a.g))) ≡ true = ap (leb 3) (sym c.requires.c_value) ∙ le-leb 3 a.c c.if-c-lt3.false in
    ap not c.same_set.ensures
    ∙ sym (shares_early i.at (input_of i) a.lo a.g ∙ rw (sym c.is_apart.ensures ∙ c.if-not-is_apart.false, three) (and-true _))
