-- `pairs::node_work` meets its contract. What is added, and what is left to add, is the whole; a word adds at most 2 ^ 20.
use Prim.Native.Nat.{ℕ, ◌+◌, ◌≤◌, ◌^◌}
use mathlib.Core.List.{List}
use mathlib.Core.Path.{◌≡◌, sym, ap, ◌∙◌}
use native.Mathlib.Numerals.{add-one}
use native.Mathlib.Omega.{arith}
use Rattle.laws.specs.Lists.{pairs_of}
use Rattle.counting.specs.Counts.{times, below}
use Rattle.counting.proofs.CountLaws.{below_suc}
use Rattle.index.specs.declared.Places.{Places}
use Rattle.index.specs.Faces.{input, words_of, Indexed}
use Rattle.index.specs.Read.{input_of}
use Rattle.index.proofs.Built.{list_long}
use Rattle.index.proofs.Read.{below_words}
use Rattle.pairs.specs.Work.{node_work, Few}
use Rattle.pairs.proofs.Sums.{left_all, left_turn}
use Rattle.pairs.proofs.node_work.Invariants.{f}
use Rattle.pairs.proofs.node_work.Goals as goal

-- how many words are below n and how often n stands there, at most all
room : (p : Places) (b : List ℕ) → Indexed p b → Few p → (n : ℕ)
    → (below (n + 1) (words_of p (input p b)) ≡ below n (words_of p (input p b)) + times n (words_of p (input p b))) × (below (n + 1) (words_of p (input p b)) ≤ 2 ^ 20)
room p b ix few n = (
  ap (λ (k : ℕ). below k (words_of p (input p b))) (add-one n) ∙ below_suc n (words_of p (input p b)),
  omega (arith, below_words p b ix (n + 1), few.words),
)

pub loop-n-init : goal.loop-n-init
unfolding node_work
loop-n-init c =
    let i = c.args.ix.now in (omega arith, left_all (f i.at i.base.now) i.at.nodes)

pub pairs_of-total-requires : goal.pairs_of-total-requires
pairs_of-total-requires c =
    let i = c.args.ix.now in
    omega (arith, c.list_length.ensures, room i.at i.base.now i.indexed c.requires c.loop-n.n)

pub overflow_add-total : goal.overflow_add-total
overflow_add-total c =
    let i = c.args.ix.now in
    omega (arith, c.loop-n.invariant.0, c.pairs_of-total.ensures.1, c.list_length.ensures, room i.at i.base.now i.indexed c.requires c.loop-n.n)

pub loop-n-preserved : goal.loop-n-preserved
loop-n-preserved c =
    let i = c.args.ix.now in
    let l = c.loop-n in
    let t = input_of i in (
      omega (arith, l.invariant.0, c.pairs_of-total.ensures.1, c.list_length.ensures, (room i.at i.base.now i.indexed c.requires l.n).0),
      left_turn (f i.at i.base.now) i.at.nodes l.n l.total c.pairs_of-total.result (node_work i.at t) c.loop-n-test.true l.invariant.1
          (c.pairs_of-total.ensures.0 ∙ ap pairs_of (c.list_length.ensures ∙ sym (list_long i.at t i.indexed.laid l.n))),
    )
