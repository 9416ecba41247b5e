-- The listed cells in order, in turn: the cells between them tell nothing.
use Prim.Native.Nat.{ℕ, ◌+◌, ◌-◌, ◌*◌, ◌≤◌, ◌<◌}
use mathlib.Core.Path.{◌≡◌, refl, sym, ap, ap₂, ◌∙◌, subst}
use mathlib.Core.Logic.{◌⊎◌, inl, inr, ◌≢◌}
use mathlib.Core.Bool.{true, false}
use mathlib.Core.List.{List, [], ◌∷◌, ◌++◌, append-nil}
use native.Mathlib.Omega.{arith}
use borrow.Author.Tests.{eqb-true, eqb-false}
use lib.Dec.{eqb}
use lib.ListN.{get_or, set, drop}
use lib.Seq.{drop-set-lt}
use lib.Ieee.{Float}
use Rattle.laws.specs.Lists.{each, up_from}
use Rattle.std.proofs.lemmas.Bool.{cases_Bool, cases_lt}
use Rattle.laws.proofs.ListLaws.{each_append, up_from_append}
use Rattle.snap.proofs.Parts.{read_from}
use Rattle.findings.specs.Findings.{Finding}
use Rattle.index.specs.Faces.{input}
use Rattle.records.specs.declared.Sink.{Sink}
use Rattle.records.specs.Keeping.{Kept}
use Rattle.pair_sort.specs.Pairs.{pair_at, pairs_at}
use Rattle.pair_sort.proofs.PairLaws.{pairs_step}
use Rattle.layout.specs.declared.Layout.{Layout}
use Rattle.layout.specs.ByCell.{plain_rules}
use Rattle.layout.specs.Kept.{KeptAny}
use Rattle.partially_shared.specs.Listing.{Has, Rising, Listed}
use Rattle.partially_shared.specs.Hits.{mark_tells, Searching}
use Rattle.partially_shared.proofs.Cleared.{tells_none, Telling, telling_next}
use Rattle.partially_shared.proofs.Whole.{each_none}

-- a range with nothing behind it
each_further : (h : ℕ → List Finding) (a b d : ℕ) → a ≤ b → b ≤ d → ((x : ℕ) → b ≤ x → x < d → h x ≡ []) → each h (up_from a (b - a)) ≡ each h (up_from a (d - a))
each_further h a b d p q none =
    let e : b - a + (d - b) ≡ d - a = omega (arith, p, q) in
    let j : a + (b - a) ≡ b = omega (arith, p) in
    sym (ap (λ (k : ℕ). each h (up_from a k)) (sym e)
    ∙ ap (each h) (up_from_append a (b - a) (d - b))
    ∙ each_append h (up_from a (b - a)) (up_from (a + (b - a)) (d - b))
    ∙ ap (λ (r : List Finding). each h (up_from a (b - a)) ++ r) (each_none h (a + (b - a)) (d - b) (λ x y z. none x (omega (arith, y, j)) (omega (arith, z, j, q))))
    ∙ append-nil (each h (up_from a (b - a))))

-- cells that are not marked are told with those before them
telling_skip : (c : List Float) (l : Layout) (t w : List ℕ) (i a : ℕ) (s : Sink) (v : List ℕ) (q : Sink) (b d : ℕ) → b ≤ d → ((x : ℕ) → b ≤ x → x < d → get_or w (l.marks + x) 0 ≡ 0)
    → Telling c l t w i a s v q b → Telling c l t w i a s v q d
telling_skip c l t w i a s v q b d le zero p = record {
  clearing = record {
    beside = p.clearing.beside;
    cleared = λ x h y z. go x h y z (cases_lt x b);
    same = λ x h y. p.clearing.same x h (omega (arith, y, le));
    still = p.clearing.still;
  };
  kept = λ tol. subst (λ (xs : List Finding). Kept (plain_rules c tol) xs s q) (each_further (mark_tells l t w i) a b d p.from le (λ x y z. tells_none l t w i x (zero x y z))) (p.kept tol);
  search = p.search;
  few = omega (arith, p.few, p.from, le);
  from = omega (arith, p.from, le);
}
  where
    go : (x : ℕ) → x < l.at.cell_count → a ≤ x → x < d → (x < b) ⊎ (b ≤ x) → get_or v (l.marks + x) 0 ≡ 0
    go x h y z (inl o) = p.clearing.cleared x h y o
    go x h y z (inr o) = (p.clearing.same x h o).0 ∙ zero x o z

-- j listed cells are visited; what is before `next` is told, and each marked cell from there on is still to come
pub record Visiting (c : List Float) (l : Layout) (w : List ℕ) (i count : ℕ) (s : Sink) (v : List ℕ) (q : Sink) (next j : ℕ) : Type 0 where
  pub telling : Telling c l (input l.at w) w i 0 s v q next
  pub behind : drop l.pairs v ≡ drop l.pairs w
  pub rising : Rising (pairs_at (l.pairs + 2 * j) (count - j) w)
  pub known : (b : ℕ) → Has b (pairs_at (l.pairs + 2 * j) (count - j) w) → b < l.at.cell_count
  pub there : (b : ℕ) → b < l.at.cell_count → next ≤ b → get_or w (l.marks + b) 0 ≢ 0 → Has b (pairs_at (l.pairs + 2 * j) (count - j) w)
  pub most : next ≤ l.at.cell_count

module _ (c : List Float) (l : Layout) (w : List ℕ) (i count : ℕ) (s : Sink) where
  abbrev rest : ℕ → List (ℕ × ℕ)
  rest j = pairs_at (l.pairs + 2 * j) (count - j) w

  -- the next listed cell, and the rest
  rest_is : (j : ℕ) → j < count → rest j ≡ pair_at (l.pairs + 2 * j) w ∷ rest (j + 1)
  rest_is j h =
      let a : l.pairs + 2 * j + 2 ≡ l.pairs + 2 * (j + 1) = omega arith in
      let b : count - j - 1 ≡ count - (j + 1) = omega arith in
      pairs_step (l.pairs + 2 * j) (count - j) w (omega (arith, h)) ∙ ap₂ (λ (x y : ℕ). pair_at (l.pairs + 2 * j) w ∷ pairs_at x y w) a b

  pub visiting_start : Listed l w count → Rising (pairs_at l.pairs count w) → Telling c l (input l.at w) w i 0 s w s 0 → Visiting c l w i count s w s 0 0
  visiting_start p r t = record {
    telling = t;
    behind = refl;
    rising = subst Rising (sym all) r;
    known = λ b h. p.known b (subst (Has b) all h);
    there = λ b h k z. subst (Has b) (sym all) (p.there b h z);
    most = omega arith;
  }
    where
      all : rest 0 ≡ pairs_at l.pairs count w
      all =
          let a : l.pairs + 2 * 0 ≡ l.pairs = omega arith in
          let b : count - 0 ≡ count = omega arith in
          ap₂ (λ (x y : ℕ). pairs_at x y w) a b

  module _ (v : List ℕ) (q : Sink) (next j : ℕ) (p : Visiting c l w i count s v q next j) where
    -- where the next one stands
    pub listed_is : get_or v (l.pairs + 2 * j) 0 ≡ get_or w (l.pairs + 2 * j) 0
    listed_is = read_from l.pairs (l.pairs + 2 * j) v w p.behind (omega arith)

    module _ (b : ℕ) (more : j < count) (is : b ≡ get_or w (l.pairs + 2 * j) 0) where
      pub listed_low : b < l.at.cell_count
      listed_low = p.known b (subst (Has b) (sym (rest_is j more)) (inl (sym is)))

      -- it is the first of those to come
      ordered : Rising (pair_at (l.pairs + 2 * j) w ∷ rest (j + 1))
      ordered = subst Rising (rest_is j more) p.rising

      -- what is to come and is not b comes behind it
      later : (x : ℕ) → x < l.at.cell_count → next ≤ x → b ≢ x → get_or w (l.marks + x) 0 ≢ 0 → Has x (rest (j + 1))
      later x h q o z = go (subst (Has x) (rest_is j more) (p.there x h q z))
        where
          go : (get_or w (l.pairs + 2 * j) 0 ≡ x) ⊎ Has x (rest (j + 1)) → Has x (rest (j + 1))
          go (inl e) = absurd (o (is ∙ e))
          go (inr a) = a

      known_on : (x : ℕ) → Has x (rest (j + 1)) → x < l.at.cell_count
      known_on x h = p.known x (subst (Has x) (sym (rest_is j more)) (inr h))

      -- a cell that was passed before
      pub visiting_pass : b < next → Visiting c l w i count s v q next (j + 1)
      visiting_pass low = record {
        telling = p.telling;
        behind = p.behind;
        rising = ordered.1;
        known = known_on;
        there = λ x h q z. later x h q (λ e. absurd (omega (arith, e, q, low))) z;
        most = p.most;
      }

      -- no cell before it is marked
      between : (x : ℕ) → next ≤ x → x < b → get_or w (l.marks + x) 0 ≡ 0
      between x q h = go (cases_Bool (eqb (get_or w (l.marks + x) 0) 0))
        where
          go : (eqb (get_or w (l.marks + x) 0) 0 ≡ true) ⊎ (eqb (get_or w (l.marks + x) 0) 0 ≡ false) → get_or w (l.marks + x) 0 ≡ 0
          go (inl e) = eqb-true (get_or w (l.marks + x) 0) 0 e
          go (inr e) =
              let a = later x (omega (arith, h, listed_low)) q (λ d. absurd (omega (arith, d, h))) (eqb-false (get_or w (l.marks + x) 0) 0 e) in
              let d = ordered.0 x a in
              absurd (omega (arith, d, is, h))

      -- it is told
      pub visiting_next : (u : List ℕ) (r : Sink) → Searching l w → next ≤ b → KeptAny c (mark_tells l (input l.at v) v i b) q r → u ≡ set v (l.marks + b) 0 → r.count ≤ q.count + 1
          → Visiting c l w i count s u r (b + 1) (j + 1)
      visiting_next u r search from kept set_is few = record {
        telling = telling_next c l w i 0 s v q b u r search listed_low (telling_skip c l (input l.at w) w i 0 s v q next b from between p.telling) kept set_is few;
        behind = ap (drop l.pairs) set_is ∙ drop-set-lt l.pairs v (l.marks + b) 0 (omega (arith, listed_low, search.spaced.others_at, search.spaced.last_at, search.spaced.pairs_at)) ∙ p.behind;
        rising = ordered.1;
        known = known_on;
        there = λ x h y z. later x h (omega (arith, y, from)) (λ d. absurd (omega (arith, d, y))) z;
        most = omega (arith, listed_low);
      }

    -- all are
    pub visiting_end : count ≤ j → Telling c l (input l.at w) w i 0 s v q l.at.cell_count
    visiting_end done = telling_skip c l (input l.at w) w i 0 s v q next l.at.cell_count p.most none p.telling
      where
        nothing : rest j ≡ []
        nothing = let e : count - j ≡ 0 = omega (arith, done) in ap (λ (y : ℕ). pairs_at (l.pairs + 2 * j) y w) e

        none : (x : ℕ) → next ≤ x → x < l.at.cell_count → get_or w (l.marks + x) 0 ≡ 0
        none x q h = go (cases_Bool (eqb (get_or w (l.marks + x) 0) 0))
          where
            go : (eqb (get_or w (l.marks + x) 0) 0 ≡ true) ⊎ (eqb (get_or w (l.marks + x) 0) 0 ≡ false) → get_or w (l.marks + x) 0 ≡ 0
            go (inl e) = eqb-true (get_or w (l.marks + x) 0) 0 e
            go (inr e) = absurd (subst (Has x) nothing (p.there x h q (eqb-false (get_or w (l.marks + x) 0) 0 e)))
