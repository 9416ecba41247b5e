-- The marked cells of a range, in turn.
use Prim.Native.Nat.{ℕ, ◌+◌, ◌-◌, ◌≤◌, ◌<◌}
use mathlib.Core.Path.{◌≡◌, refl, sym, ap, ap₂, ◌∙◌, subst}
use mathlib.Core.Logic.{◌⊎◌, inl, inr, ◌≢◌}
use mathlib.Core.Bool.{Bool, true, false, not}
use mathlib.Core.List.{List, [], ◌∷◌}
use native.Mathlib.Omega.{arith}
use borrow.Author.Tests.{eqb-true, eqb-false, eq-eqb, ne_eqb}
use lib.Dec.{eqb}
use lib.ListN.{length, get_or, replicate, set, length-set, length-replicate, get_or-replicate}
use lib.Seq.{get_or-set_same, get_or-set_other, take-set-le, set-get_or, ext_get_or}
use lib.Ieee.{Float}
use Rattle.laws.specs.Lists.{only_if, each, up_from}
use Rattle.laws.specs.Merging.{region}
use Rattle.std.proofs.lemmas.Bool.{cases_Bool, cases_lt}
use Rattle.laws.proofs.Stores.{get_or-region, length-region, region_set_before}
use Rattle.findings.specs.Findings.{Finding}
use Rattle.index.specs.Faces.{input}
use Rattle.records.specs.declared.Sink.{Sink}
use Rattle.records.specs.Keeping.{Kept}
use Rattle.records.proofs.Keeping.{kept_none, kept_next}
use Rattle.layout.specs.declared.Layout.{Layout}
use Rattle.layout.specs.Tables.{Spaced}
use Rattle.layout.specs.ByCell.{plain_rules}
use Rattle.layout.specs.Kept.{KeptAny}
use Rattle.partially_shared.specs.declared.Range.{Range}
use Rattle.partially_shared.specs.Hits.{Marked, Beside, told_by, mark_tells, Cleared, Searching}
use Rattle.partially_shared.proofs.Searched.{beside_less, beside_then, searching_on, input_on}

-- ---- one cell

-- a cell that is not marked tells nothing
pub tells_none : (l : Layout) (t w : List ℕ) (c b : ℕ) → get_or w (l.marks + b) 0 ≡ 0 → mark_tells l t w c b ≡ []
unfolding mark_tells
tells_none l t w c b e = ap (λ (x : Bool). only_if (not x) (told_by l t c b (get_or w (l.marks + b) 0) (get_or w (l.others + b) 0) ∷ [])) (eq-eqb (get_or w (l.marks + b) 0) 0 e)

-- a marked one its pair
pub tells_one : (l : Layout) (t w : List ℕ) (c b : ℕ) → get_or w (l.marks + b) 0 ≢ 0 → mark_tells l t w c b ≡ told_by l t c b (get_or w (l.marks + b) 0) (get_or w (l.others + b) 0) ∷ []
unfolding mark_tells
tells_one l t w c b h = ap (λ (x : Bool). only_if (not x) (told_by l t c b (get_or w (l.marks + b) 0) (get_or w (l.others + b) 0) ∷ [])) (ne_eqb (get_or w (l.marks + b) 0) 0 h)

-- the same words tell the same
pub tells_same : (l : Layout) (t w v : List ℕ) (c b : ℕ) → (get_or v (l.marks + b) 0 ≡ get_or w (l.marks + b) 0) × (get_or v (l.others + b) 0 ≡ get_or w (l.others + b) 0) → mark_tells l t v c b ≡ mark_tells l t w c b
unfolding mark_tells
tells_same l t w v c b e = ap₂ (λ (m o : ℕ). only_if (not (eqb m 0)) (told_by l t c b m o ∷ [])) e.0 e.1

-- a mark that is zero is as if it were set to zero
pub set_none : (w : List ℕ) (i : ℕ) → get_or w i 0 ≡ 0 → w ≡ set w i 0
set_none w i e = sym (ap (set w i) (sym e) ∙ set-get_or w i 0)

-- ---- the range

-- the same while it is done: the marks from b on are as before
pub record Clearing (l : Layout) (w : List ℕ) (a b : ℕ) (v : List ℕ) : Type 0 where
  pub beside : Beside l.marks l w v
  pub cleared : (i : ℕ) → i < l.at.cell_count → a ≤ i → i < b → get_or v (l.marks + i) 0 ≡ 0
  pub same : (i : ℕ) → i < l.at.cell_count → b ≤ i → (get_or v (l.marks + i) 0 ≡ get_or w (l.marks + i) 0) × (get_or v (l.others + i) 0 ≡ get_or w (l.others + i) 0)
  pub still : (i : ℕ) → i < l.at.cell_count → get_or w (l.marks + i) 0 ≡ 0 → get_or v (l.marks + i) 0 ≡ 0

pub clearing_start : (l : Layout) (w : List ℕ) (a : ℕ) → Clearing l w a a w
clearing_start l w a = record {
  beside = record { before = refl; behind = refl; long = refl };
  cleared = λ i h k j. absurd (omega (arith, k, j));
  same = λ i h k. (refl, refl);
  still = λ i h e. e;
}

pub clearing_next : (l : Layout) (w v : List ℕ) (a b : ℕ) → Spaced l (length w) → b < l.at.cell_count → Clearing l w a b v → Clearing l w a (b + 1) (set v (l.marks + b) 0)
clearing_next l w v a b sp low p = record {
  beside = beside_then l.marks l w v (set v (l.marks + b) 0) p.beside record {
    before = take-set-le l.marks v (l.marks + b) 0 (omega arith);
    behind = region_set_before l.last l.at.nodes v (l.marks + b) 0 (omega (arith, sp.others_at, sp.last_at, low));
    long = length-set v (l.marks + b) 0;
  };
  cleared = λ i h k j. go i h k (cases_lt i b) j;
  same = λ i h k. (mark i (omega (arith, k)) ∙ (p.same i h (omega (arith, k))).0, other i ∙ (p.same i h (omega (arith, k))).1);
  still = λ i h e. zero i (p.still i h e) (cases_Bool (eqb b i));
}
  where
    mark : (i : ℕ) → b < i → get_or (set v (l.marks + b) 0) (l.marks + i) 0 ≡ get_or v (l.marks + i) 0
    mark i h = get_or-set_other v (l.marks + b) (l.marks + i) 0 0 (λ e. absurd (omega (arith, e, h)))

    other : (i : ℕ) → get_or (set v (l.marks + b) 0) (l.others + i) 0 ≡ get_or v (l.others + i) 0
    other i = get_or-set_other v (l.marks + b) (l.others + i) 0 0 (λ e. absurd (omega (arith, e, sp.others_at, low)))

    own : get_or (set v (l.marks + b) 0) (l.marks + b) 0 ≡ 0
    own = get_or-set_same v (l.marks + b) 0 0 (omega (arith, p.beside.long, sp.others_at, sp.last_at, sp.pairs_at, sp.spare_at, sp.ends, low))

    zero : (i : ℕ) → get_or v (l.marks + i) 0 ≡ 0 → (eqb b i ≡ true) ⊎ (eqb b i ≡ false) → get_or (set v (l.marks + b) 0) (l.marks + i) 0 ≡ 0
    zero i e (inl q) = ap (λ (k : ℕ). get_or (set v (l.marks + b) 0) (l.marks + k) 0) (sym (eqb-true b i q)) ∙ own
    zero i e (inr q) = get_or-set_other v (l.marks + b) (l.marks + i) 0 0 (λ d. eqb-false b i q (omega (arith, d))) ∙ e

    go : (i : ℕ) → i < l.at.cell_count → a ≤ i → (i < b) ⊎ (b ≤ i) → i < b + 1 → get_or (set v (l.marks + b) 0) (l.marks + i) 0 ≡ 0
    go i h k (inl q) j = zero i (p.cleared i h k q) (cases_Bool (eqb b i))
    go i h k (inr q) j = let e : i ≡ b = omega (arith, q, j) in ap (λ (x : ℕ). get_or (set v (l.marks + b) 0) (l.marks + x) 0) e ∙ own

-- all marks are zero afterwards
pub all_cleared : (l : Layout) (t w v : List ℕ) (hits : List (ℕ × ℕ)) (r : Range) → Spaced l (length w) → Marked l t hits w r → Cleared l w r.lo r.hi v → region l.marks l.at.cell_count v ≡ replicate l.at.cell_count 0
all_cleared l t w v hits r sp m p =
    ext_get_or 0 (region l.marks l.at.cell_count v) (replicate l.at.cell_count 0) (long ∙ sym (length-replicate l.at.cell_count 0))
    (λ i h. let k : i < l.at.cell_count = omega (arith, h, long) in get_or-region l.marks l.at.cell_count v i 0 k ∙ zero i k (cases_Bool (eqb (get_or w (l.marks + i) 0) 0)) ∙ sym (get_or-replicate l.at.cell_count i 0 0 k))
  where
    long : length (region l.marks l.at.cell_count v) ≡ l.at.cell_count
    long = length-region l.marks l.at.cell_count v (omega (arith, p.beside.long, sp.others_at, sp.last_at, sp.pairs_at, sp.spare_at, sp.ends))

    zero : (i : ℕ) → i < l.at.cell_count → (eqb (get_or w (l.marks + i) 0) 0 ≡ true) ⊎ (eqb (get_or w (l.marks + i) 0) 0 ≡ false) → get_or v (l.marks + i) 0 ≡ 0
    zero i k (inl e) = p.still i k (eqb-true (get_or w (l.marks + i) 0) 0 e)
    zero i k (inr e) = let q = m.within i k (eqb-false (get_or w (l.marks + i) 0) 0 e) in p.cleared i k q.0 q.1

-- ---- what is kept of it

pub keeps_start : (c : List Float) (h : ℕ → List Finding) (a : ℕ) (s : Sink) → KeptAny c (each h (up_from a (a - a))) s s
keeps_start c h a s tol = let z : 0 ≡ a - a = omega arith in subst (λ (k : ℕ). Kept (plain_rules c tol) (each h (up_from a k)) s s) z (kept_none (plain_rules c tol) s)

pub keeps_next : (c : List Float) (h : ℕ → List Finding) (xs : List Finding) (a b : ℕ) (s q r : Sink) → a ≤ b → xs ≡ h b → KeptAny c (each h (up_from a (b - a))) s q → KeptAny c xs q r
    → KeptAny c (each h (up_from a (b + 1 - a))) s r
keeps_next c h xs a b s q r le is kept more tol =
    let z : b - a + 1 ≡ b + 1 - a = omega (arith, le) in
    let y : b ≡ a + (b - a) = omega (arith, le) in
    subst (λ (i : ℕ). Kept (plain_rules c tol) (each h (up_from a i)) s r) z
    (kept_next (plain_rules c tol) h xs a (b - a) s q r (is ∙ ap h y) (kept tol) (more tol))

-- the cells before b are told
pub record Telling (c : List Float) (l : Layout) (t w : List ℕ) (i a : ℕ) (s : Sink) (v : List ℕ) (q : Sink) (b : ℕ) : Type 0 where
  pub clearing : Clearing l w a b v
  pub kept : KeptAny c (each (mark_tells l t w i) (up_from a (b - a))) s q
  pub search : Searching l v
  pub few : q.count ≤ s.count + (b - a)
  pub from : a ≤ b

pub telling_start : (c : List Float) (l : Layout) (w : List ℕ) (i a : ℕ) (s : Sink) → Searching l w → Telling c l (input l.at w) w i a s w s a
telling_start c l w i a s search = record {
  clearing = clearing_start l w a;
  kept = keeps_start c (mark_tells l (input l.at w) w i) a s;
  search = search;
  few = omega arith;
  from = omega arith;
}

pub telling_next : (c : List Float) (l : Layout) (w : List ℕ) (i a : ℕ) (s : Sink) (v : List ℕ) (q : Sink) (b : ℕ) (u : List ℕ) (r : Sink) → Searching l w → b < l.at.cell_count
    → Telling c l (input l.at w) w i a s v q b → KeptAny c (mark_tells l (input l.at v) v i b) q r → u ≡ set v (l.marks + b) 0 → r.count ≤ q.count + 1
    → Telling c l (input l.at w) w i a s u r (b + 1)
telling_next c l w i a s v q b u r search low p more is few =
    let lower : l.at.found ≤ l.marks = omega (arith, search.spaced.marks_at) in
    let clear : Clearing l w a (b + 1) u = subst (Clearing l w a (b + 1)) (sym is) (clearing_next l w v a b search.spaced low p.clearing) in
    let same : mark_tells l (input l.at v) v i b ≡ mark_tells l (input l.at w) w i b =
    ap (λ (t : List ℕ). mark_tells l t v i b) (input_on l w v search (beside_less l.at.found l.marks l w v lower p.clearing.beside))
    ∙ tells_same l (input l.at w) w v i b (p.clearing.same b low (omega arith)) in
    record {
      clearing = clear;
      kept = keeps_next c (mark_tells l (input l.at w) w i) (mark_tells l (input l.at v) v i b) a b s q r p.from same p.kept more;
      search = searching_on l w u search (beside_less l.at.found l.marks l w u lower clear.beside);
      few = omega (arith, p.few, few, p.from);
      from = omega (arith, p.from);
    }
