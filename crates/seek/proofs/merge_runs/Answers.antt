-- `seek::merge_runs` meets its contract. `Held`: the candidates below g are noted, and the runs stand at g. `took` takes g, `moved_on` goes to the next lowest.
use Prim.Native.Nat.{ℕ, ◌+◌, ◌-◌, ◌≤◌, ◌<◌}
use mathlib.Core.Path.{◌≡◌, sym, ap, ap₂, ◌∙◌, subst}
use mathlib.Core.List.{List, [], ◌∷◌, ◌++◌, append-nil}
use native.Mathlib.Omega.{arith}
use native.Mathlib.Numerals.{add-one}
use native.Mathlib.Nat.{zero-add}
use lib.ListN.{length, length-append}
use lib.Seq.{sets}
use Rattle.laws.specs.Lists.{keep, up_from}
use Rattle.laws.proofs.Ascending.{keep_skip}
use Rattle.laws.proofs.Stores.{sets_append}
use Rattle.laws.proofs.ListLaws.{keep_append, up_from_snoc}
use Rattle.index.specs.declared.Places.{Places}
use Rattle.index.specs.Faces.{input, base}
use Rattle.merge.specs.Runs.{Lowest}
use Rattle.seek.specs.Steps.{Runs, Begun, one, up_to}
use Rattle.seek.specs.Candidates.{shares, candidates, Ready}
use Rattle.seek.proofs.Merging.{no_lower, skipped, lowered}
use Rattle.seek.proofs.Skipping.{none_before}
use Rattle.seek.proofs.Searching.{base_same, input_base, input_same, ready_same, up_to-length}
use Rattle.seek.proofs.merge_runs.Invariants.{Held}
use Rattle.seek.proofs.merge_runs.Goals as goal

-- on to the lowest face, g'
moved_on : (p : Places) (w : List ℕ) (lo k g n : ℕ) (from to v : List ℕ) → Ready p lo w → Held p w lo k g n from to v → (g' : ℕ) → Lowest k (base p w) from to p.faces g' → (g ≤ g') × Held p w lo k g' n from to v
moved_on p w lo k g n from to v ready held g' low =
    let up : g ≤ g' = no_lower p (base p w) lo k g from to held.runs g' held.top low in
    let e : g + (g' - g) ≡ g' = omega arith in
    let same : up_to p (input p w) lo g ≡ up_to p (input p w) lo g' =
    keep_skip (shares p (input p w) lo) g (g' - g)
    (λ h a b. ap (λ (t : List ℕ). shares p t lo h) (sym (input_base p w ready.below)) ∙ skipped p (base p w) lo k g from to held.runs g' held.top low h a (omega arith))
    ∙ ap (up_to p (input p w) lo) e in (
      up,
      record { top = low.top; work = held.work ∙ ap (sets w p.found) same; number = held.number ∙ ap length same; runs = lowered p (base p w) lo k g from to held.runs g' held.top low },
    )

-- the candidates below g, and g where it is one
next_one : (p : Places) (t : List ℕ) (lo g : ℕ) → up_to p t lo g ++ one p t lo g ≡ up_to p t lo (g + 1)
next_one p t lo g =
    ap (λ (l : List ℕ). up_to p t lo g ++ l) (sym (append-nil (one p t lo g)))
    ∙ sym (keep_append (shares p t lo) (up_from 0 g) (g ∷ []))
    ∙ ap (keep (shares p t lo)) (sym (ap (up_from 0) (add-one g) ∙ up_from_snoc 0 g ∙ ap (λ (j : ℕ). up_from 0 g ++ (j ∷ [])) (zero-add g)))

-- what the search reads stays
same_base : (p : Places) (w : List ℕ) (lo k g n : ℕ) (from to v : List ℕ) → Held p w lo k g n from to v → base p v ≡ base p w
same_base p w lo k g n from to v held = ap (base p) held.work ∙ base_same p w (up_to p (input p w) lo g)

-- g taken
took : (p : Places) (w : List ℕ) (lo k g n : ℕ) (from to v : List ℕ) → Ready p lo w → Held p w lo k g n from to v → g < p.faces → (r k' : ℕ) (from' to' v' : List ℕ)
    → r ≡ n + length (one p (input p v) lo g) → v' ≡ sets v (p.found + n) (one p (input p v) lo g) → Runs p (base p v) lo k' (g + 1) from' to' → Held p w lo k' (g + 1) r from' to' v'
took p w lo k g n from to v ready held h r k' from' to' v' a b c =
    let i : input p v ≡ input p w = ap (input p) held.work ∙ input_same p w (up_to p (input p w) lo g) ready.below in
    let o = one p (input p w) lo g in
    record {
      top = omega arith;
      work = b ∙ ap (λ (t : List ℕ). sets v (p.found + n) (one p t lo g)) i ∙ ap₂ (λ (l : List ℕ) (m : ℕ). sets l (p.found + m) o) held.work held.number
          ∙ sym (sets_append w p.found (up_to p (input p w) lo g) o) ∙ ap (sets w p.found) (next_one p (input p w) lo g);
      number = a ∙ ap₂ (λ (m : ℕ) (t : List ℕ). m + length (one p t lo g)) held.number i ∙ sym (length-append (up_to p (input p w) lo g) o) ∙ ap length (next_one p (input p w) lo g);
      runs = subst (λ (l : List ℕ). Runs p l lo k' (g + 1) from' to') (same_base p w lo k g n from to v held) c;
    }

-- nothing is noted at the start
begin : (p : Places) (w : List ℕ) (lo k : ℕ) (from to : List ℕ) → (b : Begun p w lo k from to) → Held p w lo k b.first 0 from to w
begin p w lo k from to b =
    let e = none_before p (input p w) lo b.first b.hidden in
    record { top = b.top; work = ap (sets w p.found) e; number = ap length e; runs = b.runs }

-- on to the lowest face, found in what is there now
onward : (p : Places) (w : List ℕ) (lo k g n : ℕ) (from to v : List ℕ) → Ready p lo w → Held p w lo k g n from to v → (g' : ℕ) → Lowest k (base p v) from to p.faces g'
    → (g ≤ g') × Held p w lo k g' n from to v
onward p w lo k g n from to v ready held g' low =
    moved_on p w lo k g n from to v ready held g' (subst (λ (x : List ℕ). Lowest k x from to p.faces g') (same_base p w lo k g n from to v held) low)

pub loop-g-init : goal.loop-g-init
loop-g-init c =
    let a = c.args in
    let m = a.runs.now in
    (moved_on a.at a.work.now a.lo m.count c.requires.begun.first 0 m.from m.to a.work.now c.requires.ready (begin a.at a.work.now a.lo m.count m.from m.to c.requires.begun) c.lowest-g.result c.lowest-g.ensures).1

pub take_face-n-requires-clause-ready : goal.take_face-n-requires-clause-ready
take_face-n-requires-clause-ready c =
    let a = c.args in
    let l = c.loop-g in
    subst (Ready a.at a.lo) (sym l.invariant.work) (ready_same a.at a.lo a.work.now (up_to a.at (input a.at a.work.now) a.lo l.g) c.requires.ready)

pub take_face-n-requires-clause-g_lt_faces : goal.take_face-n-requires-clause-g_lt_faces
take_face-n-requires-clause-g_lt_faces c =
    let a = c.args in
    let l = c.loop-g in
    (c.loop-g-test.true, omega (arith, c.loop-g-test.true, l.invariant.number, up_to-length a.at (input a.at a.work.now) a.lo l.g))

pub take_face-n-requires-clause-runs : goal.take_face-n-requires-clause-runs
take_face-n-requires-clause-runs c =
    let a = c.args in
    let l = c.loop-g in
    let m = l.runs in
    subst (λ (x : List ℕ). Runs a.at x a.lo m.count l.g m.from m.to) (sym (same_base a.at a.work.now a.lo m.count l.g l.n m.from m.to l.work l.invariant)) l.invariant.runs

pub loop-g-smaller : goal.loop-g-smaller
loop-g-smaller c =
    let a = c.args in
    let l = c.loop-g in
    let m = l.runs in
    let f = c.take_face-n in
    let t = f.new.runs in
    let e = f.ensures in
    let taken = took a.at a.work.now a.lo m.count l.g l.n m.from m.to l.work c.requires.ready l.invariant c.loop-g-test.true f.result t.count t.from t.to f.new.work e.value e.work_after e.runs_2 in
    let o = onward a.at a.work.now a.lo t.count (l.g + 1) f.result t.from t.to f.new.work c.requires.ready taken c.lowest-g-in-loop-g.result c.lowest-g-in-loop-g.ensures in
    omega (arith, o.0, o.1.top, c.loop-g-test.true)

pub loop-g-preserved : goal.loop-g-preserved
loop-g-preserved c =
    let a = c.args in
    let l = c.loop-g in
    let m = l.runs in
    let f = c.take_face-n in
    let t = f.new.runs in
    let e = f.ensures in
    let taken = took a.at a.work.now a.lo m.count l.g l.n m.from m.to l.work c.requires.ready l.invariant c.loop-g-test.true f.result t.count t.from t.to f.new.work e.value e.work_after e.runs_2 in
    (onward a.at a.work.now a.lo t.count (l.g + 1) f.result t.from t.to f.new.work c.requires.ready taken c.lowest-g-in-loop-g.result c.lowest-g-in-loop-g.ensures).1

pub returns : goal.returns
unfolding candidates
returns c =
    let a = c.args in
    let l = c.loop-g in
    let e : l.g ≡ a.at.faces = omega (arith, l.invariant.top, c.loop-g-test.false) in
    let s = ap (up_to a.at (input a.at a.work.now) a.lo) e in
    record { number = l.invariant.number ∙ ap length s; filled = l.invariant.work ∙ ap (sets a.work.now a.at.found) s }
