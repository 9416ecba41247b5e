-- `overfull::walk` meets its contract: what is left to count, counted on, is the whole count.
use Prim.Native.Nat.{ℕ, ◌+◌}
use mathlib.Core.Path.{◌≡◌, sym, ap, ap₂, ◌∙◌}
use mathlib.Core.List.{List}
use lib.ListN.{get_or, drop}
use Rattle.std.specs.Prelude.{Option}
use native.Mathlib.Omega.{arith}
use Rattle.laws.specs.Lists.{keep}
use Rattle.layout.specs.Views.{faced_in}
use Rattle.overfull.specs.declared.Tally.{Tally}
use Rattle.overfull.specs.Alike.{same_as, start, tallied}
use Rattle.overfull.proofs.Counted.{met, lower, kept_end, kept_same, kept_other}
use Rattle.overfull.proofs.walk.Goals as goal

pub same_key-requires : goal.same_key-requires
same_key-requires c = (c.requires.face, c.requires.faces c.loop-h.h-index (omega arith))

pub note-s-requires : goal.note-s-requires
note-s-requires c = omega (arith, c.loop-h.invariant.few, c.requires.few)

pub returns-then-h-g : goal.returns-then-h-g
returns-then-h-g c =
    let a = c.args in
    let p = same_as a.t.now.layout.now (faced_in a.t.now) a.g in
    let o = c.loop-h in
    let h = get_or a.faces.now o.h-index 0 in
    let k = kept_same p o.h-index a.faces.now (omega arith) (sym c.same_key.ensures ∙ c.if-not-same_key.false) in
    let hs = keep p (drop (o.h-index + 1) a.faces.now) in
    let d = c.default.ensures in
    let none : c.default.result ≡ start = ap₂ (λ (n : ℕ) (x : Option ℕ). record { count = n; second = x }) d.0 d.1 in
    none ∙ sym (ap (λ (r : List ℕ). tallied a.g r o.s) k ∙ lower a.g h hs o.s (omega arith)) ∙ o.invariant.tallied_on

pub loop-h-preserved : goal.loop-h-preserved
loop-h-preserved c =
    let a = c.args in
    let p = same_as a.t.now.layout.now (faced_in a.t.now) a.g in
    let o = c.loop-h in
    let h = get_or a.faces.now o.h-index 0 in
    let k = kept_same p o.h-index a.faces.now (omega arith) (sym c.same_key.ensures ∙ c.if-not-same_key.false) in
    let hs = keep p (drop (o.h-index + 1) a.faces.now) in record {
      few = omega (arith, o.invariant.few, ap (λ (r : Tally). r.count) c.note-s.ensures);
      tallied_on = ap (tallied a.g hs) c.note-s.ensures ∙ sym (ap (λ (r : List ℕ). tallied a.g r o.s) k ∙ met a.g h hs o.s (omega arith)) ∙ o.invariant.tallied_on;
    }

pub loop-h-preserved-then-not-same_key : goal.loop-h-preserved-then-not-same_key
loop-h-preserved-then-not-same_key c =
    let a = c.args in
    let p = same_as a.t.now.layout.now (faced_in a.t.now) a.g in
    let o = c.loop-h in
    let k = kept_other p o.h-index a.faces.now (omega arith) (sym c.same_key.ensures ∙ c.if-not-same_key.true) in
    record { few = omega (arith, o.invariant.few); tallied_on = sym (ap (λ (r : List ℕ). tallied a.g r o.s) k) ∙ o.invariant.tallied_on }

pub returns : goal.returns
returns c =
    let a = c.args in
    let p = same_as a.t.now.layout.now (faced_in a.t.now) a.g in
    let o = c.loop-h in
    sym (ap (λ (r : List ℕ). tallied a.g r o.s) (kept_end p o.h-index a.faces.now (omega arith))) ∙ o.invariant.tallied_on
