-- `all_cells::keep_bow` meets its contract.
use Prim.Native.Nat.{◌+◌}
use mathlib.Core.List.{List, [], ◌∷◌}
use mathlib.Core.Path.{◌≡◌, sym, ◌∙◌, subst}
use native.Mathlib.Omega.{arith}
use lib.Ieee.{of_bits}
use Rattle.findings.specs.Findings.{Finding, bowtie}
use Rattle.layout.specs.Views.{faced_in}
use Rattle.layout.proofs.Reading.{word_is}
use Rattle.records.specs.Keeping.{Kept}
use Rattle.records.proofs.Keeping.{kept_none}
use Rattle.floats.specs.Floats.{zero64}
use Rattle.geometry.specs.Points.{origin}
use Rattle.layout.specs.ByCell.{plain_rules}
use Rattle.all_cells.specs.Cells.{KeptEver}
use Rattle.all_cells.proofs.Passing.{bow_none, bow_one, bow_fields, bow_centre}
use Rattle.all_cells.proofs.keep_bow.Goals as goal

pub returns-then-t-b-eq0 : goal.returns-then-t-b-eq0
returns-then-t-b-eq0 c =
    let a = c.args in
    let w = a.t.now.work.now in
    let is = word_is a.t.now.layout.now w a.t.now.faced (a.t.now.layout.now.at.bows + a.c) (omega (arith, a.t.now.faced.laid.bows_at, c.requires.c_bound.0)) in
    let none = bow_none a.t.now.layout.now (faced_in a.t.now) a.c (sym is ∙ c.if-t-b-eq0.true) in
    record {
      kept_ever = λ R. subst (λ (xs : List Finding). Kept R xs a.sink.now a.sink.now) (sym none) (kept_none R a.sink.now);
      upper_bound = omega arith;
    }

pub returns : goal.returns
unfolding of_bits
returns c =
    let a = c.args in
    let w = a.t.now.work.now in
    let is = word_is a.t.now.layout.now w a.t.now.faced (a.t.now.layout.now.at.bows + a.c) (omega (arith, a.t.now.faced.laid.bows_at, c.requires.c_bound.0)) in
    let one = bow_one a.t.now.layout.now (faced_in a.t.now) a.c (λ z. c.if-t-b-eq0.false (is ∙ z)) in
    let y = c.keep in
    let d = c.default.ensures in
    let p = c.default-2.ensures in
    let here : origin ≡ c.default-2.result = λ i. record { x = sym p.0 i; y = sym p.1.0 i; z = sym p.1.1 i } in
    let kept : KeptEver (bowtie a.c ∷ []) a.sink.now y.new.self = λ R. y.ensures R (bowtie a.c) (rw (d.1.1.0, d.1.1.1.0, d.1.1.1.1.0, d.1.1.1.1.1) (bow_fields a.c)) (bow_centre R a.c ∙ here) in
    record {
      kept_ever = λ R. subst (λ (xs : List Finding). Kept R xs a.sink.now y.new.self) (sym one) (kept R);
      upper_bound = omega (arith, (kept (plain_rules [] zero64)).count);
    }
