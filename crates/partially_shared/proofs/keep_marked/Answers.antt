-- `partially_shared::keep_marked` meets its contract.
use Prim.Native.Nat.{◌+◌}
use mathlib.Core.List.{List}
use mathlib.Core.Path.{◌≡◌, refl, sym, subst}
use native.Mathlib.Omega.{arith}
use Rattle.floats.specs.Floats.{zero64}
use Rattle.findings.specs.Findings.{Finding}
use Rattle.index.specs.Faces.{input}
use Rattle.layout.specs.ByCell.{plain_rules}
use Rattle.records.specs.Keeping.{Kept}
use Rattle.records.proofs.Keeping.{kept_none}
use Rattle.partially_shared.proofs.Cleared.{tells_none, tells_one, set_none}
use Rattle.partially_shared.proofs.keep_marked.Goals as goal

pub returns-then-work-m-eq0 : goal.returns-then-work-m-eq0
returns-then-work-m-eq0 c =
    let a = c.args in
    let w = a.work.now in
    let none = tells_none a.cx.now.layout (input a.cx.now.layout.at w) w a.c a.b c.if-work-m-eq0.true in
    record {
      kept_any = λ tol. subst (λ (xs : List Finding). Kept (plain_rules a.cx.now.coords.now tol) xs a.sink.now a.sink.now) (sym none) (kept_none (plain_rules a.cx.now.coords.now tol) a.sink.now);
      work_after = (set_none w (a.cx.now.layout.marks + a.b) c.if-work-m-eq0.true, omega arith);
    }

pub keep_pair-requires : goal.keep_pair-requires
keep_pair-requires c =
    let q = c.requires.c_bound in
    let h = c.if-work-m-eq0.false in
    record { searching = c.requires.searching; c_bound = (q.0, q.1, h, (q.2 h).0, (q.2 h).1); few = c.requires.few }

pub returns : goal.returns
returns c =
    let a = c.args in
    let w = a.work.now in
    let y = c.keep_pair in
    let one = tells_one a.cx.now.layout (input a.cx.now.layout.at w) w a.c a.b c.if-work-m-eq0.false in
    let k : y.new.sink.count ≡ a.sink.now.count + 1 = (y.ensures zero64).count in
    record {
      kept_any = λ tol. subst (λ (xs : List Finding). Kept (plain_rules a.cx.now.coords.now tol) xs a.sink.now y.new.sink) (sym one) (y.ensures tol);
      work_after = (refl, omega (arith, k));
    }
