-- `program::run_in` meets its contract: the input is too long, or reading refuses it, or its model is checked.
use Prim.Native.Nat.{◌≤◌}
use mathlib.Core.Path.{◌≡◌, subst}
use native.Mathlib.Omega.{arith}
use lib.ListN.{length}
use Rattle.std.specs.Prelude.{Result, Option, IfSome}
use Rattle.refusals.specs.declared.Refusal.{Refusal}
use Rattle.mesh.specs.Model.{Model}
use Rattle.mesh.specs.Lent.{lent}
use Rattle.mesh.specs.declared.model.Model.{Model as LentModel}
use Rattle.model_file.specs.declared.Found.{Found}
use Rattle.model_file.specs.Reading.{model_in, Reading}
use Rattle.program.specs.Steps.{Reporting}
use Rattle.program.proofs.Runs.{too_long, not_read, found_fits, checked}
use Rattle.program.proofs.run_in.Goals as goal

pub returns-then-input-gt32768 : goal.returns-then-input-gt32768
returns-then-input-gt32768 c =
    let a = c.args in
    let p = c.put_refused in
    too_long a.input.now a.coords.now a.kinds.now a.ends.now a.words.now a.findings.now a.work.now a.out.now p.new.out p.result
    c.if-input-gt32768.true p.ensures.0 (omega (arith, p.ensures.1, c.requires.1.out_bytes))

pub unwrap-m-requires : goal.unwrap-m-requires
unwrap-m-requires c =
    let a = c.args in
    let d = c.read in
    let g = c.in-Ok in
    let short : length c.args.input.now ≤ 32768 = omega arith in
    c.model.ensures.variant.1 (found_fits a.input.now a.coords.now d.new.coords a.kinds.now d.new.kinds a.ends.now d.new.ends a.words.now d.new.words c.requires.0 short
    g.f (subst (λ (r : Result Found Refusal). Reading a.input.now a.coords.now d.new.coords a.kinds.now d.new.kinds a.ends.now d.new.ends a.words.now d.new.words r) g.is d.ensures))

pub returns-in-Err : goal.returns-in-Err
returns-in-Err c =
    let a = c.args in
    let d = c.read in
    let g = c.in-Err in
    let p = c.put_refused-in-Err in
    let short : length c.args.input.now ≤ 32768 = omega arith in
    not_read a.input.now a.coords.now d.new.coords a.kinds.now d.new.kinds a.ends.now d.new.ends a.words.now d.new.words c.requires.0 short
    g.e a.findings.now a.work.now a.out.now p.new.out p.result
    (subst (λ (r : Result Found Refusal). Reading a.input.now a.coords.now d.new.coords a.kinds.now d.new.kinds a.ends.now d.new.ends a.words.now d.new.words r) g.is d.ensures)
    p.ensures.0 (omega (arith, p.ensures.1, c.requires.1.out_bytes))

pub returns-in-Ok : goal.returns-in-Ok
returns-in-Ok c =
    let a = c.args in
    let d = c.read in
    let g = c.in-Ok in
    let p = c.report_on in
    let e = c.unwrap-m.ensures in
    let same = subst (λ (o : Option LentModel). IfSome o (λ m. lent m ≡ model_in g.f d.new.coords d.new.kinds d.new.ends d.new.words)) e c.model.ensures.model in
    let short : length c.args.input.now ≤ 32768 = omega arith in
    checked a.input.now a.coords.now d.new.coords a.kinds.now d.new.kinds a.ends.now d.new.ends a.words.now d.new.words c.requires.0 short
    g.f (subst (λ (r : Result Found Refusal). Reading a.input.now a.coords.now d.new.coords a.kinds.now d.new.kinds a.ends.now d.new.ends a.words.now d.new.words r) g.is d.ensures)
    a.findings.now p.new.findings a.work.now p.new.work a.out.now p.new.out p.result
    (subst (λ (m : Model). Reporting m a.findings.now p.new.findings a.work.now p.new.work a.out.now p.new.out p.result) same p.ensures)
