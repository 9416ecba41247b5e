use Prim.Native.Nat.{◌+◌, ◌-◌}
use mathlib.Core.Path.{sym, ap, ◌∙◌, subst}
use mathlib.Core.List.{[]}
use native.Mathlib.Omega.{arith}
use lib.ListN.{length, get_or, take, drop}
use Rattle.std.specs.Prelude.{Option}
use Rattle.refusals.proofs.Told.{number-positive, err_passed}
use Rattle.model_file.specs.declared.Letter.{Letter}
use Rattle.model_file.specs.declared.Stage.{Stage}
use Rattle.model_file.specs.Records.{letter, stage}
use Rattle.model_read.specs.Steps.{after}
use Rattle.model_read.specs.declared.Place.{Place}
use Rattle.model_read.proofs.JudgePass.{rest_lent, next_record, Judging, refused_here, judging_step}
use Rattle.model_read.proofs.LeadingNodes.{judging_start}
use Rattle.model_read.proofs.judging.judge_all.Goals as goal

pub loop-r-init : goal.loop-r-init
loop-r-init c =
    let a = c.args in
    subst (Judging a.records.now _ _) (sym (rest_lent a.records.now a.nodes)) (judging_start a.records.now a.nodes c.requires.1)

pub returns-in_err-l : goal.returns-in_err-l
returns-in_err-l c =
    let a = c.args in
    let o = c.loop-r in
    let rest = take (length a.records.now - a.nodes) (drop a.nodes a.records.now) in
    let j = subst (Judging a.records.now o.stage o.p) (next_record rest o.r-index c.loop-r-test.true) o.invariant in
    let e = c.in_err-l.field-0.0 in
    let w = c.in_err-l.ensures in
    rw (err_passed _ c.from_residual.ensures.1) (refused_here a.records.now o.stage o.p _ _ j (λ z. omega (arith, number-positive e, w, z)) ∙ w)

pub loop-r-preserved : goal.loop-r-preserved
loop-r-preserved c =
    let a = c.args in
    let o = c.loop-r in
    let rest = take (length a.records.now - a.nodes) (drop a.nodes a.records.now) in
    let r = get_or rest o.r-index [] in
    let later = drop (o.r-index + 1) rest in
    let j = subst (Judging a.records.now o.stage o.p) (next_record rest o.r-index c.loop-r-test.true) o.invariant in
    let l = sym c.in_ok-l.ensures.0 in
    let st = c.stage_after-stage.ensures ∙ ap (λ (x : Option Letter). stage x r) l in
    let pl = c.place_after-p.ensures ∙ ap (λ (x : Option Letter). after x r o.p) l in
    let k = judging_step a.records.now o.stage o.p r later j c.in_ok-l.ensures.1 in
    subst (λ (x : Stage). Judging a.records.now x c.place_after-p.result later) (sym st) (subst (λ (x : Place). Judging a.records.now (stage (letter r) r) x later) (sym pl) k)
