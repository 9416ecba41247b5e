-- Each return has the tests that led there; the rest is said on lists, in Answers.
use Prim.Native.Nat.{ℕ, ◌+◌, ◌*◌, ◌≤◌, ◌<◌}
use mathlib.Core.Path.{◌≡◌, sym, ap, ◌∙◌, subst}
use mathlib.Core.List.{List, ◌++◌}
use native.Mathlib.Omega.{arith}
use lib.ListN.{length, drop, replicate}
use lib.Seq.{sets}
use Rattle.laws.specs.Limits.{node_limit}
use Rattle.laws.specs.Merging.{region}
use Rattle.laws.proofs.Stores.{filled_front}
use Rattle.refusals.specs.declared.Refusal.TheVariants.{Room}
use Rattle.refusals.proofs.Told.{number-positive, told_ok, told_err, err_passed}
use Rattle.geometry.specs.Coordinates.{node_count}
use Rattle.mesh.specs.Lent.{lent}
use Rattle.mesh.specs.declared.CellTally.{CellTally}
use Rattle.mesh.proofs.CellWords.{words_low, few_nodes}
use Rattle.welding.proofs.Answers.{row_mesh, row_map, row_scratch, unflagged, accepts_mesh, refusing, filling}
use Rattle.welding.proofs.Through.{slice_region}
use Rattle.welding.proofs.weld.Goals as goal

pub returns-in_err-judge_mesh : goal.returns-in_err-judge_mesh
returns-in_err-judge_mesh c =
    let m = lent c.args.model.now in
    let e = c.in_err-judge_mesh.field-0.0 in
    let n = told_err {A = CellTally} {B = Unit {0}} _ e _ _ c.in_err-judge_mesh.ensures.answered in
    rw (err_passed _ c.from_residual.ensures.1) (refusing m c.args.map.now c.args.scratch.now e (n ∙ sym (row_mesh m _ _ (λ z. omega (arith, number-positive e, n, z)))))

pub returns-then-map-n : goal.returns-then-map-n
returns-then-map-n c =
    let m = lent c.args.model.now in
    let z = told_ok {A = CellTally} {B = Unit {0}} _ c.in_ok-judge_mesh.field-0 _ _ c.in_ok-judge_mesh.ensures.answered in
    let h : length c.args.map.now < node_count m.coords = omega arith in
    refusing m c.args.map.now c.args.scratch.now Room (sym (row_map m _ _ z.0 h))

pub returns-then-scratch-n : goal.returns-then-scratch-n
returns-then-scratch-n c =
    let m = lent c.args.model.now in
    let z = told_ok {A = CellTally} {B = Unit {0}} _ c.in_ok-judge_mesh.field-0 _ _ c.in_ok-judge_mesh.ensures.answered in
    let h : node_count m.coords ≤ length c.args.map.now = omega arith in
    let k : length c.args.scratch.now < 3 * node_count m.coords = omega arith in
    refusing m c.args.map.now c.args.scratch.now Room (sym (row_scratch m _ _ z.0 h k))

pub weld_named-requires : goal.weld_named-requires
weld_named-requires c =
    let m = lent c.args.model.now in
    let z = told_ok {A = CellTally} {B = Unit {0}} _ c.in_ok-judge_mesh.field-0 _ _ c.in_ok-judge_mesh.ensures.answered in
    let h = accepts_mesh m z.0 in
    let few : node_count m.coords ≤ node_limit = few_nodes (unflagged m) h in
    (omega arith, omega arith, h.places, words_low (unflagged m) h)

pub returns : goal.returns
returns c =
    let m = lent c.args.model.now in
    let z = told_ok {A = CellTally} {B = Unit {0}} _ c.in_ok-judge_mesh.field-0 _ _ c.in_ok-judge_mesh.ensures.answered in
    let room : node_count m.coords ≤ length c.args.map.now = omega arith in
    let words : 3 * node_count m.coords ≤ length c.args.scratch.now = omega arith in
    let W = c.weld_named in
    let n = c.node_count-n.ensures in
    filling m c.args.map.now c.args.scratch.now _ W.new.work _ z.0 room words W.auto.work
    W.ensures
    (ap (λ (l : List ℕ). l ++ drop c.node_count-n.result c.args.map.now) (c.copy_words.ensures ∙ slice_region W.new.work (c.node_count-n.result + c.node_count-n.result) c.node_count-n.result)
    ∙ ap (λ (k : ℕ). region (k + k) k W.new.work ++ drop k c.args.map.now) n)
    (subst (λ (k : ℕ). c.fill.new.self ++ drop (3 * c.node_count-n.result) W.new.work ≡ sets W.new.work 0 (replicate (3 * k) 0)) n
    (filled_front W.new.work (3 * c.node_count-n.result) 0 (omega arith) (c.fill.ensures.after (λ y e. e))))
