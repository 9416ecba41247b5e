use Prim.Native.Nat.{◌≤◌, ◌<◌}
use mathlib.Core.Path.{◌≡◌, sym, ◌∙◌, subst}
use native.Mathlib.Omega.{arith}
use lib.ListN.{length}
use Rattle.std.specs.Prelude.{Ok, Err}
use Rattle.refusals.specs.declared.Refusal.TheVariants.{Work, Room}
use Rattle.refusals.proofs.Told.{number-positive, told_ok, told_err, err_passed}
use Rattle.mesh.specs.Model.{Model}
use Rattle.mesh.specs.Lent.{lent}
use Rattle.mesh.specs.Acceptance.{work_needed}
use Rattle.mesh.specs.declared.accepted.Accepted.{Accepted}
use Rattle.ring_lists.specs.Filling.{raw_rings, Filling}
use Rattle.ring_lists.proofs.Answers.{row_model, row_work, row_raw, row_welded, row_none, refused_so, filled_so, words_are}
use Rattle.ring_lists.proofs.fill_ring_lists.Goals as goal

pub returns-in_err-accepted : goal.returns-in_err-accepted
returns-in_err-accepted c =
    let m = lent c.args.model.now in
    let e = c.in_err-accepted.field-0.0 in
    let n = told_err {A = Accepted} (λ a. lent a.model) e _ _ c.in_err-accepted.ensures in
    rw (err_passed _ c.from_residual.ensures.1) (refused_so m c.args.raw.now c.args.welded.now c.args.work.now e (n ∙ sym (row_model m _ _ _ (λ z. omega (arith, number-positive e, n, z)))))

pub returns-then-work-work_needed : goal.returns-then-work-work_needed
returns-then-work-work_needed c =
    let s = c.in_ok-accepted.accepted in
    let is = (told_ok {A = Accepted} (λ a. lent a.model) s _ _ c.in_ok-accepted.ensures).1 in
    subst (λ (x : Model). Filling x c.args.raw.now c.args.raw.now c.args.welded.now c.args.welded.now c.args.work.now c.args.work.now (Err Work)) is
    (refused_so (lent s.model) _ _ _ Work (sym (row_work (lent s.model) c.args.raw.now c.args.welded.now c.args.work.now s.accepted (omega (arith, c.work_needed.ensures, c.if-work-work_needed.true)))))

pub returns-then-raw-accepted : goal.returns-then-raw-accepted
returns-then-raw-accepted c =
    let s = c.in_ok-accepted.accepted in
    let m = lent s.model in
    let is = (told_ok {A = Accepted} (λ a. lent a.model) s _ _ c.in_ok-accepted.ensures).1 in
    let k : s.ring_words ≡ length (raw_rings m) = words_are m s.faces s.ring_words s.tallied in
    let w : work_needed m ≤ length c.args.work.now = omega (arith, c.work_needed.ensures, c.if-work-work_needed.false) in
    let t : length c.args.raw.now < s.ring_words = c.if-raw-accepted.true in
    subst (λ (x : Model). Filling x c.args.raw.now c.args.raw.now c.args.welded.now c.args.welded.now c.args.work.now c.args.work.now (Err Room)) is
    (refused_so m _ _ _ Room (sym (row_raw m c.args.raw.now c.args.welded.now c.args.work.now s.accepted w (omega arith))))

pub returns-then-welded-accepted : goal.returns-then-welded-accepted
returns-then-welded-accepted c =
    let s = c.in_ok-accepted.accepted in
    let m = lent s.model in
    let is = (told_ok {A = Accepted} (λ a. lent a.model) s _ _ c.in_ok-accepted.ensures).1 in
    let k : s.ring_words ≡ length (raw_rings m) = words_are m s.faces s.ring_words s.tallied in
    let w : work_needed m ≤ length c.args.work.now = omega (arith, c.work_needed.ensures, c.if-work-work_needed.false) in
    let r : s.ring_words ≤ length c.args.raw.now = c.if-raw-accepted.false in
    let t : length c.args.welded.now < s.ring_words = c.if-welded-accepted.true in
    subst (λ (x : Model). Filling x c.args.raw.now c.args.raw.now c.args.welded.now c.args.welded.now c.args.work.now c.args.work.now (Err Room)) is
    (refused_so m _ _ _ Room (sym (row_welded m c.args.raw.now c.args.welded.now c.args.work.now s.accepted w (omega arith) (omega arith))))

pub store-requires-clause-raw_in_bounds : goal.store-requires-clause-raw_in_bounds
store-requires-clause-raw_in_bounds c =
    let s = c.in_ok-accepted.accepted in
    let r : s.ring_words ≤ length c.args.raw.now = c.if-raw-accepted.false in
    omega (arith, words_are (lent s.model) s.faces s.ring_words s.tallied)

pub store-requires-clause-welded_in_bounds : goal.store-requires-clause-welded_in_bounds
store-requires-clause-welded_in_bounds c =
    let s = c.in_ok-accepted.accepted in
    let r : s.ring_words ≤ length c.args.welded.now = c.if-welded-accepted.false in
    omega (arith, words_are (lent s.model) s.faces s.ring_words s.tallied)

pub returns : goal.returns
returns c =
    let s = c.in_ok-accepted.accepted in
    let m = lent s.model in
    let is = (told_ok {A = Accepted} (λ a. lent a.model) s _ _ c.in_ok-accepted.ensures).1 in
    let k : s.ring_words ≡ length (raw_rings m) = words_are m s.faces s.ring_words s.tallied in
    let w : work_needed m ≤ length c.args.work.now = omega (arith, c.work_needed.ensures, c.if-work-work_needed.false) in
    let r : s.ring_words ≤ length c.args.raw.now = c.if-raw-accepted.false in
    let t : s.ring_words ≤ length c.args.welded.now = c.if-welded-accepted.false in
    let x : length (raw_rings m) ≤ length c.args.raw.now = omega arith in
    let y : length (raw_rings m) ≤ length c.args.welded.now = omega arith in
    subst (λ (z : Model). Filling z c.args.raw.now c.store.new.raw c.args.welded.now c.store.new.welded c.args.work.now c.store.new.work (Ok s.ring_words)) is
    (filled_so m _ _ _ _ _ _ s.ring_words (row_none m c.args.raw.now c.args.welded.now c.args.work.now s.accepted w x y) w x y k c.store.ensures)
