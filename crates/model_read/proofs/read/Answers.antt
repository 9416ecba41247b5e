use mathlib.Core.Bool.{false}
use mathlib.Core.Path.{◌≡◌, sym, ap, ◌∙◌, subst}
use mathlib.Core.List.{List}
use Prim.Native.Nat.{ℕ, ◌/◌}
use native.Mathlib.Omega.{arith}
use lib.ListN.{length}
use Rattle.laws.specs.Lists.{All}
use Rattle.model_file.specs.File.{length_off, last_of}
use Rattle.model_file.specs.Held.{Byte}
use Rattle.model_file.specs.Steps.{judge}
use Rattle.model_file.specs.declared.Stage.TheVariants.{Nodes}
use Rattle.laws.proofs.Holding.{all_known}
use Rattle.refusals.specs.declared.Refusal.TheVariants.{Room}
use Rattle.refusals.proofs.Told.{number-positive, err_passed}
use Rattle.model_read.specs.Steps.{Counted, Fitting, Filled}
use Rattle.model_read.proofs.Answering.{chopped, length_whole, last_stands, found_is_lem, refused_records, refused_room, refused_none, fitting, reading_refused, reading_done}
use Rattle.model_read.proofs.read.Goals as goal

pub judge_all-requires : goal.judge_all-requires
judge_all-requires c =
    let w = length_whole c.args.bytes.now (sym c.length_off.ensures ∙ c.if-length_off.false) in
    (omega (arith, w.few, c.as_chunks.ensures.front_len), c.leading_nodes-nodes.ensures)

pub returns-in_err-p : goal.returns-in_err-p
returns-in_err-p c =
    let each_byte : All Byte c.args.bytes.now = all_known Byte 0 c.args.bytes.now (λ i. (c.type_inv.bytes i).fits) in
    let right_length : length_off (length c.args.bytes.now) ≡ false = sym c.length_off.ensures ∙ c.if-length_off.false in
    let a = c.args in
    let e = c.in_err-p.field-0.0 in
    let w = ap (judge Nodes) (sym (c.as_chunks.ensures.front ∙ chopped (length c.args.bytes.now / 32) c.args.bytes.now)) ∙ c.in_err-p.ensures in
    rw (err_passed _ c.from_residual.ensures.1) (reading_refused a.bytes.now a.coords.now a.kinds.now a.ends.now a.words.now each_byte e
    (refused_records a.bytes.now a.coords.now a.kinds.now a.ends.now a.words.now right_length (λ z. omega (arith, number-positive e, w, z)) ∙ w))

pub returns-then-room_off : goal.returns-then-room_off
returns-then-room_off c =
    let each_byte : All Byte c.args.bytes.now = all_known Byte 0 c.args.bytes.now (λ i. (c.type_inv.bytes i).fits) in
    let right_length : length_off (length c.args.bytes.now) ≡ false = sym c.length_off.ensures ∙ c.if-length_off.false in
    let a = c.args in
    let j = subst (λ (rs : List (List ℕ)). Counted rs c.in_ok-p.p) (c.as_chunks.ensures.front ∙ chopped (length c.args.bytes.now / 32) c.args.bytes.now) c.in_ok-p.ensures in
    reading_refused a.bytes.now a.coords.now a.kinds.now a.ends.now a.words.now each_byte Room
    (refused_room a.bytes.now a.coords.now a.kinds.now a.ends.now a.words.now c.in_ok-p.p j right_length (sym c.room_off.ensures ∙ c.if-room_off.true))

pub fill_all-requires : goal.fill_all-requires
fill_all-requires c =
    let right_length : length_off (length c.args.bytes.now) ≡ false = sym c.length_off.ensures ∙ c.if-length_off.false in
    let a = c.args in
    let front = c.as_chunks.ensures.front ∙ chopped (length c.args.bytes.now / 32) c.args.bytes.now in
    let j = subst (λ (rs : List (List ℕ)). Counted rs c.in_ok-p.p) front c.in_ok-p.ensures in
    let fits = fitting a.bytes.now a.coords.now a.kinds.now a.ends.now a.words.now c.in_ok-p.p j right_length (sym c.room_off.ensures ∙ c.if-room_off.false) in
    (subst (λ (rs : List (List ℕ)). Fitting rs (length a.coords.now) (length a.kinds.now) (length a.ends.now) (length a.words.now)) (sym front) fits, c.leading_nodes-nodes.ensures)

pub returns : goal.returns
returns c =
    let each_byte : All Byte c.args.bytes.now = all_known Byte 0 c.args.bytes.now (λ i. (c.type_inv.bytes i).fits) in
    let right_length : length_off (length c.args.bytes.now) ≡ false = sym c.length_off.ensures ∙ c.if-length_off.false in
    let a = c.args in
    let s = a.bytes.now in
    let w = length_whole s right_length in
    let room = sym c.room_off.ensures ∙ c.if-room_off.false in
    let p = c.in_ok-p.p in
    let k = c.as_chunks in
    let rs = k.result.0.now in
    let front = k.ensures.front ∙ chopped (length s / 32) s in
    let j = subst (λ (x : List (List ℕ)). Counted x p) front c.in_ok-p.ensures in
    let e = c.fill_all in
    let filled = subst (λ (x : List (List ℕ)). Filled x a.coords.now e.new.coords a.kinds.now e.new.kinds a.ends.now e.new.ends a.words.now e.new.words) front e.ensures in
    let last = sym (last_stands rs (omega (arith, k.ensures.front_len, w.some, w.whole))) ∙ ap last_of front in
    reading_done s a.coords.now a.kinds.now a.ends.now a.words.now each_byte e.new.coords e.new.kinds e.new.ends e.new.words c.found_in.result
    (c.found_in.ensures ∙ found_is_lem s _ p last j.coords j.cells j.words)
    (refused_none s a.coords.now a.kinds.now a.ends.now a.words.now p j right_length room)
    (fitting s a.coords.now a.kinds.now a.ends.now a.words.now p j right_length room) filled
