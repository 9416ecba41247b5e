use Prim.Native.Nat.{ℕ, ◌+◌, ◌*◌}
use mathlib.Core.Path.{ap, ◌∙◌}
use native.Mathlib.Omega.{arith}
use lib.Seq.{sets}
use Rattle.laws.specs.Lists.{each}
use Rattle.refusals.specs.declared.Refusal.TheVariants.{Room}
use Rattle.mesh.specs.Lent.{lent}
use Rattle.mesh.specs.Model.{cells_of}
use Rattle.model_file.proofs.Accepting.{accepted}
use Rattle.model_file.specs.File.{cell_records}
use Rattle.model_file.specs.Steps.{join}
use Rattle.model_write.proofs.Answering.{few_records, encode_long, three_passes, refused_room, writing_refused, writing_done}
use Rattle.model_write.proofs.write_accepted.Goals as goal

pub overflow_add-size : goal.overflow_add-size
overflow_add-size c =
    let m = c.args.model.now in
    omega (arith, few_records (lent m.model) (accepted (lent m.model) m.accepted), c.count_cells-c.ensures, c.node_count-n.ensures)

pub overflow_add-size-2 : goal.overflow_add-size-2
overflow_add-size-2 c =
    let m = c.args.model.now in
    omega (arith, few_records (lent m.model) (accepted (lent m.model) m.accepted), c.count_cells-c.ensures, c.node_count-n.ensures)

pub overflow_mul-size : goal.overflow_mul-size
overflow_mul-size c =
    let m = c.args.model.now in
    omega (arith, few_records (lent m.model) (accepted (lent m.model) m.accepted), c.count_cells-c.ensures, c.node_count-n.ensures)

pub returns-then-out-size : goal.returns-then-out-size
returns-then-out-size c =
    let m = lent c.args.model.now.model in
    let o = c.args.out.now in
    writing_refused m o c.requires Room (refused_room m o c.args.model.now.accepted (omega (arith, c.if-out-size.true, c.count_cells-c.ensures, c.node_count-n.ensures, encode_long m)))

pub put_nodes-requires : goal.put_nodes-requires
put_nodes-requires c =
    let m = c.args.model.now in
    omega (arith, c.if-out-size.false, c.node_count-n.ensures)

pub returns : goal.returns
returns c =
    let a = c.args in
    let m = lent a.model.now.model in
    let n = c.count_cells-c.ensures in
    let k = c.node_count-n.ensures in
    let e1 = c.put_nodes.ensures in
    let e2 = c.put_cells.ensures ∙ ap (λ (x : ℕ). sets c.put_nodes.new.out (32 * x) (join (each cell_records (cells_of m)))) k in
    let e3 = c.put.ensures ∙ (λ i. sets c.put_cells.new.out (32 * (k i + n i)) (c.last_record.ensures i)) in
    writing_done m a.out.now c.requires _ _ a.model.now.accepted (omega (arith, n, k, encode_long m)) (omega (arith, c.if-out-size.false, n, k, encode_long m))
    (three_passes m a.out.now c.put_nodes.new.out c.put_cells.new.out _ e1 e2 e3)
