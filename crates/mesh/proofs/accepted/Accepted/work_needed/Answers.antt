use Prim.Native.Nat.{◌+◌, ◌*◌, ◌<◌}
use lib.ListN.{length}
use native.Mathlib.Omega.{arith}
use borrow.Author.Tests.{ltb-false}
use Rattle.laws.specs.Limits.{cell_limit, word_limit}
use Rattle.geometry.specs.Coordinates.{node_count}
use Rattle.mesh.specs.Lent.{lent}
use Rattle.mesh.specs.declared.accepted.Accepted.{Accepted}
use Rattle.mesh.proofs.Accepts.{accepts}
use Rattle.mesh.proofs.CellWords.{few_nodes}
use Rattle.mesh.proofs.ModelTable.{work_is_lem}
use Rattle.mesh.proofs.accepted.Accepted.work_needed.Goals as goal

-- the whole sum, and so each part of it, is small
small : (s : Accepted) → 8 * s.ring_words + 4 * s.faces + 8 * length s.model.kinds.now + 4 * node_count s.model.coords.now + 4 * length s.model.words.now + 16 < 68719476736
small s =
    let h = accepts (lent s.model) s.accepted in
    omega (
      arith,
      s.tallied.few,
      s.tallied.small,
      few_nodes (lent s.model) h,
      ltb-false cell_limit (length s.model.kinds.now) h.cells,
      ltb-false word_limit (length s.model.words.now) h.words,
    )

pub overflow_mul-result-3 : goal.overflow_mul-result-3
overflow_mul-result-3 c = omega (arith, small c.args.self.now)

pub overflow_add-result-2 : goal.overflow_add-result-2
overflow_add-result-2 c = omega (arith, small c.args.self.now)

pub overflow_add-result-3 : goal.overflow_add-result-3
overflow_add-result-3 c = omega (arith, small c.args.self.now, c.node_count.ensures)

pub overflow_add-result-4 : goal.overflow_add-result-4
overflow_add-result-4 c = omega (arith, small c.args.self.now, c.node_count.ensures)

pub overflow_add-result-5 : goal.overflow_add-result-5
overflow_add-result-5 c = omega (arith, small c.args.self.now, c.node_count.ensures)

pub returns : goal.returns
returns c = let s = c.args.self.now in rw c.node_count.ensures (work_is_lem (lent s.model) s.faces s.ring_words s.tallied)
