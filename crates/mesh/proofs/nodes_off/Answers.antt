use mathlib.Core.Path.{sym, ◌∙◌}
use native.Mathlib.Omega.{arith}
use Rattle.laws.proofs.ListLaws.{any_more, any-done}
use Rattle.mesh.specs.Acceptance.{node_off}
use Rattle.mesh.specs.Kinds.{kind_number}
use Rattle.mesh.proofs.nodes_off.Goals as goal

pub loop-word-preserved : goal.loop-word-preserved
loop-word-preserved c =
    let a = c.args in
    let l = c.loop-word in
    any_more (node_off a.nodes (kind_number a.kind)) a.words.now l.word-index 0 l.off c.node_off-off.result (omega arith) c.node_off-off.ensures ∙ l.invariant

pub returns : goal.returns
returns c =
    let a = c.args in
    let l = c.loop-word in
    sym (any-done (node_off a.nodes (kind_number a.kind)) a.words.now l.word-index l.off (omega arith)) ∙ l.invariant
