use Prim.Native.Nat.{ℕ, ◌+◌, ◌*◌}
use mathlib.Core.List.{List}
use mathlib.Core.Path.{sym, ap, ◌∙◌}
use lib.ListN.{drop}
use lib.Seq.{sets}
use Rattle.laws.specs.Lists.{each}
use Rattle.model_write.proofs.Passes.{record_of_node, nodes_chunked, nodes_more, nodes_done}
use Rattle.model_write.proofs.put_nodes.Goals as goal

pub loop-i-preserved : goal.loop-i-preserved
loop-i-preserved c =
    let ts = c.as_chunks.result.0.now in
    let l = c.loop-i in
    ap (λ (x : List ℕ). sets x (32 * (l.i + 1)) (each record_of_node (drop (l.i + 1) ts))) (c.put.ensures ∙ ap (sets l.out (32 * l.i)) c.node_record.ensures)
    ∙ nodes_more ts l.i l.out c.loop-i-test.true
    ∙ l.invariant

pub returns : goal.returns
returns c =
    let a = c.args in
    let k = c.as_chunks in
    let l = c.loop-i in
    sym (nodes_done k.result.0.now l.i l.out c.loop-i-test.false)
    ∙ l.invariant
    ∙ ap (sets a.out.now 0) (ap (each record_of_node) k.ensures.front ∙ nodes_chunked a.coords.now)
