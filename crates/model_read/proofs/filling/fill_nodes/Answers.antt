use mathlib.Core.Path.{sym, ◌∙◌}
use Rattle.model_read.proofs.LeadingNodes.{nodes_more, nodes_end}
use Rattle.model_read.proofs.filling.fill_nodes.Goals as goal

pub loop-i-preserved : goal.loop-i-preserved
loop-i-preserved c = nodes_more c.loop-i.coords c.put_node.new.coords c.loop-i.i c.args.nodes.now c.loop-i-test.true c.put_node.ensures ∙ c.loop-i.invariant

pub returns : goal.returns
returns c = sym (nodes_end c.loop-i.coords c.loop-i.i c.args.nodes.now c.loop-i-test.false) ∙ c.loop-i.invariant
