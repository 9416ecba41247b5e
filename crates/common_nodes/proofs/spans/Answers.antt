-- `common_nodes::spans` meets its contract.
use mathlib.Core.Path.{sym, subst, ◌∙◌}
use Rattle.geometry.specs.Steps.{InNodes}
use Rattle.common_nodes.proofs.Picking.{common_in}
use Rattle.common_nodes.proofs.spans.Goals as goal

pub common_nodes_span_area-requires : goal.common_nodes_span_area-requires
common_nodes_span_area-requires c =
    let a = c.args in
    subst (InNodes a.coords.now) (sym (c.as_slice.ensures.value ∙ c.list_common.ensures)) (common_in a.coords.now a.ix.now a.f a.g c.requires.f_lt_faces.0 c.requires.nodes_value)
