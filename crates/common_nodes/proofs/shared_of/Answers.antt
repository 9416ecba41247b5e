-- `common_nodes::shared_of` meets its contract.
use mathlib.Core.Path.{sym, ap, subst, ◌∙◌}
use native.Mathlib.Omega.{arith}
use lib.ListN.{length}
use Rattle.geometry.specs.Steps.{InNodes}
use Rattle.common_nodes.proofs.Picking.{common_in, common_few}
use Rattle.common_nodes.proofs.shared_of.Goals as goal

pub key_centroid-requires : goal.key_centroid-requires
key_centroid-requires c =
    let a = c.args in
    let is = c.as_slice.ensures.value ∙ c.list_common.ensures in (
      subst (InNodes a.coords.now) (sym is) (common_in a.coords.now a.ix.now a.f a.g c.requires.f_lt_faces.0 c.requires.nodes_value),
      omega (arith, ap length is, common_few a.ix.now a.f a.g c.requires.f_lt_faces.0),
    )
