-- `index::Index::set_size` meets its contract. The next start less the start is the set's length.
use mathlib.Core.Path.{◌∙◌}
use Rattle.index.proofs.Read.{set_long}
use Rattle.index.proofs.by_node.Index.set_size.Goals as goal

pub returns : goal.returns
returns c =
    let i = c.args.self.now in c.span.ensures ∙ set_long i.at i.base.now i.indexed c.args.g c.requires
