-- `index::Index::list_length` meets its contract. Two offsets that follow each other differ by the length of the list.
use mathlib.Core.Path.{◌∙◌}
use native.Mathlib.Omega.{arith}
use Rattle.index.proofs.Read.{list_long, long}
use Rattle.index.proofs.by_node.Index.list_length.Goals as goal

pub span-requires : goal.span-requires
span-requires c =
    let i = c.args.self.now in
    (omega (arith, long i.at i.base.now i.indexed, c.requires), (list_long i.at i.base.now i.indexed c.args.v c.requires).0)

pub returns : goal.returns
returns c =
    let i = c.args.self.now in c.span.ensures ∙ (list_long i.at i.base.now i.indexed c.args.v c.requires).1
