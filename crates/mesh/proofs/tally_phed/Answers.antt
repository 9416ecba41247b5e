use mathlib.Core.Path.{sym, ◌∙◌}
use Rattle.mesh.proofs.CellKinds.{polyhedron, no_words}
use Rattle.mesh.proofs.tally_phed.Goals as goal

pub returns-then-is_empty : goal.returns-then-is_empty
returns-then-is_empty c = no_words c.args.words.now (sym c.is_empty.ensures ∙ c.if-is_empty.true)

pub returns : goal.returns
returns c = polyhedron c.args.words.now _ (sym c.is_empty.ensures ∙ c.if-is_empty.false) c.tally_runs.ensures
