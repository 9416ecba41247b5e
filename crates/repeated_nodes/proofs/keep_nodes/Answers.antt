-- `repeated_nodes::keep_nodes` meets its contract: the record has the finding's fields and centre.
use mathlib.Core.Path.{refl, sym, ap₂, ◌∙◌}
use Rattle.geometry.specs.declared.Point.{Point}
use Rattle.geometry.specs.Points.{midpoint_of}
use Rattle.findings.specs.Findings.{repeated}
use Rattle.findings.specs.Records.{fields_of, centre_in}
use Rattle.findings.specs.Rules.{rules_with}
use Rattle.layout.specs.ByCell.{plain_rules}
use Rattle.repeated_nodes.proofs.keep_nodes.Goals as goal

pub returns : goal.returns
unfolding fields_of centre_in rules_with
returns c tol =
    let a = c.args in
    c.keep.ensures (plain_rules a.coords.now tol) (repeated a.c a.a a.b)
    refl
    (sym (c.midpoint-middle.ensures ∙ ap₂ (λ (s t : Point). midpoint_of s t) c.point3-first.ensures c.point3-second.ensures))
