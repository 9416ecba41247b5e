use Prim.Native.Nat.{ℕ}
use mathlib.Core.Path.{ap, ◌∙◌}
use lib.Dec.{eqb}
use lib.ListN.{length}
use borrow.Author.Rules.{rules}
use borrow.Author.Tests.{tests}
use Rattle.std.proofs.lemmas.Iterator.{YieldsList-from_slice}
use Rattle.std.proofs.lemmas.Iterator.Search.{position_from_yields_List}
use Rattle.std.specs.Prelude.{Option}
use Rattle.std.specs.Option.{unwrap_or}
use Rattle.mesh.specs.Rings.{separator}
use Rattle.mesh.proofs.Runs.{lead_found}
use Rattle.mesh.proofs.phed.lead.Goals as goal

pub returns : goal.returns
returns c =
    let p = position_from_yields_List (λ w. eqb w separator) _ _ c.position.result c.position.ensures.ran (YieldsList-from_slice c.args.words.now (cc)) (λ x b q k. search (rules, tests)) in
    c.unwrap_or.ensures ∙ ap (λ (i : Option ℕ). unwrap_or i (length c.args.words.now)) p ∙ lead_found c.args.words.now
