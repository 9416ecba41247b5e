use Prim.Native.Nat.{ℕ, ◌-◌}
use mathlib.Core.Path.{◌≡◌, sym, ap, ◌∙◌}
use lib.Dec.{eqb}
use lib.ListN.{length, take, drop, length-drop}
use lib.Seq.{take-length}
use borrow.Author.Rules.{rules}
use borrow.Author.Tests.{tests}
use Rattle.std.proofs.lemmas.Iterator.{YieldsList-from_slice}
use Rattle.std.proofs.lemmas.Iterator.Search.{position_from_yields_List}
use Rattle.std.specs.Prelude.{Option}
use Rattle.std.specs.Option.{unwrap_or}
use Rattle.mesh.specs.Rings.{separator}
use Rattle.mesh.specs.Steps.{lead}
use Rattle.mesh.proofs.Runs.{lead_found}
use Rattle.faces.proofs.run_length.Goals as goal

pub returns : goal.returns
returns c =
    let w = c.args.words.now in
    let rest = take (length w - c.args.at) (drop c.args.at w) in
    let e : rest ≡ drop c.args.at w = ap (λ (k : ℕ). take k (drop c.args.at w)) (sym (length-drop c.args.at w)) ∙ take-length (drop c.args.at w) in
    let p = position_from_yields_List (λ w. eqb w separator) _ _ c.position.result c.position.ensures.ran (YieldsList-from_slice rest (cc)) (λ x b q k. search (rules, tests)) in
    c.unwrap_or.ensures ∙ ap (λ (i : Option ℕ). unwrap_or i (length rest)) p ∙ lead_found rest ∙ ap lead e
