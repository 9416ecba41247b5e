use Prim.Native.Nat.{ℕ, ◌+◌}
use mathlib.Core.Path.{sym, ap, ◌∙◌}
use native.Mathlib.Numerals.{add-one}
use lib.ListN.{take, drop, length-drop}
use lib.Seq.{take-length}
use Rattle.std.proofs.lemmas.List.{drop_min}
use Rattle.mesh.proofs.phed.behind.Goals as goal

pub returns : goal.returns
returns c =
    let w = c.args.words.now in
    let i = c.min.result in
    ap (λ (k : ℕ). take k (drop i w)) (sym (length-drop i w)) ∙ take-length (drop i w) ∙ ap (λ (k : ℕ). drop k w) c.min.ensures ∙ drop_min (c.args.n + 1) w ∙ ap (λ (k : ℕ). drop k w) (add-one c.args.n)
