use Prim.Native.Nat.{◌+◌}
use mathlib.Core.Path.{sym, ap, ◌∙◌}
use native.Mathlib.Nat.{add-zero}
use lib.ListN.{drop}
use Rattle.std.specs.Prelude.{Some}
use Rattle.model_file.specs.declared.Letter.{Letter}
use Rattle.model_file.specs.Records.{count}
use Rattle.model_file.proofs.Fields.{length-words_at}
use Rattle.model_read.specs.Steps.{after}
use Rattle.model_read.proofs.judging.place_after.Goals as goal

pub returns-in-Cell : goal.returns-in-Cell
returns-in-Cell c =
    let a = c.args in
    sym (ap (λ (l : Letter). after (Some l) a.r.now a.p) c.in-Cell.is
    ∙ (λ i. record { coords = add-zero a.p.coords i; cells = a.p.cells + 1; words = a.p.words + length-words_at (count a.r.now) (drop 4 a.r.now) i }))

pub returns-in-More : goal.returns-in-More
returns-in-More c =
    let a = c.args in
    sym (ap (λ (l : Letter). after (Some l) a.r.now a.p) c.in-More.is
    ∙ (λ i. record { coords = add-zero a.p.coords i; cells = add-zero a.p.cells i; words = a.p.words + length-words_at (count a.r.now) (drop 4 a.r.now) i }))
