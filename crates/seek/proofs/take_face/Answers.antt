-- `seek::take_face` meets its contract. How many runs had g next is how many nodes it shares (`counted`).
use Prim.Native.Nat.{ℕ, ◌+◌, ◌<◌}
use mathlib.Core.List.{List, map}
use mathlib.Core.Path.{sym, ap, ◌∙◌, subst}
use lib.Seq.{sets}
use Rattle.laws.specs.Lists.{up_from}
use Rattle.index.specs.Faces.{base}
use Rattle.index.proofs.Read.{to_index}
use Rattle.merge.specs.Runs.{next}
use Rattle.seek.specs.Steps.{Runs}
use Rattle.seek.proofs.Merging.{counted, passed}
use Rattle.seek.proofs.take_face.Goals as goal

pub is_candidate-wanted-requires-clause-c_value : goal.is_candidate-wanted-requires-clause-c_value
is_candidate-wanted-requires-clause-c_value c =
    let a = c.args in
    let m = a.runs.now in
    let i = c.new-ix.result in
    let e = c.new-ix.ensures in
    c.pass-c.ensures.value
    ∙ counted i.at i.base.now a.lo m.count a.g m.from m.to (to_index i (λ p b. Runs p b a.lo m.count a.g m.from m.to) e c.requires.runs) (to_index i (λ p b. a.g < p.faces) e c.requires.g_lt_faces.0)

pub returns-clause-runs_2 : goal.returns-clause-runs_2
returns-clause-runs_2 c =
    let a = c.args in
    let m = a.runs.now in
    let r = c.pass-c.new.self in
    let b = base a.at a.work.now in
    let e = c.pass-c.ensures in
    let here = e.from ∙ ap (λ (l : List ℕ). sets m.from 0 (map (next l m.from m.to a.g) (up_from 0 m.count))) c.new-ix.ensures.0 in
    subst (λ (k : ℕ). Runs a.at b a.lo k (a.g + 1) r.from r.to) (sym e.others.0)
    (subst (λ (l : List ℕ). Runs a.at b a.lo m.count (a.g + 1) r.from l) (sym e.others.1)
    (subst (λ (l : List ℕ). Runs a.at b a.lo m.count (a.g + 1) l m.to) (sym here) (passed a.at b a.lo m.count a.g m.from m.to c.requires.runs)))
