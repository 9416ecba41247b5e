-- `pairs::prepare` meets its contract. What the index ensures is what the searches require (`ready_first`).
use Prim.Native.Nat.{ℕ}
use mathlib.Core.List.{List}
use mathlib.Core.Path.{◌≡◌, sym, ap, ◌∙◌, subst}
use native.Mathlib.Omega.{arith}
use Rattle.index.specs.Faces.{input, base, Indexed}
use Rattle.index.proofs.Built.{built, input_is}
use Rattle.index.proofs.Read.{of_index}
use Rattle.seek.specs.Candidates.{by_nodes}
use Rattle.pairs.specs.Work.{is_by_nodes}
use Rattle.pairs.proofs.prepare.Goals as goal

pub new-requires : goal.new-requires
new-requires c =
    let a = c.args in
    let q = c.requires in (
      omega (arith, q.room.found_at, q.room.ends, c.build_index.auto.work),
      subst (λ (v : List ℕ). Indexed a.at (base a.at v)) (sym c.build_index.ensures) (built a.at a.work.now q.laid q.room),
    )

pub returns-clause-value : goal.returns-clause-value
returns-clause-value c =
    let a = c.args in
    let q = c.requires in
    of_index c.new.result (λ p b. by_nodes c.less_work.result ≡ is_by_nodes p (input p b)) c.new.ensures c.less_work.ensures
    ∙ ap (λ (v : List ℕ). is_by_nodes a.at (input a.at (base a.at v))) c.build_index.ensures ∙ ap (is_by_nodes a.at) (input_is a.at a.work.now q.laid q.room)
