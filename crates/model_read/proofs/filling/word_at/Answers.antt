use Prim.Native.Nat.{ℕ}
use mathlib.Core.Path.{◌≡◌, sym, ap, ◌∙◌}
use mathlib.Core.Bool.{Bool, cond}
use lib.ListN.{take, drop}
use borrow.Author.Tests.{eq-eqb, ne_eqb}
use Rattle.laws.specs.Bytes.{number}
use Rattle.mesh.specs.Rings.{separator}
use Rattle.model_read.proofs.WordStores.{two_bytes}
use Rattle.model_read.proofs.filling.word_at.Goals as goal

pub returns-then-w : goal.returns-then-w
returns-then-w c =
    let read : ℕ = number (take 2 (drop c.args.at c.args.r.now)) in
    let is_read : c.get-w.result ≡ read = c.get-w.ensures ∙ two_bytes c.args.r.now c.args.at in
    sym (ap (λ (t : Bool). cond t separator read) (eq-eqb _ _ (sym is_read ∙ c.if-w.true)))

pub returns : goal.returns
returns c =
    let read : ℕ = number (take 2 (drop c.args.at c.args.r.now)) in
    let is_read : c.get-w.result ≡ read = c.get-w.ensures ∙ two_bytes c.args.r.now c.args.at in
    is_read ∙ sym (ap (λ (t : Bool). cond t separator read) (ne_eqb _ _ (λ z. c.if-w.false (is_read ∙ z))))
