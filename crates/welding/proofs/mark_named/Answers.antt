-- What is left to be marked, marked now, is all marked at entry.
use Prim.Native.Nat.{ℕ}
use mathlib.Core.Path.{sym, ap, ◌∙◌}
use mathlib.Core.List.{List}
use native.Mathlib.Omega.{arith}
use lib.ListN.{drop_of_length-le}
use Rattle.mesh.specs.Rings.{nodes_in}
use Rattle.snap.specs.Steps.{put_all}
use Rattle.welding.proofs.Naming.{named_at, nodes_skip, nodes_next}
use Rattle.welding.proofs.mark_named.Goals as goal

pub loop-word-preserved-then-w : goal.loop-word-preserved-then-w
loop-word-preserved-then-w c =
    let l = c.loop-word in
    let a = c.args in
    ap (λ (ns : List ℕ). put_all a.k 1 ns l.work) (sym (nodes_skip a.words.now l.word-index (omega arith) c.if-w.true)) ∙ l.invariant

pub bounds-work-k : goal.bounds-work-k
bounds-work-k c =
    omega (arith, named_at c.args.n c.args.words.now c.loop-word.word-index c.requires.1 (omega arith) c.if-w.false)

pub loop-word-preserved : goal.loop-word-preserved
loop-word-preserved c =
    let l = c.loop-word in
    let a = c.args in
    ap (λ (ns : List ℕ). put_all a.k 1 ns l.work) (sym (nodes_next a.words.now l.word-index (omega arith) c.if-w.false)) ∙ l.invariant

pub returns : goal.returns
returns c =
    let l = c.loop-word in
    let a = c.args in
    ap (λ (ws : List ℕ). put_all a.k 1 (nodes_in ws) l.work) (sym (drop_of_length-le a.words.now (omega arith))) ∙ l.invariant
