-- `full_reads::read_full` meets its contract: what was read stands behind what was read before.
use Prim.Native.Nat.{ℕ, ◌-◌}
use mathlib.Core.Path.{sym, subst}
use mathlib.Core.List.{List}
use native.Mathlib.Omega.{arith}
use lib.ListN.{length, drop}
use Rattle.std.proofs.Common.{rules}
use Rattle.std.proofs.KnownBytes.{Consumes-trans}
use Rattle.std.specs.Io.KnownBytes.{Consumes}
use Rattle.full_reads.proofs.Parts.{front}
use Rattle.full_reads.proofs.read_full.Goals as goal

pub loop-done-preserved : goal.loop-done-preserved
loop-done-preserved g c =
    let o = c.loop-done in
    let left = g.R.Read.remaining in
    let n = c.in_ok-n.n in
    let part = c.read.new.buf in (
      search rules,
      search rules,
      subst (λ (bs : List ℕ). Consumes (left c.args.input.now) (left c.read.new.self) bs) (sym (front o.buf part (drop (length o.buf - o.done) (drop o.done o.buf)) o.done n o.invariant.0 (omega (arith, c.in_ok-n.ensures.bound))))
          (Consumes-trans _ _ _ _ _ o.invariant.2 c.in_ok-n.ensures.bytes.0),
    )
