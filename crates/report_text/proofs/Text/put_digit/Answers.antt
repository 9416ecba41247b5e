-- `report_text::Text::put_digit` meets its contract: the decimal of a number below ten is one digit.
use Prim.Native.Nat.{ℕ, ◌+◌}
use mathlib.Core.Path.{refl, sym, ap}
use mathlib.Core.List.{List}
use native.Mathlib.Omega.{arith}
use lib.ListN.{length, length-set}
use lib.Seq.{sets}
use Rattle.report_text.proofs.Texts.{one_digit}
use Rattle.report_text.proofs.Text.put_digit.Goals as goal

pub returns : goal.returns
returns c =
    let t = c.args.self.now in
    let n = c.args.n in
    let one = one_digit n c.requires.0 in
    record {
      same_reference = refl;
      stored = (sym (ap (sets t.out.now t.at) one), sym (ap (λ (l : List ℕ). t.at + length l) one));
      few = omega arith;
      room = length-set t.out.now t.at (48 + n);
    }
