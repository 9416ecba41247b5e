-- For internal contracts: a text written behind others.
use Rattle.std.specs.Prelude.{ℕ, ◌+◌, ◌≤◌, ◌≡◌, List, length}
use Rattle.report_text.specs.declared.Text.{Text}
use Rattle.report_text.specs.Stored.{Stored}

-- a text of at most `most` bytes comes behind what is written in t, which becomes t'
pub record Wrote (most : ℕ) (text : List ℕ) (t t' : Text) : Type 0 where
  pub same_reference : t'.out.ghost_name ≡ t.out.ghost_name
  pub stored : Stored t.out.now t.at text t'.out.now t'.at
  pub few : t'.at ≤ t.at + most
  pub room : length t'.out.now ≡ length t.out.now
