-- What an exported function answers, and what it writes for its answer.
use Rattle.std.specs.Prelude.{ℕ, cond, ◌≡◌, eqb}

-- v where n, the refusal, is 0; unchanged where it is not
abbrev pub written : {A : Type 0} → ℕ → A → A → A
written n v lent = cond (eqb n 0) v lent

-- r is 0 or the refusal's number n; what is lent for an answer becomes v where that is 0, and stays where it is not
pub record Exported {A : Type 0} (n : ℕ) (v lent lent' : A) (r : ℕ) : Type 0 where
  pub answered : r ≡ n
  pub lent_is : lent' ≡ written n v lent
