-- For internal contracts only: a whole root with its rest.
use Rattle.std.specs.Prelude.{◌≡◌, ℕ, ◌+◌, ◌*◌, ◌≤◌}

-- r is the whole root of n, and s what is left over
pub record Rest (n r s : ℕ) : Type 0 where
  pub whole : r * r + s ≡ n
  pub small : s ≤ 2 * r
