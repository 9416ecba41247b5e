-- For internal contracts only: what the functions on nodes ask of their callers.
use Rattle.std.specs.Prelude.{ℕ, ◌*◌, ◌+◌, ◌<◌, List, length, get_or, Float}

-- each number is a node's
abbrev pub InNodes : List Float → List ℕ → Type 0
InNodes c ks = (i : ℕ) → i < length ks → get_or ks i 0 * 3 + 2 < length c
