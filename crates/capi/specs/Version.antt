-- The number of the interface.
use Rattle.std.specs.Prelude.{ℕ}

abbrev pub version : ℕ
version = 2
