-- What the types of lent slices say of a model and of bytes: each value fits its type.
use Rattle.std.specs.Prelude.{ℕ, ◌<◌, T, Float}
use Rattle.std.specs.Float.{binary64}
use Rattle.std.specs.Float.Ieee.{fits}
use Rattle.laws.specs.Lists.{All}
use Rattle.mesh.specs.Model.{Model}

-- a value of a u8
abbrev pub Byte : ℕ → Type 0
Byte b = b < 256

-- a value of an f64
abbrev pub Fits : Float → Type 0
Fits x = T (fits binary64 x)

-- A model's coordinates and tolerance are values of an f64, its cap one of 16 bits. What else a file needs follows from acceptance.
pub record Held (m : Model) : Type 0 where
  pub coords : All Fits m.coords
  pub tolerance : Fits m.tolerance
  pub cap : m.cap < 65536
