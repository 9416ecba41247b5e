-- The exported welding, area test and root.
use Rattle.std.specs.Prelude.{ℕ, List, ◌≡◌, Float}
use Rattle.laws.specs.Refusals.{refusal}
use Rattle.floats.specs.Root.{sqrt}
use Rattle.floats.specs.RootAnswer.{root_table}
use Rattle.geometry.specs.Points.{points_of}
use Rattle.area.specs.AreaTest.{area_of, area_number, area_table}
use Rattle.mesh.specs.Model.{Model}
use Rattle.welding.specs.Welding.{weld_refusal, WeldMemory}
use Rattle.capi.specs.Written.{Exported}

-- Welding: 0 or the refusal's number; map and scratch as welding promises them.
pub record WeldExport (m : Model) (map map' scratch scratch' : List ℕ) (r : ℕ) : Type 0 where
  pub answered : r ≡ weld_refusal m map scratch
  pub memory : WeldMemory m map map' scratch scratch'

-- Area test: 0 or the refusal's number; the number of what the test says.
abbrev pub AreaExport : List Float → List ℕ → Float → ℕ → ℕ → ℕ → Type 0
AreaExport c ks tol says says' r = Exported (refusal (area_table c ks tol)) (area_number (area_of tol (points_of c ks))) says says' r

-- Root: 0 or 13; the root.
abbrev pub RootExport : Float → Float → Float → ℕ → Type 0
RootExport x root root' r = Exported (refusal (root_table x)) (sqrt x) root root' r
