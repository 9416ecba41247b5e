-- The extent by one root: the root of the largest d · d.
use mathlib.Core.Path.{◌≡◌, refl, sym, ap, ◌∙◌}
use mathlib.Core.List.{List, [], ◌∷◌}
use lib.Dec.{T}
use lib.Ieee.{Float, binary64, fits, mul, add}
use lib.Ieee.Fits.{add-fits}
use Rattle.laws.specs.Lists.{fold}
use Rattle.floats.specs.Floats.{zero64, larger_of}
use Rattle.floats.specs.Root.{sqrt}
use Rattle.floats.proofs.Monotone.{grown, larger_root, larger_grown, larger_fits}
use Rattle.geometry.specs.declared.Point.{Point}
use Rattle.geometry.specs.Points.{point_dot, length_of}
use Rattle.area.specs.AreaTest.{extent_of}
use Rattle.area.specs.Steps.{most_from, most_of}

-- d · d fits
dot_fits : (d : Point) → T (fits binary64 (point_dot d d))
unfolding point_dot
dot_fits d = add-fits binary64 (add binary64 (mul binary64 d.x d.x) (mul binary64 d.y d.y)) (mul binary64 d.z d.z)

-- one difference more
extent_next : (m : Float) (d : Point) → T (fits binary64 m) → T (grown m) → larger_of (sqrt m) (length_of d) ≡ sqrt (larger_of m (point_dot d d))
unfolding length_of
extent_next m d f g = sym (larger_root m (point_dot d d) f (dot_fits d) g)

-- all of them
extent_from : (m : Float) (ds : List Point) → T (fits binary64 m) → T (grown m) → fold (λ (x : Float) (d : Point). larger_of x (length_of d)) (sqrt m) ds ≡ sqrt (most_from m ds)
extent_from m [] f g = refl
extent_from m (d ∷ ds) f g =
    ap (λ (x : Float). fold (λ (y : Float) (d : Point). larger_of y (length_of d)) x ds) (extent_next m d f g)
    ∙ extent_from (larger_of m (point_dot d d)) ds (larger_fits m (point_dot d d) f (dot_fits d)) (larger_grown m (point_dot d d) g)

-- 0 is its own root
zero_root : sqrt zero64 ≡ zero64
unfolding sqrt
zero_root = refl

-- 0 fits
zero_fits : T (fits binary64 zero64)
unfolding fits
zero_fits = tt

-- the extent is the root of the largest d · d
pub extent_root : (ds : List Point) → sqrt (most_of ds) ≡ extent_of ds
extent_root ds = sym (ap (λ (x : Float). fold (λ (y : Float) (d : Point). larger_of y (length_of d)) x ds) (sym zero_root) ∙ extent_from zero64 ds zero_fits tt)
