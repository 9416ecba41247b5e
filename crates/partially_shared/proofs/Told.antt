-- The record of a pair that a mark tells.
use Prim.Native.Nat.{ℕ, ◌-◌, ◌≤◌}
use mathlib.Core.Path.{◌≡◌, sym, ◌∙◌}
use mathlib.Core.List.{List}
use lib.ListN.{length}
use lib.Ieee.{Float}
use Rattle.geometry.specs.declared.Point.{Point}
use Rattle.geometry.specs.Points.{points_of, centre_of}
use Rattle.findings.specs.Rules.{rules_with}
use Rattle.findings.specs.Records.{fields_of, centre_in}
use Rattle.index.specs.Faces.{input, base, nodes_of}
use Rattle.seek.specs.Candidates.{common}
use Rattle.seek.proofs.Searching.{input_base}
use Rattle.layout.specs.declared.Layout.{Layout}
use Rattle.layout.specs.ByCell.{plain_rules}
use Rattle.partially_shared.specs.Hits.{told_by}

-- its fields, of the face before the mark m and the other word
pub told_fields : (l : Layout) (w : List ℕ) (c b m o k : ℕ) → l.at.offsets ≤ l.at.found
    → k ≡ length (common (nodes_of l.at (input l.at (base l.at w)) (m - 1)) (nodes_of l.at (input l.at (base l.at w)) o))
    → fields_of (told_by l (input l.at w) c b m o) ≡ record { kind = 3; first = c; second = b; a = m - 1; b = o; count = k }
unfolding told_by fields_of
told_fields l w c b m o k h ek = rw (ek, input_base l.at w h)

-- and its centre
pub told_centre : (l : Layout) (w : List ℕ) (x : List Float) (tol : Float) (c b m o : ℕ) (p : Point) → l.at.offsets ≤ l.at.found
    → p ≡ centre_of (points_of x (common (nodes_of l.at (input l.at (base l.at w)) (m - 1)) (nodes_of l.at (input l.at (base l.at w)) o)))
    → centre_in (plain_rules x tol) (told_by l (input l.at w) c b m o) ≡ p
unfolding told_by centre_in rules_with
told_centre l w x tol c b m o p h e = sym (e ∙ rw (input_base l.at w h))
