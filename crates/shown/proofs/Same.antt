-- The record of a finding does not look at welded numbers, nor at the tolerance.
use Prim.Native.Nat.{ℕ}
use mathlib.Core.Path.{◌≡◌, refl}
use mathlib.Core.List.{List}
use lib.Ieee.{Float}
use Rattle.findings.specs.Findings.{Finding, bowtie, overfull, partly, repeated}
use Rattle.findings.specs.Rules.{rules_with}
use Rattle.findings.specs.Records.{centre_in, record_of}

-- the record of a finding is the same under every tolerance and every welded map
pub records_same : (c : List Float) (tol tol' : Float) (ws ws' : List ℕ) (x : Finding) → record_of (rules_with c tol ws) x ≡ record_of (rules_with c tol' ws') x
unfolding record_of centre_in rules_with
records_same c tol tol' ws ws' (bowtie d) = refl
records_same c tol tol' ws ws' (overfull c₁ c₂ f n k os) = refl
records_same c tol tol' ws ws' (partly c₁ c₂ a b ns) = refl
records_same c tol tol' ws ws' (repeated d a b) = refl
