-- The kinds as an enum.
use Rattle.std.specs.Prelude.{ℕ, true, false, ◌≡◌, Result, MatchResult}
use Rattle.refusals.specs.declared.Refusal.{Refusal}
use Rattle.refusals.specs.declared.Refusal.TheVariants.{Cell}
use Rattle.mesh.specs.Model.{TET4, HEX8, WEDGE6, PHED}
use Rattle.mesh.specs.Acceptance.{kind_off}
use Rattle.mesh.specs.declared.kind.Kind.{Kind}
use Rattle.mesh.specs.declared.kind.Kind.TheVariants.{Tet4, Hex8, Wedge6, Phed}

-- the number in a model's list of kinds
abbrev pub kind_number : Kind → ℕ
kind_number Tet4 = TET4
kind_number Hex8 = HEX8
kind_number Wedge6 = WEDGE6
kind_number Phed = PHED

-- For internal contracts: what reading a kind's number gives.
abbrev pub KindRead : ℕ → Result Kind Refusal → Type 0
KindRead n r = MatchResult r (λ k. kind_number k ≡ n) (λ e. (e ≡ Cell) × (kind_off 0 n ≡ true))

-- and the kind of a cell after one of kind `before`
abbrev pub KindAfter : ℕ → ℕ → Result Kind Refusal → Type 0
KindAfter before n r =
    MatchResult r (λ k. (kind_number k ≡ n) × (kind_off before n ≡ false)) (λ e. (e ≡ Cell) × (kind_off before n ≡ true))
