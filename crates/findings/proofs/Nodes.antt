-- The common nodes of two rings, and the test of two rings, are the same either way round.
use Prim.Native.Nat.{ℕ}
use mathlib.Core.Path.{◌≡◌, sym, ◌∙◌}
use mathlib.Core.Bool.{Bool, and_comm}
use mathlib.Core.List.{List}
use lib.Dec.{leb}
use Rattle.laws.specs.Lists.{distinct, elem}
use Rattle.laws.proofs.ListLaws.{eql_comm}
use Rattle.laws.proofs.Ascending.{asc_ext, asc_keep, asc_distinct, elem-keep}
use Rattle.findings.specs.Findings.{common, sharing, meets}

-- common nodes either way round
pub common_comm : (r s : List ℕ) → common r s ≡ common s r
unfolding common
common_comm r s =
    let in-r : ℕ → Bool = λ n. elem n (distinct leb r) in
    let in-s : ℕ → Bool = λ n. elem n (distinct leb s) in
    asc_ext (common r s) (common s r) (asc_keep in-s (distinct leb r) (asc_distinct r)) (asc_keep in-r (distinct leb s) (asc_distinct s))
    (λ n. elem-keep n in-s (distinct leb r) ∙ and_comm (in-s n) (in-r n) ∙ sym (elem-keep n in-r (distinct leb s)))

-- two rings meet either way round
pub meets_comm : (spans : List ℕ → Bool) (r s : List ℕ) → meets spans r s ≡ meets spans s r
unfolding meets sharing
meets_comm spans r s =
    let unlike = eql_comm (distinct leb r) (distinct leb s) in
    let alike = common_comm r s in
    cc
